-- What the definitions read from the computed model is what the papers' letters say.
use mathlib.Core.Path.{◌≡◌, refl}
use mathlib.Core.Logic.{◌↔◌}
use mathlib.Core.Bool.{Bool, ◌&&◌}
use mathlib.Core.List.{List, []}
use Prim.Native.Nat.{ℕ, ◌+◌, ◌*◌, ◌/◌, ◌%◌, ◌<◌}
use native.Mathlib.Omega.{arith}
use lib.Dec.{T, eqb, ltb, eqb→eq, lt→ltb, eqb-zero-suc}
use lib.Arith.{digits_div, digits_mod, digits_lt}
use Rattle.gdl.specs.Game.{Atom, Clause, Game, role_kind, init_kind, legal_kind, next_kind, sees_kind, terminal_kind, goal_kind, is_atom, atom_at}
use Rattle.gdl.specs.Sets.{Atoms}
use Rattle.gdl.specs.Truth.{State, empty_state, Joint, nobody, facts_of, Entails}
use Rattle.gdl.specs.Published.{R, s₁, t, l, u, 𝓘, g}
use Rattle.gdl.specs.Flags.{on}
use Rattle.gdl.specs.Computed.{did}
use Rattle.gdl.proofs.Tests.{and_left, and_right, and_both}
use Rattle.gdl.proofs.Stable.{standard_stable}
use Rattle.gdl.proofs.Modelled.{reads}
use Rattle.rules.specs.Limits.{first_end, second_end}
use Rattle.rules.specs.Accepted.{BareRole, Accepted}
use Rattle.gdl.specs.Lists.{flags}
use Rattle.session.specs.Shape.{fluent_fits, percept_fits}
use Rattle.session.specs.declared.Session.{Session}
use Rattle.gdl.proofs.Walks.{flag_on}
use Rattle.calls.specs.Position.{atom_in, still, moved, over, legal, goal, opened, played}
use Rattle.calls.specs.Published.{state_of}

module _ (G : Game) (ok : Accepted G) where
  -- ---- reading the model

  idle : (s m : ℕ) → did [] s m ≡ nobody s m
  idle s m = eqb-zero-suc m

  still_reads : (pos : List ℕ) (k x y : ℕ) → T (atom_in G (on (still G pos)) k x y) ↔ Entails G (on pos) nobody k x y
  unfolding still
  still_reads pos = reads G ok.valid pos [] (on pos) nobody (λ f. refl) idle

  empty_reads : (k x y : ℕ) → T (atom_in G (on (still G [])) k x y) ↔ Entails G empty_state nobody k x y
  unfolding still
  empty_reads = reads G ok.valid [] [] empty_state nobody (λ f. refl) idle

  moved_reads : (pos ch : List ℕ) (k x y : ℕ) → T (atom_in G (on (moved G pos ch)) k x y) ↔ Entails G (on pos) (did ch) k x y
  unfolding moved
  moved_reads pos ch = reads G ok.valid pos ch (on pos) (did ch) (λ f. refl) (λ s m. refl)

  pub over_means : (pos : List ℕ) → T (over G pos) ↔ t G (on pos)
  unfolding over
  over_means pos = still_reads pos terminal_kind 0 0

  pub legal_means : (pos : List ℕ) (r m : ℕ) → T (legal G pos r m) ↔ l G r m (on pos)
  unfolding legal
  legal_means pos r m = still_reads pos legal_kind r m

  pub goal_means : (pos : List ℕ) (r n : ℕ) → T (goal G pos r n) ↔ g G r n (on pos)
  unfolding goal
  goal_means pos r n = still_reads pos goal_kind r n

  -- ---- an entailed atom's fields are in their bounds

  pub bounds : (S : State) (A : Joint) (k x y : ℕ) → Entails G S A k x y → (x < first_end G k) × (y < second_end G k)
  bounds S A k x y e = go (atom_at G e.atom) e.named (ok.limits.firsts e.atom e.in_table) (ok.limits.seconds e.atom e.in_table)
    where
      go : (a : Atom) → T (is_atom k x y a) → a.first < first_end G a.kind → a.second < second_end G a.kind → (x < first_end G k) × (y < second_end G k)
      go a n p q =
          let fs : T (eqb a.first x && eqb a.second y) = and_right (eqb a.kind k) (eqb a.first x && eqb a.second y) n in
          let ek : a.kind ≡ k = eqb→eq a.kind k (and_left (eqb a.kind k) (eqb a.first x && eqb a.second y) n) in
          let ex : a.first ≡ x = eqb→eq a.first x (and_left (eqb a.first x) (eqb a.second y) fs) in
          let ey : a.second ≡ y = eqb→eq a.second y (and_right (eqb a.first x) (eqb a.second y) fs) in
          (rw (ek, ex) at p, rw (ek, ey) at q)

  -- ---- roles, opening, next, percepts

  pub roles_mean : (r : ℕ) → (r < G.seats) ↔ R G r
  roles_mean r = (λ lt. fact (ok.roles r lt), λ e. (bounds empty_state nobody role_kind r 0 e).0)
    where
      fact : BareRole G r → R G r
      fact b =
          let c : Clause = b.fact.clause in
          record {
            atom = c.head;
            in_table = ok.valid.heads c b.fact.in_table;
            named = b.fact.is_role;
            holds = λ X m. (standard_stable G.clauses m.numbering m.allowed (facts_of G empty_state nobody) X m.standard).closed.fires c b.fact.in_table (rw b.bare tt);
          }

  -- the flags of the fluents whose atom of kind k is in a set, where that means P
  fluents_mean : (X : Atoms) (k : ℕ) (P : ℕ → Type 0) → ((f : ℕ) → T (atom_in G X k f 0) ↔ P f) → ((f : ℕ) → P f → f < G.fluents)
      → (f : ℕ) → T (on (flags 512 (λ f. fluent_fits G f && atom_in G X k f 0)) f) ↔ P f
  fluents_mean X k P h in_bounds f = (
    λ x. (h f).0 (and_right (fluent_fits G f) (atom_in G X k f 0) ((flag_on 512 (λ f. fluent_fits G f && atom_in G X k f 0) f).0 x).1),
    λ p.
        let lt : f < G.fluents = in_bounds f p in
        (flag_on 512 (λ f. fluent_fits G f && atom_in G X k f 0) f).1 (omega (arith, ok.limits.fluents), and_both (fluent_fits G f) (atom_in G X k f 0) (lt→ltb f G.fluents lt) ((h f).1 p)),
  )

  pub opening_means : (f : ℕ) → T (on (opened G).position f) ↔ s₁ G f
  unfolding opened
  opening_means = fluents_mean (on (still G [])) init_kind (s₁ G) (λ f. empty_reads init_kind f 0) (λ f e. (bounds empty_state nobody init_kind f 0 e).0)

  pub next_means : (σ : Session) (f : ℕ) → T (on (played G σ).position f) ↔ u G (did σ.choices) (state_of σ) f
  unfolding played
  next_means σ = fluents_mean (on (moved G σ.position σ.choices)) next_kind (u G (did σ.choices) (state_of σ))
      (λ f. moved_reads σ.position σ.choices next_kind f 0) (λ f e. (bounds (state_of σ) (did σ.choices) next_kind f 0 e).0)

  pub percepts_mean : (σ : Session) (r p : ℕ) → p < 256 → T (on (played G σ).percepts (r * 256 + p)) ↔ 𝓘 G r (did σ.choices) (state_of σ) p
  unfolding played
  percepts_mean σ r p small =
      let i : ℕ = r * 256 + p in
      let M : Atoms = on (moved G σ.position σ.choices) in
      let hi : i / 256 ≡ r = digits_div r small in
      let lo : i % 256 ≡ p = digits_mod r small in
      let seen : ℕ → Bool = λ i. percept_fits G i && atom_in G M sees_kind (i / 256) (i % 256) in (
        λ x. (moved_reads σ.position σ.choices sees_kind r p).0
            (let y : T (atom_in G M sees_kind (i / 256) (i % 256)) = and_right (percept_fits G i) (atom_in G M sees_kind (i / 256) (i % 256)) ((flag_on 2048 seen i).0 x).1 in rw (hi, lo) at y),
        λ e.
            let b = bounds (state_of σ) (did σ.choices) sees_kind r p e in
            let few : r < 8 = omega (arith, ok.limits.seats, b.0) in
            (flag_on 2048 seen i).1 (
              digits_lt few small,
              and_both (percept_fits G i) (atom_in G M sees_kind (i / 256) (i % 256))
                  (rw (hi, lo) (and_both (ltb r G.seats) (ltb p G.percepts) (lt→ltb r G.seats b.0) (lt→ltb p G.percepts b.1)))
                  (rw (hi, lo) ((moved_reads σ.position σ.choices sees_kind r p).1 e)),
            ),
      )

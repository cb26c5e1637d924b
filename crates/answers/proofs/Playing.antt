-- What play makes of a record: the percepts from marks, and the lowest seat at which a test strikes.
use mathlib.Core.Path.{◌≡◌, refl, sym, ap, subst, ◌∙◌}
use mathlib.Core.Bool.{Bool, false, not, ◌&&◌}
use mathlib.Core.List.{List}
use Prim.Native.Nat.{ℕ, zero, suc, ◌+◌, ◌-◌, ◌/◌, ◌%◌, ◌≤◌, ◌<◌}
use native.Mathlib.Omega.{arith}
use native.Mathlib.Numerals.{add-one}
use lib.Dec.{T, eqb, ltb, lt→ltb}
use lib.ListN.{get_or, take}
use Rattle.refusals.specs.Ruling.{Found, nowhere, found, lowest}
use Rattle.refusals.proofs.Ruling.{LowestOf, by_lowest}
use Rattle.gdl.specs.Game.{Game, next_kind, sees_kind}
use Rattle.gdl.specs.Sets.{Atoms}
use Rattle.gdl.specs.Flags.{on, blank}
use Rattle.gdl.specs.Lists.{flags}
use Rattle.gdl.specs.Computed.{model, any_of}
use Rattle.gdl.proofs.Tests.{and_both}
use Rattle.gdl.proofs.Walks.{flags_same}
use Rattle.rules.specs.Accepted.{Accepted}
use Rattle.session.specs.Shape.{fluent_fits, percept_fits}
use Rattle.session.specs.declared.Session.{Session}
use Rattle.session.specs.declared.shape.Limits.{Limits}
use Rattle.session.proofs.Shapes.{shaped_parts, choices_mean}
use Rattle.truth.specs.Marks.{is_at, marks_of}
use Rattle.verdict.specs.Consulted.{Consulted, found_in}
use Rattle.calls.specs.Position.{atom_in, moved, played}
use Rattle.calls.proofs.Rulings.{from_true, from_false, no_lowest}
use Rattle.calls.specs.Calls.{unchosen, illegal}
use Rattle.answers.specs.Lowest.{NoneBelow, Lowest, Chosen, lacks, wrongs}
use Rattle.answers.proofs.Reading.{wide_at, fits, only_fitting}
use Rattle.answers.proofs.Asking.{MarksIn, Consults, legal_mark}
use Rattle.answers.proofs.Outcomes.{Goes, seats_are}
use Rattle.answers.proofs.Opening.{position_is}

-- ---- percepts

pub percepts_are : (G : Game) → Accepted G → (X : Atoms) (marks : List ℕ) → marks ≡ marks_of 7 256 G.atoms X
    → marks ≡ flags 2048 (λ i. percept_fits G i && atom_in G X sees_kind (i / 256) (i % 256))
unfolding marks_of
percepts_are G ok X marks e =
    e ∙ flags_same (λ i. any_of (is_at 7 256 i) G.atoms X) (λ i. percept_fits G i && atom_in G X sees_kind (i / 256) (i % 256)) 2048 (λ i h.
    wide_at G ok.limits X 7 ok.limits.percepts i ∙ only_fitting G ok.limits X 7 (percept_fits G i) (atom_in G X 7 (i / 256) (i % 256)) (λ t.
    let b = fits G ok.limits X 7 (i / 256) (i % 256) t in
    and_both (ltb (i / 256) G.seats) (ltb (i % 256) G.percepts) (lt→ltb (i / 256) G.seats b.0) (lt→ltb (i % 256) G.percepts b.1)))

-- ---- the lowest seat

lowest_found : (f : ℕ → Bool) (n r : ℕ) → Lowest f n r → lowest f 0 n ≡ found r
lowest_found f n r h = by_lowest f 0 n (λ (x : Found). x ≡ found r) (λ none. absurd (none r (omega arith) (omega (arith, h.within)) (from_true (f r) h.passes))) at_r
  where
    at_r : (p : ℕ) → LowestOf f 0 n p → found p ≡ found r
    at_r p s =
        let above : p < r → ⊥ = λ lt. from_false (f p) (h.none p lt) s.passes in
        let under : r < p → ⊥ = λ lt. s.lowest r (omega arith) lt (from_true (f r) h.passes) in
        ap found (omega arith)

-- ---- the tests of play, from what was read

module _ (G : Game) (σ : Session) {l : Limits} (g : Goes G σ l) (ok : Accepted G) where
  here : (f : ℕ → Bool) → lowest f 0 l.seats ≡ lowest f 0 G.seats
  here f = ap (λ (n : ℕ). lowest f 0 n) (seats_are G g.limits)

  pub one_lacks : {r : ℕ} → Lowest (lacks σ.choices) l.seats r → lowest (unchosen σ) 0 G.seats ≡ found r
  one_lacks {r} h = sym (here (unchosen σ)) ∙ lowest_found (unchosen σ) l.seats r h

  module _ (none : NoneBelow (lacks σ.choices) l.seats) where
    pub none_lacks : lowest (unchosen σ) 0 G.seats ≡ nowhere
    none_lacks = sym (here (unchosen σ)) ∙ no_lowest (unchosen σ) l.seats none

    pub all_chose : Chosen σ.choices l.seats
    all_chose = record { few = omega (arith, seats_are G g.limits, ok.limits.seats); some = λ s lt. some s (none s lt); within = λ s lt. within s (get_or σ.choices s 0) refl }
      where
        some : (s : ℕ) → eqb (get_or σ.choices s 0) 0 ≡ false → 1 ≤ get_or σ.choices s 0
        some s n = go (get_or σ.choices s 0) n
          where
            go : (x : ℕ) → eqb x 0 ≡ false → 1 ≤ x
            go zero n = absurd (subst T n tt)
            go (suc x) n = omega arith

        within : (s x : ℕ) → get_or σ.choices s 0 ≡ x → get_or σ.choices s 0 ≤ 256
        within s zero q = omega (arith, q)
        within s (suc m) q = omega (arith, q, ((choices_mean G σ.choices).0 (shaped_parts G σ (rw g.shape tt)).choices).moves s m q, ok.limits.moves)

    module _ {c : Consulted} {ch : List ℕ} (w : Consults c G σ.position ch) {legals : List ℕ} (el : MarksIn c 5 256 legals) where
      same_test : (s : ℕ) → s < l.seats → wrongs σ.choices legals s ≡ illegal G σ s
      same_test s lt =
          let all = all_chose in
          ap not (legal_mark w el s (get_or σ.choices s 0 - 1) (omega (arith, all.within s lt, all.some s lt)) (omega (arith, all.few)))

      pub one_illegal : {r : ℕ} → Lowest (wrongs σ.choices legals) l.seats r → lowest (illegal G σ) 0 G.seats ≡ found r
      one_illegal {r} h =
          sym (here (illegal G σ)) ∙ lowest_found (illegal G σ) l.seats r (record {
            within = h.within;
            passes = sym (same_test r h.within) ∙ h.passes;
            none = λ q lt. sym (same_test q (omega (arith, h.within))) ∙ h.none q lt;
          })

      pub none_illegal : NoneBelow (wrongs σ.choices legals) l.seats → lowest (illegal G σ) 0 G.seats ≡ nowhere
      none_illegal h = sym (here (illegal G σ)) ∙ no_lowest (illegal G σ) l.seats (λ q lt. sym (same_test q lt) ∙ h q lt)

-- ---- the record after play

pub record_is : (G : Game) → Accepted G → (σ : Session) {c : Consulted} → c ≡ found_in G (model G σ.position σ.choices) → {nexts position choices percepts : List ℕ} → MarksIn c 6 1 nexts → position ≡ take 512 nexts
    → choices ≡ blank 8 → MarksIn c 7 256 percepts → ◌≡◌ {A = Session} (record { position = position; choices = choices; percepts = percepts; round = σ.round + 1 }) (played G σ)
unfolding played moved
record_is G ok σ e {nexts} {position} {choices} {percepts} en ep ec es =
    let X : List ℕ = model G σ.position σ.choices in
    let p : position ≡ flags 512 (λ f. fluent_fits G f && atom_in G (on X) next_kind f 0) = ep ∙ position_is G ok (on X) 6 (omega arith) refl nexts (en G X e ok.limits.atoms) in
    let s : percepts ≡ flags 2048 (λ i. percept_fits G i && atom_in G (on X) sees_kind (i / 256) (i % 256)) = percepts_are G ok (on X) percepts (es G X e ok.limits.atoms) in
    rw (p, ec, s, add-one σ.round) refl

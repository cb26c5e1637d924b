-- What a history makes of the record: it is well shaped; position, percepts and round are those of the rounds played; a seat's choice and the
-- answers to its offers in the current part come from the position and its own offers alone.
use mathlib.Core.Path.{◌≡◌, refl, sym, ap, subst, ◌∙◌}
use mathlib.Core.Logic.{◌≢◌}
use mathlib.Core.Bool.{Bool, true, false, not, ◌&&◌, ◌||◌, cond}
use mathlib.Core.List.{List, [], ◌∷◌, map}
use Prim.Native.Nat.{ℕ, suc, ◌/◌, ◌%◌, ◌<◌}
use native.Mathlib.Omega.{arith}
use lib.Dec.{eqb, leb, eqb-suc-zero}
use lib.ListN.{length, length-set}
use lib.Seq.{get_or-set_same, get_or-set_other}
use borrow.Author.Tests.{eqb-true, eqb-false, leb-false}
use Rattle.refusals.specs.declared.Refusal.{Refusal}
use Rattle.refusals.specs.declared.Refusal.TheVariants.{Success, NoSuchSeat, NoSuchMove, AlreadyChosen, NotLegal, GameOver, BadShape}
use Rattle.refusals.specs.Ruling.{Test, refuse◌when◌, Ruling, passed, refused, first_of}
use Rattle.gdl.specs.Game.{Game, next_kind, sees_kind}
use Rattle.gdl.specs.Flags.{on}
use Rattle.rules.specs.Verdict.{fit}
use Rattle.rules.specs.Accepted.{Accepted}
use Rattle.gdl.specs.Lists.{flags}
use Rattle.session.specs.Shape.{fluent_fits, percept_fits, shaped}
use Rattle.session.specs.declared.Session.{Session}
use Rattle.gdl.proofs.Walks.{zeros}
use Rattle.session.proofs.Shapes.{Shaped, shaped_is}
use Rattle.calls.specs.declared.Moved.{Moved}
use Rattle.calls.specs.Answer.{is_success, settle}
use Rattle.calls.specs.Position.{atom_in, moved, over, legal, opened, stored, played}
use Rattle.calls.specs.Calls.{chosen, offer_tests, play_tests, open_game, offer, play}
use Rattle.calls.proofs.Rulings.{is_true_lem, AllKept, Fails, refused_by_lem, by_ruling}
use Rattle.calls.proofs.Passing.{offer_kept, play_kept}
use Rattle.calls.proofs.Shaping.{opened_shaped, stored_shaped, played_shaped}
use Rattle.secrecy.specs.Histories.{promised, offering, playing, History, opening, ◌▷◌, run, goes_on, rounds, Tried, move_of, current}

-- a record with other choices
abbrev pub choosing : Session → List ℕ → Session
choosing σ ch = record { position = σ.position; choices = ch; percepts = σ.percepts; round = σ.round }

-- the record that rounds lead to
unfoldable pub replay : Game → List (List ℕ) → Session
replay G [] = opened G
replay G (ch ∷ cs) = played G (choosing (replay G cs) ch)

-- ---- the answers to a seat's offers, from the position and its own earlier ones

-- one of the seat's offers was accepted
abbrev pub accepts : List Tried → Bool
accepts [] = false
accepts (e ∷ c) = is_success e.refusal || accepts c

-- offer's tests on a well-shaped record, b saying whether the seat has chosen
unfoldable pub own_tests : Game → ℕ → List ℕ → Bool → ℕ → List Test
own_tests G z pos b m =
    refuse BadShape when false ∷
    refuse GameOver when over G pos ∷
    refuse NoSuchSeat when leb G.seats z ∷
    refuse NoSuchMove when leb G.moves m ∷
    refuse AlreadyChosen when b ∷
    refuse NotLegal 0 when not (legal G pos z m) ∷ []

unfoldable pub own_answer : Game → ℕ → List ℕ → Bool → ℕ → Refusal
own_answer G z pos b m = settle (first_of (own_tests G z pos b m)) (λ r. r) Success

-- each answer is the one that `by` gives, from whether an earlier offer was accepted and from the move
abbrev pub Explained : (Bool → ℕ → Refusal) → List Tried → Type 0
Explained by [] = Unit {0}
Explained by (e ∷ c) = (e.refusal ≡ by (accepts c) e.move) × Explained by c

tried_same : (m m' : ℕ) (r r' : Refusal) → m ≡ m' → r ≡ r' → ◌≡◌ {A = Tried} (record { move = m; refusal = r }) (record { move = m'; refusal = r' })
tried_same m m' r r' a b = cc

-- so equal offers have equal answers
pub explained_same : (by by' : Bool → ℕ → Refusal) → ((b : Bool) (m : ℕ) → by b m ≡ by' b m) → (c c' : List Tried)
    → Explained by c → Explained by' c' → map move_of c ≡ map move_of c' → c ≡ c'
explained_same by by' h [] [] x y e = refl
explained_same by by' h [] (e₁ ∷ c') x y e = cc
explained_same by by' h (e₁ ∷ c) [] x y e = cc
explained_same by by' h (e₁ ∷ c) (e₂ ∷ c') x y e =
    let rest : map move_of c ≡ map move_of c' = cc in
    let first : e₁.move ≡ e₂.move = cc in
    let same : c ≡ c' = explained_same by by' h c c' x.1 y.1 rest in
    let answer : e₁.refusal ≡ e₂.refusal = x.0 ∙ (h (accepts c) e₁.move ∙ (rw (same, first) (sym y.0))) in
    let one : e₁ ≡ e₂ = tried_same e₁.move e₂.move e₁.refusal e₂.refusal first answer in
    cc

module _ (G : Game) (ok : Accepted G) (z : ℕ) where
  -- the record, the rounds played and the seat's offers since, of a history
  pub record Good (σ : Session) (rs : List (List ℕ)) (cs : List Tried) : Type 0 where
    pub shape : Shaped G σ
    pub size : length σ.choices ≡ 8
    pub position : σ.position ≡ (replay G rs).position
    pub percepts : σ.percepts ≡ (replay G rs).percepts
    pub round : σ.round ≡ (replay G rs).round
    pub explained : Explained (own_answer G z σ.position) cs
    pub choice : chosen σ z ≡ accepts cs

  -- the answer to the seat's own offer
  own_offer : (σ : Session) (b : Bool) (m : ℕ) → shaped G σ ≡ true → chosen σ z ≡ b → (offer (fit G) σ z m).refusal ≡ own_answer G z σ.position b m
  unfolding offer offer_tests own_answer own_tests
  own_offer σ b m s e = rw (s, e) (go (first_of (own_tests G z σ.position b m)))
    where
      refusal_of : Moved → Refusal
      refusal_of a = a.refusal

      go : (a : Ruling) → refusal_of (settle a (λ r. record { refusal = r; session = σ }) (record { refusal = Success; session = stored σ z m })) ≡ settle a (λ r. r) Success
      go passed = refl
      go (refused r) = refl

  offer_own : (σ : Session) (rs : List (List ℕ)) (cs : List Tried) (m : ℕ) → Good σ rs cs
      → Good (offer (fit G) σ z m).session rs (record { move = m; refusal = (offer (fit G) σ z m).refusal } ∷ cs)
  unfolding offer offer_tests stored
  offer_own σ rs cs m h = by_ruling
      (λ (a : Moved). a.refusal ≡ own_answer G z σ.position (accepts cs) m → Good a.session rs (record { move = m; refusal = a.refusal } ∷ cs)) (offer_tests σ z m G)
      (λ r. record { refusal = r; session = σ }) (record { refusal = Success; session = stored σ z m }) accepted declined
      (own_offer σ (accepts cs) m (is_true_lem (shaped G σ) (shaped_is G σ h.shape)) h.choice)
    where
      accepted : AllKept (offer_tests σ z m G) → Success ≡ own_answer G z σ.position (accepts cs) m → Good (stored σ z m) rs (record { move = m; refusal = Success } ∷ cs)
      accepted k e =
          let w = offer_kept G σ z m k in
          let seat : z < G.seats = leb-false G.seats z w.seat in
          let lt : z < length σ.choices = omega (arith, h.size, ok.limits.seats) in
          record {
            shape = stored_shaped G σ z m h.shape seat (leb-false G.moves m w.move);
            size = length-set σ.choices z (suc m) ∙ h.size;
            position = h.position;
            percepts = h.percepts;
            round = h.round;
            explained = (e, h.explained);
            choice = rw (get_or-set_same σ.choices z (suc m) 0 lt, eqb-suc-zero m) refl;
          }

      declined : (r : Refusal) → first_of (offer_tests σ z m G) ≡ refused r → r ≡ own_answer G z σ.position (accepts cs) m → Good σ rs (record { move = m; refusal = r } ∷ cs)
      declined r q e = record {
        shape = h.shape;
        size = h.size;
        position = h.position;
        percepts = h.percepts;
        round = h.round;
        explained = (e, h.explained);
        choice = rw (refused_by_lem Fails (offer_tests σ z m G) r (λ p. refl, (λ p. refl, (λ p. refl, (λ p. refl, (λ p. refl, (λ p. refl, tt)))))) q) h.choice;
      }

  offer_other : (σ : Session) (rs : List (List ℕ)) (cs : List Tried) (s m : ℕ) → s ≢ z → Good σ rs cs → Good (offer (fit G) σ s m).session rs cs
  unfolding offer stored
  offer_other σ rs cs s m ne h = by_ruling (λ (a : Moved). Good a.session rs cs) (offer_tests σ s m G)
      (λ r. record { refusal = r; session = σ }) (record { refusal = Success; session = stored σ s m }) accepted (λ r q. h)
    where
      accepted : AllKept (offer_tests σ s m G) → Good (stored σ s m) rs cs
      accepted k =
          let w = offer_kept G σ s m k in
          record {
            shape = stored_shaped G σ s m h.shape (leb-false G.seats s w.seat) (leb-false G.moves m w.move);
            size = length-set σ.choices s (suc m) ∙ h.size;
            position = h.position;
            percepts = h.percepts;
            round = h.round;
            explained = h.explained;
            choice = rw (get_or-set_other σ.choices s z (suc m) 0 (λ e. ne (sym e))) h.choice;
          }

  offer_good : (σ : Session) (rs : List (List ℕ)) (cs : List Tried) (s m : ℕ) → Good σ rs cs
      → Good (offer (fit G) σ s m).session rs (cond (eqb s z) (record { move = m; refusal = (offer (fit G) σ s m).refusal } ∷ cs) cs)
  offer_good σ rs cs s m h = go (eqb s z) refl
    where
      go : (b : Bool) → eqb s z ≡ b → Good (offer (fit G) σ s m).session rs (cond b (record { move = m; refusal = (offer (fit G) σ s m).refusal } ∷ cs) cs)
      go true e = subst (λ (x : ℕ). Good (offer (fit G) σ x m).session rs (record { move = m; refusal = (offer (fit G) σ x m).refusal } ∷ cs)) (sym (eqb-true s z e)) (offer_own σ rs cs m h)
      go false e = offer_other σ rs cs s m (eqb-false s z e) h

  played_good : (σ : Session) (rs : List (List ℕ)) {cs : List Tried} → Good σ rs cs → AllKept (play_tests σ G) → Good (played G σ) (σ.choices ∷ rs) []
  unfolding played replay
  played_good σ rs h k =
      let ne = eqb-false σ.round 65535 (play_kept G σ k).more in
      record {
        shape = played_shaped G σ h.shape (omega (arith, h.shape.round));
        size = refl;
        position = ap (λ (x : List ℕ). flags 512 (λ f. fluent_fits G f && atom_in G (on (moved G x σ.choices)) next_kind f 0)) h.position;
        percepts = ap (λ (x : List ℕ). flags 2048 (λ i. percept_fits G i && atom_in G (on (moved G x σ.choices)) sees_kind (i / 256) (i % 256))) h.position;
        round = ap suc h.round;
        explained = tt;
        choice = rw (zeros 8 z) refl;
      }

  opened_good : Good (open_game (fit G)).session [] []
  unfolding open_game opened replay
  opened_good = record {
    shape = opened_shaped G;
    size = refl;
    position = refl;
    percepts = refl;
    round = refl;
    explained = tt;
    choice = ap (λ (x : ℕ). not (eqb x 0)) (zeros 8 z);
  }

  play_good : (σ : Session) (rs : List (List ℕ)) (cs : List Tried) → Good σ rs cs
      → Good (play (fit G) σ).session (cond (is_success (play (fit G) σ).refusal) (σ.choices ∷ rs) rs) (cond (is_success (play (fit G) σ).refusal) [] cs)
  unfolding play play_tests
  play_good σ rs cs h = by_ruling
      (λ (a : Moved). Good a.session (cond (is_success a.refusal) (σ.choices ∷ rs) rs) (cond (is_success a.refusal) [] cs)) (play_tests σ G)
      (λ r. record { refusal = r; session = σ }) (record { refusal = Success; session = played G σ }) (played_good σ rs h) declined
    where
      declined : (r : Refusal) → first_of (play_tests σ G) ≡ refused r → Good σ (cond (is_success r) (σ.choices ∷ rs) rs) (cond (is_success r) [] cs)
      declined r q = rw (refused_by_lem Fails (play_tests σ G) r (λ p. refl, (λ p. refl, (λ p. refl, (λ p. refl, (λ p. refl, tt))))) q) h

  pub good : (h : History) → Good (run (promised (fit G)) h) (rounds (promised (fit G)) h) (current (promised (fit G)) z h)
  unfolding run goes_on rounds current
  good opening = opened_good
  good (h ▷ offering s m) = offer_good (run (promised (fit G)) h) (rounds (promised (fit G)) h) (current (promised (fit G)) z h) s m (good h)
  good (h ▷ playing) = play_good (run (promised (fit G)) h) (rounds (promised (fit G)) h) (current (promised (fit G)) z h) (good h)

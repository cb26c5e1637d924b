-- What the shared tests' answers say of the game, in the laws' words.
use mathlib.Core.Path.{◌≡◌, refl, ap, ◌∙◌}
use mathlib.Core.Bool.{Bool, true, false, not}
use Prim.Native.Nat.{ℕ, ◌≤◌, ◌<◌}
use native.Mathlib.Omega.{arith}
use lib.Dec.{leb}
use borrow.Author.Tests.{leb-false}
use Rattle.std.specs.Prelude.{Result, Ok, Err, if◌then◌else◌}
use Rattle.std.specs.Result.{IsErrAnd}
use Rattle.std.proofs.lemmas.Result.{err_from_is_err_and}
use Rattle.refusals.specs.declared.Refusal.{Refusal}
use Rattle.refusals.specs.declared.Refusal.TheVariants.{GameOver, BadShape}
use Rattle.gdl.specs.Game.{Game}
use Rattle.session.specs.Shape.{shaped, limits_of}
use Rattle.session.specs.declared.Session.{Session}
use Rattle.session.specs.declared.shape.Limits.{Limits}
use Rattle.calls.specs.Position.{over}
use Rattle.calls.specs.Calls.{offer, play}
use Rattle.calls.proofs.Returns.{offer_bad_shape, offer_over, play_bad_shape, play_over}
use Rattle.rules.specs.Verdict.{fit}
use Rattle.answers.specs.Outcome.{going, within}

-- what a `?` hands on, where the refusal is known
pub handed_on : {T : Type 0} (r : Result T Refusal) {x : Refusal} → IsErrAnd r (λ y. y ≡ x) → (z : Refusal) → x ≡ z → r ≡ Err z
handed_on r h z e = let p = err_from_is_err_and r h in p.1 ∙ ap Err (p.2 ∙ e)

-- ---- a seat and a move

-- a number that is below an end, as a place
pub record Below (end number place : ℕ) : Type 0 where
  pub is : place ≡ number
  pub below : leb end number ≡ false

pub below_few : {end number place : ℕ} → Below end number place → {n : ℕ} → end ≤ n → place < n
below_few {end} {number} b h = omega (arith, leb-false end number b.below)

module _ {end E : ℕ} (e : end ≡ E) (number : ℕ) (f : Refusal) where
  pub not_below : {r : Refusal} → Err r ≡ within number end f → (r ≡ f) × (leb E number ≡ true)
  not_below {r} q = go (leb E number) refl (rw e at q)
    where
      go : (b : Bool) → leb E number ≡ b → ◌≡◌ {A = Result ℕ Refusal} (Err r) (if b then Err f else Ok number) → (r ≡ f) × (leb E number ≡ true)
      go true k q = (cc, k)
      go false k q = cc

  pub is_below : {place : ℕ} → Ok place ≡ within number end f → Below E number place
  is_below {place} q = go (leb E number) refl (rw e at q)
    where
      go : (b : Bool) → leb E number ≡ b → ◌≡◌ {A = Result ℕ Refusal} (Ok place) (if b then Err f else Ok number) → Below E number place
      go true k q = cc
      go false k q = record { is = cc; below = k }

-- of the limits of a game
module _ (G : Game) {l : Limits} (e : l ≡ limits_of G) where
  pub seats_are : l.seats ≡ G.seats
  seats_are = ap (λ (x : Limits). x.seats) e

  pub moves_are : l.moves ≡ G.moves
  moves_are = ap (λ (x : Limits). x.moves) e

-- ---- the record

-- a record of the game's shape, with which the game goes on
pub record Goes (G : Game) (σ : Session) (l : Limits) : Type 0 where
  pub limits : l ≡ limits_of G
  pub shape : shaped G σ ≡ true
  pub on : over G σ.position ≡ false

module _ (G : Game) (σ : Session) where
  module _ {l : Limits} (e : l ≡ limits_of G) {r : Bool} (er : (H : Game) → l ≡ limits_of H → r ≡ shaped H σ) where
    pub going_unshaped : r ≡ false → Err BadShape ≡ going G σ
    going_unshaped n = rw (← er G e, n) refl

    module _ (n : r ≡ true) where
      pub going_over : over G σ.position ≡ true → Err GameOver ≡ going G σ
      going_over k = rw (← er G e, n, k) refl

      pub going_on : over G σ.position ≡ false → Ok l ≡ going G σ
      going_on k = rw (← er G e, n, k, e) refl

  pub goes : {l : Limits} → Ok l ≡ going G σ → Goes G σ l
  goes {l} q = go (shaped G σ) (over G σ.position) refl refl q
    where
      go : (a b : Bool) → shaped G σ ≡ a → over G σ.position ≡ b → ◌≡◌ {A = Result Limits Refusal} (Ok l) (if not a then Err BadShape else if b then Err GameOver else Ok (limits_of G)) → Goes G σ l
      go true false j k q = record { limits = cc; shape = j; on = k }
      go true true j k q = cc
      go false b j k q = cc

  module _ {r : Refusal} where
    pub offer_stops : (s m : ℕ) → Err r ≡ going G σ → record { refusal = r; session = σ } ≡ offer (fit G) σ s m
    offer_stops s m q = go (shaped G σ) (over G σ.position) refl refl q
      where
        go : (a b : Bool) → shaped G σ ≡ a → over G σ.position ≡ b → ◌≡◌ {A = Result Limits Refusal} (Err r) (if not a then Err BadShape else if b then Err GameOver else Ok (limits_of G)) → record { refusal = r; session = σ } ≡ offer (fit G) σ s m
        go true true j k q = let e : r ≡ GameOver = cc in rw e (offer_over G σ s m j k)
        go true false j k q = cc
        go false b j k q = let e : r ≡ BadShape = cc in rw e (offer_bad_shape G σ s m j)

    pub play_stops : Err r ≡ going G σ → record { refusal = r; session = σ } ≡ play (fit G) σ
    play_stops q = go (shaped G σ) (over G σ.position) refl refl q
      where
        go : (a b : Bool) → shaped G σ ≡ a → over G σ.position ≡ b → ◌≡◌ {A = Result Limits Refusal} (Err r) (if not a then Err BadShape else if b then Err GameOver else Ok (limits_of G)) → record { refusal = r; session = σ } ≡ play (fit G) σ
        go true true j k q = let e : r ≡ GameOver = cc in rw e (play_over G σ j k)
        go true false j k q = cc
        go false b j k q = let e : r ≡ BadShape = cc in rw e (play_bad_shape G σ j)

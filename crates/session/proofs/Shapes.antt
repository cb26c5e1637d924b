-- The test of a record's shape is what the page's words say: `shaped_means`.
use mathlib.Core.Path.{◌≡◌, refl}
use mathlib.Core.Logic.{◌↔◌}
use mathlib.Core.Bool.{Bool, true, false, ◌&&◌, cond}
use mathlib.Core.List.{List}
use Prim.Native.Nat.{ℕ, zero, suc, ◌+◌, ◌*◌, ◌/◌, ◌%◌, ◌≤◌, ◌<◌}
use native.Mathlib.Nat.{div-add-mod'}
use native.Mathlib.Omega.{arith}
use native.Mathlib.Decide.{dec_lt}
use lib.Dec.{T, leb, ltb, le→leb, leb→le}
use lib.Arith.{digits_div, digits_mod}
use lib.ListN.{length, get_or, get_or-eq_default}
use borrow.Author.Tests.{le-ltb, ltb-false}
use Rattle.gdl.specs.Game.{Game}
use Rattle.gdl.specs.Flags.{bit}
use Rattle.gdl.proofs.Tests.{and_left, and_right, and_both}
use Rattle.gdl.specs.Lists.{every}
use Rattle.session.specs.Shape.{PositionFits, ChoicesFit, PerceptsFit, WellShaped, fluent_fits, percept_fits, position_shaped, choices_shaped, percepts_shaped, shaped}
use Rattle.gdl.proofs.Walks.{every_means}
use Rattle.session.specs.declared.Session.{Session}

-- the test, part by part
pub record Shaped (G : Game) (σ : Session) : Type 0 where
  pub round : σ.round ≤ 65535
  pub position : T (position_shaped G σ.position)
  pub choices : T (choices_shaped G σ.choices)
  pub percepts : T (percepts_shaped G σ.percepts)

module _ (G : Game) (σ : Session) where
  pub shaped_is : Shaped G σ → T (shaped G σ)
  unfolding shaped
  shaped_is h =
      let p : Bool = position_shaped G σ.position in
      let c : Bool = choices_shaped G σ.choices in
      let s : Bool = percepts_shaped G σ.percepts in
      and_both (leb σ.round 65535) (p && (c && s)) (le→leb σ.round 65535 h.round) (and_both p (c && s) h.position (and_both c s h.choices h.percepts))

  pub shaped_parts : T (shaped G σ) → Shaped G σ
  unfolding shaped
  shaped_parts t =
      let p : Bool = position_shaped G σ.position in
      let c : Bool = choices_shaped G σ.choices in
      let s : Bool = percepts_shaped G σ.percepts in
      let a : T (p && (c && s)) = and_right (leb σ.round 65535) (p && (c && s)) t in
      let b : T (c && s) = and_right p (c && s) a in
      record {
        round = leb→le σ.round 65535 (and_left (leb σ.round 65535) (p && (c && s)) t);
        position = and_left p (c && s) a;
        choices = and_left c s b;
        percepts = and_right c s b;
      }

-- ---- each part in the page's words

-- numbers that are at most a limit, each at its place
limits_mean : (limit : ℕ → ℕ) (l : List ℕ) → T (every (λ i x. leb x (limit i)) l) ↔ ((i : ℕ) → get_or l i 0 ≤ limit i)
limits_mean limit l = (
  λ t i. elim (dec_lt i (length l)) [
    | yes lt ↦ leb→le (get_or l i 0) (limit i) ((every_means (λ i x. leb x (limit i)) l).0 t i lt)
    | no ge ↦ let long : length l ≤ i = omega arith in rw (get_or-eq_default l 0 long) (omega arith)
  ],
  λ h. (every_means (λ i x. leb x (limit i)) l).1 (λ i lt. le→leb (get_or l i 0) (limit i) (h i)),
)

bit_limit : (b : Bool) (x : ℕ) → x ≤ bit b → (x ≤ 1) × (b ≡ false → x ≡ 0)
bit_limit true x h = (h, λ e. cc)
bit_limit false x h = (omega arith, λ e. omega arith)

limit_bit : (b : Bool) (x : ℕ) → x ≤ 1 → (b ≡ false → x ≡ 0) → x ≤ bit b
limit_bit true x h k = h
limit_bit false x h k = let e = k refl in omega arith

module _ (G : Game) where
  pub position_means : (pos : List ℕ) → T (position_shaped G pos) ↔ PositionFits G pos
  unfolding position_shaped
  position_means pos =
      let mean = limits_mean (λ f. bit (fluent_fits G f)) pos in (
        λ t. record {
          flags = λ f. (bit_limit (fluent_fits G f) (get_or pos f 0) (mean.0 t f)).0;
          beyond = λ f le. (bit_limit (fluent_fits G f) (get_or pos f 0) (mean.0 t f)).1 (le-ltb f G.fluents le);
        },
        λ h. mean.1 (λ f. limit_bit (fluent_fits G f) (get_or pos f 0) (h.flags f) (λ e. h.beyond f (ltb-false f G.fluents e))),
      )

  choice_limit : (b : Bool) (x : ℕ) → (x ≤ cond b G.moves 0) ↔ (((m : ℕ) → x ≡ suc m → m < G.moves) × (b ≡ false → x ≡ 0))
  choice_limit true x = (λ h. (λ m e. omega arith, λ e. cc), λ h. go x h.0)
    where
      go : (x : ℕ) → ((m : ℕ) → x ≡ suc m → m < G.moves) → x ≤ G.moves
      go zero f = omega arith
      go (suc m) f = f m refl
  choice_limit false x = (λ h. (λ m e. omega arith, λ e. omega arith), λ h. let e = h.1 refl in omega arith)

  pub choices_mean : (ch : List ℕ) → T (choices_shaped G ch) ↔ ChoicesFit G ch
  unfolding choices_shaped
  choices_mean ch =
      let mean = limits_mean (λ s. cond (ltb s G.seats) G.moves 0) ch in (
        λ t. record {
          moves = λ s. ((choice_limit (ltb s G.seats) (get_or ch s 0)).0 (mean.0 t s)).0;
          beyond = λ s le. ((choice_limit (ltb s G.seats) (get_or ch s 0)).0 (mean.0 t s)).1 (le-ltb s G.seats le);
        },
        λ h. mean.1 (λ s. (choice_limit (ltb s G.seats) (get_or ch s 0)).1 (h.moves s, λ e. h.beyond s (ltb-false s G.seats e))),
      )

  pub percepts_mean : (ps : List ℕ) → T (percepts_shaped G ps) ↔ PerceptsFit G ps
  unfolding percepts_shaped
  percepts_mean ps =
      let mean = limits_mean (λ i. bit (percept_fits G i)) ps in (
        λ t. record {
          flags = λ i. (bit_limit (percept_fits G i) (get_or ps i 0) (mean.0 t i)).0;
          beyond_seats = λ s p small le. (bit_limit (percept_fits G (s * 256 + p)) (get_or ps (s * 256 + p) 0) (mean.0 t (s * 256 + p))).1
              (rw (digits_div s small, le-ltb s G.seats le) refl);
          beyond_percepts = λ s p small le. (bit_limit (percept_fits G (s * 256 + p)) (get_or ps (s * 256 + p) 0) (mean.0 t (s * 256 + p))).1
              (rw (digits_mod s small, le-ltb p G.percepts le) (and_false (ltb ((s * 256 + p) / 256) G.seats)));
        },
        λ h. mean.1 (λ i. limit_bit (percept_fits G i) (get_or ps i 0) (h.flags i) (λ e. out h i (ltb (i / 256) G.seats) (ltb (i % 256) G.percepts) refl refl e)),
      )
    where
      and_false : (b : Bool) → (b && false) ≡ false
      and_false true = refl
      and_false false = refl

      out : PerceptsFit G ps → (i : ℕ) (a b : Bool) → ltb (i / 256) G.seats ≡ a → ltb (i % 256) G.percepts ≡ b → (a && b) ≡ false → get_or ps i 0 ≡ 0
      out h i false b p q e = rw (div-add-mod' i 256) at (h.beyond_seats (i / 256) (i % 256) (omega arith) (ltb-false (i / 256) G.seats p))
      out h i true false p q e = rw (div-add-mod' i 256) at (h.beyond_percepts (i / 256) (i % 256) (omega arith) (ltb-false (i % 256) G.percepts q))
      out h i true true p q e = let z : ◌≡◌ {A = Bool} true false = e in cc

  pub shaped_means : (σ : Session) → T (shaped G σ) ↔ WellShaped G σ
  shaped_means σ = (
    λ t.
        let s = shaped_parts G σ t in
        record { round = s.round; position = (position_means σ.position).0 s.position; choices = (choices_mean σ.choices).0 s.choices; percepts = (percepts_mean σ.percepts).0 s.percepts },
    λ w. shaped_is G σ (record {
      round = w.round;
      position = (position_means σ.position).1 w.position;
      choices = (choices_mean σ.choices).1 w.choices;
      percepts = (percepts_mean σ.percepts).1 w.percepts;
    }),
  )

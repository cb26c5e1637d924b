-- The byte form of a record and back: each is the other's inverse, on records that fit their types and on runs of 2,580 bytes.
use mathlib.Core.Path.{◌≡◌, refl, ap, ap₂, ◌∙◌}
use mathlib.Core.List.{List, [], ◌∷◌, ◌++◌, append_assoc}
use Prim.Native.Nat.{ℕ, zero, suc, ◌+◌, ◌*◌, ◌/◌, ◌%◌, ◌≤◌, ◌<◌}
use native.Mathlib.Nat.{div-lt_iff_lt-mul}
use native.Mathlib.Omega.{arith}
use lib.Arith.{digits_div, digits_mod}
use lib.ListN.{length, get_or, take, drop, length-append, length-drop}
use lib.Seq.{take_at, drop_at, take-add, take_all, length-take-le, get_or-drop}
use Rattle.session.specs.declared.Session.{Session}
use Rattle.session.specs.Bytes.{little_endian, from_little_endian, pairs_of, from_pairs, session_bytes, session_of, Within, Fits}

-- ---- one number

-- how many values so many bytes have
abbrev values : ℕ → ℕ
values zero = 1
values (suc n) = values n * 256

little_back : (n x : ℕ) → x < values n → from_little_endian (little_endian n x) ≡ x
little_back zero x lt = omega arith
little_back (suc n) x lt =
    let some : 0 < 256 = omega arith in
    let e : from_little_endian (little_endian n (x / 256)) ≡ x / 256 = little_back n (x / 256) ((div-lt_iff_lt-mul some).1 lt) in
    rw e (omega arith)

rest : {bound x : ℕ} {l : List ℕ} → Within bound (x ∷ l) → Within bound l
rest w = record { each = λ i. w.each (suc i) }

nothing : Within 256 []
nothing = record { each = λ i. omega arith }

cons : (b : ℕ) (bs : List ℕ) → b < 256 → Within 256 bs → Within 256 (b ∷ bs)
cons b bs h w = record { each = go }
  where
    go : (i : ℕ) → get_or (b ∷ bs) i 0 < 256
    go zero = h
    go (suc i) = w.each i

back_little : (bs : List ℕ) → Within 256 bs → little_endian (length bs) (from_little_endian bs) ≡ bs
back_little [] w = refl
back_little (b ∷ bs) w =
    let v : ℕ = from_little_endian bs in
    let small : b < 256 = w.each 0 in
    let e : b + 256 * v ≡ v * 256 + b = omega arith in
    rw (e, digits_mod v small, digits_div v small) (ap (λ (r : List ℕ). b ∷ r) (back_little bs (rest w)))

-- ---- numbers of two bytes

pub pairs_length : (l : List ℕ) → length (pairs_of l) ≡ 2 * length l
pairs_length [] = refl
pairs_length (x ∷ l) = let e = pairs_length l in omega arith

pairs_back : (l after : List ℕ) → Within 65536 l → from_pairs (length l) (pairs_of l ++ after) ≡ l
pairs_back [] after w = refl
pairs_back (x ∷ l) after w = ap₂ (λ (y : ℕ) (r : List ℕ). y ∷ r) (little_back 2 x (w.each 0)) (pairs_back l after (rest w))

back_pairs : (n k : ℕ) (bs : List ℕ) → k ≡ 2 * n → k ≤ length bs → Within 256 bs → pairs_of (from_pairs n bs) ≡ take k bs
back_pairs zero zero bs e le w = refl
back_pairs zero (suc k) bs e le w = absurd (omega arith)
back_pairs (suc n) zero bs e le w = absurd (omega arith)
back_pairs (suc n) (suc zero) bs e le w = absurd (omega arith)
back_pairs (suc n) (suc (suc k)) [] e le w = absurd (omega arith)
back_pairs (suc n) (suc (suc k)) (a ∷ []) e le w = absurd (omega arith)
back_pairs (suc n) (suc (suc k)) (a ∷ b ∷ bs) e le w = ap₂ (λ (x y : List ℕ). x ++ y) (back_little (a ∷ b ∷ []) (cons a (b ∷ []) (w.each 0) (cons b [] (w.each 1) nothing))) (back_pairs n k bs (omega arith) (omega arith) (rest (rest w)))

-- ---- the record

pub session_same : (p p' c c' s s' : List ℕ) (r r' : ℕ) → p ≡ p' → c ≡ c' → s ≡ s' → r ≡ r'
    → ◌≡◌ {A = Session} (record { position = p; choices = c; percepts = s; round = r }) (record { position = p'; choices = c'; percepts = s'; round = r' })
session_same p p' c c' s s' r r' a b d e = cc

-- four runs of bytes one after another
module _ (p q s r : List ℕ) (first : length p ≡ 512) (second : length q ≡ 16) (third : length s ≡ 2048) where
  two_runs : length (p ++ q) ≡ 528
  two_runs = simp length-append (omega arith)

  three_runs : length (p ++ q ++ s) ≡ 2576
  three_runs = simp length-append (omega arith)

  position_run : take 512 (p ++ q ++ s ++ r) ≡ p
  position_run = rw (append_assoc (p ++ q) s r, append_assoc p q (s ++ r)) (take_at p (q ++ (s ++ r)) 512 first)

  choices_run : drop 512 (p ++ q ++ s ++ r) ≡ q ++ (s ++ r)
  choices_run = rw (append_assoc (p ++ q) s r, append_assoc p q (s ++ r)) (drop_at p (q ++ (s ++ r)) 512 first)

  percepts_run : take 2048 (drop 528 (p ++ q ++ s ++ r)) ≡ s
  percepts_run = rw (append_assoc (p ++ q) s r, drop_at (p ++ q) (s ++ r) 528 two_runs) (take_at s r 2048 third)

  round_run : drop 2576 (p ++ q ++ s ++ r) ≡ r
  round_run = drop_at (p ++ q ++ s) r 2576 three_runs

join : (xs ys : List ℕ) → Within 256 xs → Within 256 ys → Within 256 (xs ++ ys)
join [] ys v w = w
join (x ∷ xs) ys v w = cons x (xs ++ ys) (v.each 0) (join xs ys (rest v) w)

little_small : (n x : ℕ) → Within 256 (little_endian n x)
little_small zero x = nothing
little_small (suc n) x = cons (x % 256) (little_endian n (x / 256)) (omega arith) (little_small n (x / 256))

pairs_small : (l : List ℕ) → Within 256 (pairs_of l)
pairs_small [] = nothing
pairs_small (x ∷ l) = join (little_endian 2 x) (pairs_of l) (little_small 2 x) (pairs_small l)

module _ (σ : Session) (fits : Fits σ) where
  sixteen : length (pairs_of σ.choices) ≡ 16
  sixteen = let e = pairs_length σ.choices in omega (arith, fits.seats)

  pub bytes_length : length (session_bytes σ) ≡ 2580
  unfolding session_bytes
  bytes_length = simp length-append (omega (arith, fits.fluents, fits.seen, sixteen))

  pub bytes_small : Within 256 (session_bytes σ)
  unfolding session_bytes
  bytes_small =
      let q : List ℕ = pairs_of σ.choices in
      let r : List ℕ = little_endian 4 σ.round in
      join (σ.position ++ q ++ σ.percepts) r (join (σ.position ++ q) σ.percepts (join σ.position q fits.position (pairs_small σ.choices)) fits.percepts) (little_small 4 σ.round)

  pub bytes_back : session_of (session_bytes σ) ≡ σ
  unfolding session_of session_bytes
  bytes_back =
      let q : List ℕ = pairs_of σ.choices in
      let r : List ℕ = little_endian 4 σ.round in
      let few : from_pairs 8 (q ++ (σ.percepts ++ r)) ≡ σ.choices = rw fits.seats at (pairs_back σ.choices (σ.percepts ++ r) fits.choices) in
      session_same _ σ.position _ σ.choices _ σ.percepts _ σ.round
      (position_run σ.position q σ.percepts r fits.fluents sixteen fits.seen)
      (ap (from_pairs 8) (choices_run σ.position q σ.percepts r fits.fluents sixteen fits.seen) ∙ few)
      (percepts_run σ.position q σ.percepts r fits.fluents sixteen fits.seen)
      (ap (λ (x : List ℕ). from_little_endian (take 4 x)) (round_run σ.position q σ.percepts r fits.fluents sixteen fits.seen) ∙ little_back 4 σ.round fits.round)

later : (n : ℕ) (bs : List ℕ) → Within 256 bs → Within 256 (drop n bs)
later n bs w = record { each = λ i. rw (get_or-drop n bs i 0) (w.each (n + i)) }

sooner : (n : ℕ) (bs : List ℕ) → Within 256 bs → Within 256 (take n bs)
sooner zero bs w = nothing
sooner (suc n) [] w = w
sooner (suc n) (b ∷ bs) w = cons b (take n bs) (w.each 0) (sooner n bs (rest w))

pub back_bytes : (bs : List ℕ) → length bs ≡ 2580 → Within 256 bs → session_bytes (session_of bs) ≡ bs
unfolding session_of session_bytes
back_bytes bs size w = rw (choices, round) (rw (← take-add 512 16 bs, ← take-add 528 2048 bs, ← take-add 2576 4 bs) (take_all 2580 bs (omega arith)))
  where
    choices : pairs_of (from_pairs 8 (drop 512 bs)) ≡ take 16 (drop 512 bs)
    choices = back_pairs 8 16 (drop 512 bs) refl (rw (length-drop 512 bs) (omega arith)) (later 512 bs w)

    four : length (take 4 (drop 2576 bs)) ≡ 4
    four = length-take-le 4 (drop 2576 bs) (rw (length-drop 2576 bs) (omega arith))

    round : little_endian 4 (from_little_endian (take 4 (drop 2576 bs))) ≡ take 4 (drop 2576 bs)
    round = rw four at (back_little (take 4 (drop 2576 bs)) (sooner 4 (drop 2576 bs) (later 2576 bs w)))

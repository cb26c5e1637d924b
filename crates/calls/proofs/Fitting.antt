-- The message of any record fits into the room that is asked for, so that none runs past the lent room.
use Rattle.std.specs.Prelude.{if◌then◌else◌}
use mathlib.Core.Path.{◌≡◌, ap}
use mathlib.Core.Bool.{Bool, true, false, cond}
use mathlib.Core.List.{List, [], ◌∷◌, ◌++◌}
use Prim.Native.Nat.{ℕ, zero, suc, ◌+◌, ◌*◌, ◌-◌, ◌/◌, ◌≤◌}
use native.Mathlib.Omega.{arith}
use lib.Dec.{ltb}
use lib.ListN.{length, length-append}
use Rattle.numbers.specs.Number.{bits}
use Rattle.numbers.specs.Writing.{number_bytes, bytes_of}
use Rattle.gdl.specs.Game.{Game}
use Rattle.gdl.specs.Flags.{on, bit}
use Rattle.rules.specs.Accepted.{Accepted}
use Rattle.gdl.specs.Lists.{those_from, those}
use Rattle.session.specs.declared.Session.{Session}
use Rattle.calls.specs.Position.{over, legal, goal}
use Rattle.calls.specs.Message.{counted, percepts_of, legal_of, goals_of, message_numbers, message_bytes}

at_most_3 : (n : ℕ) → length (number_bytes n) ≤ 3
unfolding number_bytes
at_most_3 n = go (ltb n 128) (ltb n 16384)
  where
    go : (a b : Bool) → length (if a then bits n ∷ [] else if b then (128 + bits n) ∷ bits (n / 128) ∷ [] else (128 + bits n) ∷ (128 + bits (n / 128)) ∷ bits (n / 16384) ∷ []) ≤ 3
    go true b = omega arith
    go false true = omega arith
    go false false = omega arith

-- the bytes of i, i + 1, .., n of them
total : ℕ → ℕ → ℕ
total i zero = 0
total i (suc n) = length (number_bytes i) + total (suc i) n

total_mono : (i n k : ℕ) → total i n ≤ total i (n + k)
unfolding total
total_mono i zero k = omega arith
total_mono i (suc n) k = let e : suc n + k ≡ suc (n + k) = omega arith in rw e (omega (arith, total_mono (suc i) n k))

those_bytes : (f : ℕ → Bool) (i n : ℕ) → length (bytes_of (those_from f i n)) ≤ total i n
unfolding total
those_bytes f i zero = omega arith
those_bytes f i (suc n) = go (f i) (those_from f (suc i) n) (those_bytes f (suc i) n)
  where
    go : (b : Bool) (r : List ℕ) → length (bytes_of r) ≤ total (suc i) n → length (bytes_of (cond b (i ∷ r) r)) ≤ length (number_bytes i) + total (suc i) n
    go true r h = rw (length-append (number_bytes i) (bytes_of r)) (omega arith)
    go false r h = omega arith

few_bytes : (f : ℕ → Bool) (n most : ℕ) → n ≤ most → length (bytes_of (those n f)) ≤ total 0 most
few_bytes f n most le = go (most - n) (omega arith)
  where
    go : (k : ℕ) → n + k ≡ most → length (bytes_of (those n f)) ≤ total 0 most
    go k e = omega (arith, those_bytes f 0 n, total_mono 0 n k, ap (total 0) e)

-- all of 0 to 255 take 384 bytes, and all of 0 to 100 take 101
up_to_256 : (f : ℕ → Bool) (n : ℕ) → n ≤ 256 → length (bytes_of (those n f)) ≤ 384
unfolding number_bytes total
up_to_256 f n le = few_bytes f n 256 le

up_to_101 : (f : ℕ → Bool) → length (bytes_of (those 101 f)) ≤ 101
unfolding number_bytes total
up_to_101 f = few_bytes f 101 101 (omega arith)

counted_bytes : (l : List ℕ) (b : ℕ) → length (bytes_of l) ≤ b → length (bytes_of (counted l)) ≤ 3 + b
counted_bytes l b h = rw (length-append (number_bytes (length l)) (bytes_of l)) (omega (arith, at_most_3 (length l)))

-- a list, or none
either_bytes : (e : Bool) (xs : List ℕ) (b : ℕ) → length (bytes_of xs) ≤ b → (length (bytes_of (cond e [] xs)) ≤ b) × (length (bytes_of (cond e xs [])) ≤ b)
either_bytes true xs b h = (omega arith, h)
either_bytes false xs b h = (h, omega arith)

join_bytes : (xs ys : List ℕ) → length (bytes_of (xs ++ ys)) ≡ length (bytes_of xs) + length (bytes_of ys)
join_bytes [] ys = omega arith
join_bytes (x ∷ xs) ys = rw (length-append (number_bytes x) (bytes_of (xs ++ ys)), length-append (number_bytes x) (bytes_of xs), join_bytes xs ys) (omega arith)

numbers_fit : (a b c : ℕ) (ps ls gs : List ℕ) → length (bytes_of ps) ≤ 384 → length (bytes_of ls) ≤ 384 → length (bytes_of gs) ≤ 101
    → length (bytes_of (a ∷ b ∷ c ∷ counted ps ++ counted ls ++ counted gs)) ≤ 1024
numbers_fit a b c ps ls gs p l g =
    let lists : List ℕ = counted ps ++ counted ls ++ counted gs in
    rw (
      length-append (number_bytes a) (bytes_of (b ∷ c ∷ lists)),
      length-append (number_bytes b) (bytes_of (c ∷ lists)),
      length-append (number_bytes c) (bytes_of lists),
      join_bytes (counted ps ++ counted ls) (counted gs),
      join_bytes (counted ps) (counted ls),
    )
    (omega (arith, at_most_3 a, at_most_3 b, at_most_3 c, counted_bytes ps 384 p, counted_bytes ls 384 l, counted_bytes gs 101 g))

pub message_fits : (G : Game) → Accepted G → (σ : Session) (z : ℕ) → length (message_bytes G σ z) ≤ 1024
unfolding message_bytes message_numbers
message_fits G ok σ z =
    let end : Bool = over G σ.position in
    numbers_fit z σ.round (bit end) (percepts_of G σ z) (cond end [] (legal_of G σ z)) (cond end (goals_of G σ z) [])
    (up_to_256 (λ p. on σ.percepts (z * 256 + p)) G.percepts ok.limits.percepts)
    (either_bytes end (legal_of G σ z) 384 (up_to_256 (legal G σ.position z) G.moves ok.limits.moves)).0
    (either_bytes end (goals_of G σ z) 101 (up_to_101 (goal G σ.position z))).1

-- Laws of writing: what each length of number leaves in the room; reading back what was written gives the number and the place after it.
use Prim.Native.Nat.{ℕ, zero, suc, ◌+◌, ◌-◌, ◌%◌, ◌/◌, ◌*◌, ◌≤◌, ◌<◌}
use native.Mathlib.Omega.{arith}
use native.Mathlib.Nat.{not-suc-le-zero, add-zero}
use native.Mathlib.Decide.{dec_lt}
use native.Mathlib.Numerals.{add-one}
use mathlib.Core.Path.{◌≡◌, refl, sym, ◌∙◌}
use mathlib.Core.Logic.{◌⊎◌, inl, inr}
use mathlib.Core.List.{List, [], ◌∷◌, ◌++◌}
use lib.ListN.{length, get_or, set, length-set, length-append}
use lib.Seq.{sets, length-sets, get_or-set_same, get_or-set_other}
use lib.Dec.{leb}
use borrow.Author.Tests.{le-ltb, lt-ltb, le-leb, lt-leb}
use Rattle.numbers.specs.Number.{read, number_at}
use Rattle.numbers.specs.Writing.{number_bytes, written_at, bytes_of, written}
use Rattle.numbers.specs.declared.Run.TheVariants.{One, Two, Three}
use Rattle.numbers.proofs.Reading.{by_test, one, two, three, two_read, three_read, at_one, at_two, at_three}

-- ---- the bytes of a number, by their count

module _ (v : ℕ) where
  bytes_1 : v < 128 → number_bytes v ≡ v % 128 ∷ []
  unfolding number_bytes
  bytes_1 h = simp (number_bytes, lt-ltb)

  bytes_2 : 128 ≤ v → v < 16384 → number_bytes v ≡ (128 + v % 128) ∷ v / 128 % 128 ∷ []
  unfolding number_bytes
  bytes_2 g h = simp (number_bytes, le-ltb, lt-ltb)

  bytes_3 : 16384 ≤ v → number_bytes v ≡ (128 + v % 128) ∷ (128 + v / 128 % 128) ∷ v / 16384 % 128 ∷ []
  unfolding number_bytes
  bytes_3 h = let g : 128 ≤ v = omega arith in simp (number_bytes, le-ltb)

-- ---- bytes that fit, and bytes that do not

module _ (bs : List ℕ) (at : ℕ) (room : List ℕ) where
  pub fit : at + length bs ≤ length room → (at + length bs, sets room at bs) ≡ written_at bs at room
  unfolding written_at
  fit h = simp (written_at, le-leb)

  pub too_many : length room < at + length bs → (at, room) ≡ written_at bs at room
  unfolding written_at
  too_many h = simp (written_at, lt-leb)

-- a count of bytes that holds of each length holds of any number
some_bytes : (least v : ℕ) → least ≤ 1 ⊎ ((least ≤ 2) × (128 ≤ v)) → least ≤ length (number_bytes v)
some_bytes least v h = elim (dec_lt v 128) [
  | yes l ↦ rw (bytes_1 v l) (go h l)
  | no g ↦ elim (dec_lt v 16384) [ yes l ↦ rw (bytes_2 v (omega arith) l) (most h) | no f ↦ rw (bytes_3 v (omega arith)) (let m = most h in omega arith) ]
]
  where
    go : least ≤ 1 ⊎ ((least ≤ 2) × (128 ≤ v)) → v < 128 → least ≤ 1
    go (inl k) l = k
    go (inr k) l = absurd (omega arith)

    most : least ≤ 1 ⊎ ((least ≤ 2) × (128 ≤ v)) → least ≤ 2
    most (inl k) = omega arith
    most (inr k) = k.0

module _ (room : List ℕ) (at v : ℕ) where
  pub no_place : length room ≤ at → (at, room) ≡ written_at (number_bytes v) at room
  no_place h = too_many (number_bytes v) at room (omega (arith, some_bytes 1 v (inl (omega arith))))

  module _ (h : at < length room) where
    pub wrote_1 : (a : ℕ) → v < 128 → a ≡ v % 128 → (at + 1, set room at a) ≡ written_at (number_bytes v) at room
    wrote_1 a l ea = rw (bytes_1 v l, ea) (fit (v % 128 ∷ []) at room (omega arith))

    module _ (g : 128 ≤ v) where
      pub no_second : length room - at < 2 → (at, room) ≡ written_at (number_bytes v) at room
      no_second few = too_many (number_bytes v) at room (omega (arith, some_bytes 2 v (inr (omega arith, g))))

      pub wrote_2 : (a b : ℕ) → 2 ≤ length room - at → v < 16384 → a ≡ 128 + v % 128 → b ≡ v / 128 % 128 → (at + 2, set (set room at a) (at + 1) b) ≡ written_at (number_bytes v) at room
      wrote_2 a b many l ea eb = rw (bytes_2 v g l, ea, eb, add-one at) (fit ((128 + v % 128) ∷ v / 128 % 128 ∷ []) at room (omega arith))

    module _ (g : 16384 ≤ v) where
      pub no_third : length room - at < 3 → (at, room) ≡ written_at (number_bytes v) at room
      no_third few = rw (bytes_3 v g) (too_many ((128 + v % 128) ∷ (128 + v / 128 % 128) ∷ v / 16384 % 128 ∷ []) at room (omega arith))

      pub wrote_3 : (a b c : ℕ) → 3 ≤ length room - at → a ≡ 128 + v % 128 → b ≡ 128 + v / 128 % 128 → c ≡ v / 16384 % 128
          → (at + 3, set (set (set room at a) (at + 1) b) (at + 2) c) ≡ written_at (number_bytes v) at room
      wrote_3 a b c many ea eb ec = let e2 : at + 2 ≡ suc (suc at) = omega arith in
          rw (bytes_3 v g, ea, eb, ec, add-one at, e2) (fit ((128 + v % 128) ∷ (128 + v / 128 % 128) ∷ v / 16384 % 128 ∷ []) at room (omega arith))

pub ruleset writings = (no_place, wrote_1, no_second, wrote_2, no_third, wrote_3)

-- ---- reading back

sets_below : (vs l : List ℕ) (i j : ℕ) → j < i → get_or (sets l i vs) j 0 ≡ get_or l j 0
sets_below [] l i j h = refl
sets_below (a ∷ vs) l i j h = sets_below vs (set l i a) (suc i) j (omega arith) ∙ get_or-set_other l i j a 0 (omega arith)

-- what was written stands there
pub sets_at : (vs l : List ℕ) (i j : ℕ) → i + length vs ≤ length l → j < length vs → get_or (sets l i vs) (i + j) 0 ≡ get_or vs j 0
sets_at [] l i j h k = absurd (not-suc-le-zero k)
sets_at (a ∷ vs) l i zero h k =
    let e : i + 0 ≡ i = omega arith in
    rw e (sets_below vs (set l i a) (suc i) i (omega arith) ∙ get_or-set_same l i a 0 (omega arith))
sets_at (a ∷ vs) l i (suc j) h k =
    let e : i + suc j ≡ suc i + j = omega arith in
    rw e (sets_at vs (set l i a) (suc i) j (simp length-set (omega arith)) (omega arith))

-- three groups of seven bits make the number
groups : (v : ℕ) → v ≤ 65535 → (128 + v % 128) % 128 + 128 * ((128 + v / 128 % 128) % 128) + 16384 * (v / 16384 % 128 % 128) ≡ v
groups v h =
    let q : ℕ = v / 128 in
    let low : (128 + v % 128) % 128 ≡ v % 128 = omega arith in
    let mid : (128 + v / 128 % 128) % 128 ≡ v / 128 % 128 = omega arith in
    let top : v / 16384 % 128 % 128 ≡ v / 128 / 128 = (let f : v / 16384 ≡ v / 128 / 128 = omega arith in rw f (omega arith)) in
    rw (low, mid, top) (let g : v / 128 ≡ 128 * (v / 128 / 128) + v / 128 % 128 = omega arith in omega arith)

-- the number at a place of which the bytes are known
module _ (s : List ℕ) (at v : ℕ) where
  reads_1 : at + 1 ≤ length s → v < 128 → get_or s at 0 ≡ v % 128 → read v (at + 1) ≡ number_at s at
  reads_1 h l ea =
      let a : ℕ = v % 128 in
      let e : v % 128 % 128 ≡ v = omega arith in
      rw e at (at_one s at (One a) (one s at a (sym ea) (omega arith) (omega arith)) a refl)

  reads_2 : at + 2 ≤ length s → 128 ≤ v → v < 16384 → get_or s at 0 ≡ 128 + v % 128 → get_or s (at + 1) 0 ≡ v / 128 % 128 → read v (at + 2) ≡ number_at s at
  reads_2 h g l ea eb =
      let a : ℕ = 128 + v % 128 in
      let b : ℕ = v / 128 % 128 in
      let n : b ≡ 0 → ⊥ = λ z. omega arith in
      let e : (128 + v % 128) % 128 + 128 * (v / 128 % 128 % 128) ≡ v = omega arith in
      rw e at (at_two s at (Two a b) (two s at a (sym ea) (omega arith) b (sym eb) (omega arith) (omega arith) (omega arith)) a b _ refl (two_read a b (at + 2) n))

  reads_3 : at + 3 ≤ length s → 16384 ≤ v → v ≤ 65535 → get_or s at 0 ≡ 128 + v % 128 → get_or s (at + 1) 0 ≡ 128 + v / 128 % 128 → get_or s (at + 2) 0 ≡ v / 16384 % 128
      → read v (at + 3) ≡ number_at s at
  reads_3 h g l ea eb ec =
      let a : ℕ = 128 + v % 128 in
      let b : ℕ = 128 + v / 128 % 128 in
      let c : ℕ = v / 16384 % 128 in
      let n : c ≡ 0 → ⊥ = λ z. omega arith in
      let e : (128 + v % 128) % 128 + 128 * ((128 + v / 128 % 128) % 128) + 16384 * (v / 16384 % 128 % 128) ≡ v = groups v l in
      rw e at (at_three s at (Three a b c) (three s at a (sym ea) (omega arith) b (sym eb) (omega arith) (omega arith) c (sym ec) (omega arith) (omega arith)) a b c _ refl
      (three_read a b (at + 3) c n (omega arith) (rw e l)))

module _ (room : List ℕ) (at v : ℕ) (small : v ≤ 65535) (fits : at + length (number_bytes v) ≤ length room) where
  s : List ℕ
  s = sets room at (number_bytes v)

  module _ (bs : List ℕ) (e : number_bytes v ≡ bs) where
    long : at + length bs ≤ length s
    unfolding s
    long = rw (length-sets room at (number_bytes v), ← e) fits

    byte : (j : ℕ) → j < length bs → get_or s (at + j) 0 ≡ get_or bs j 0
    unfolding s
    byte j h = rw e (sets_at bs room at j (rw e at fits) h)

    byte_0 : 0 < length bs → get_or s at 0 ≡ get_or bs 0 0
    byte_0 h = let z : at + 0 ≡ at = omega arith in rw z at (byte 0 h)

  read_lem : read v (at + length (number_bytes v)) ≡ number_at s at
  read_lem = elim (dec_lt v 128) [
    | yes l ↦ let e = bytes_1 v l in rw e (reads_1 s at v (long _ e) l (byte_0 _ e (omega arith)))
    | no g ↦ elim (dec_lt v 16384) [
      | yes l ↦ let e = bytes_2 v (omega arith) l in rw e (reads_2 s at v (long _ e) (omega arith) l (byte_0 _ e (omega arith)) (byte _ e 1 (omega arith)))
      | no f ↦ let e = bytes_3 v (omega arith) in rw e (reads_3 s at v (long _ e) (omega arith) small (byte_0 _ e (omega arith)) (byte _ e 1 (omega arith)) (byte _ e 2 (omega arith)))
    ]
  ]

  -- reading back what was written gives the number and the place after it
  pub reads_back : number_at (sets room at (number_bytes v)) at ≡ read v (at + length (number_bytes v))
  unfolding s
  reads_back = sym read_lem

-- ---- numbers one after another

sets_append : (l : List ℕ) (i : ℕ) (vs ws : List ℕ) → sets (sets l i vs) (i + length vs) ws ≡ sets l i (vs ++ ws)
sets_append l i [] ws = rw add-zero
sets_append l i (b ∷ vs) ws =
    let e : i + suc (length vs) ≡ suc i + length vs = omega arith in
    rw e (sets_append (set l i b) (suc i) vs ws)

pub written_append : (ms ns : List ℕ) (p : ℕ × List ℕ) → written (ms ++ ns) p ≡ written ns (written ms p)
written_append [] ns p = refl
written_append (m ∷ ms) ns p = written_append ms ns (written_at (number_bytes m) p.0 p.1)

-- a room keeps its length
wrote_long : (bs : List ℕ) (at : ℕ) (room : List ℕ) → length (written_at bs at room).1 ≡ length room
unfolding written_at
wrote_long bs at room = by_test (λ (p : ℕ × List ℕ). length p.1 ≡ length room) (leb (at + length bs) (length room)) {x = (at + length bs, sets room at bs)} {y = (at, room)} (λ _. length-sets room at bs) (λ _. refl)

pub written_long : (ns : List ℕ) (p : ℕ × List ℕ) → length (written ns p).1 ≡ length p.1
written_long [] p = refl
written_long (n ∷ ns) p = written_long ns (written_at (number_bytes n) p.0 p.1) ∙ wrote_long (number_bytes n) p.0 p.1

-- where all their bytes fit, they stand in a row
pub written_fits : (ns : List ℕ) (at : ℕ) (room : List ℕ) → at + length (bytes_of ns) ≤ length room → written ns (at, room) ≡ (at + length (bytes_of ns), sets room at (bytes_of ns))
written_fits [] at room h = let e : at + 0 ≡ at = omega arith in rw e
written_fits (n ∷ ns) at room h =
    let b : List ℕ = number_bytes n in
    let k : length (b ++ bytes_of ns) ≡ length b + length (bytes_of ns) = length-append b (bytes_of ns) in
    let e : at + length b + length (bytes_of ns) ≡ at + length (b ++ bytes_of ns) = omega arith in
    let w : written_at b at room ≡ (at + length b, sets room at b) = sym (fit b at room (omega arith)) in
    rw (w, written_fits ns (at + length b) (sets room at b) (rw (length-sets room at b) (omega arith)), e, sets_append room at b (bytes_of ns))

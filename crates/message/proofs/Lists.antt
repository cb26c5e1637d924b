-- Laws of the lists that a message counts and writes: one number more at the end.
use mathlib.Core.Path.{◌≡◌, refl, sym, ap, ◌∙◌}
use mathlib.Core.Bool.{Bool, true, false, not, cond}
use mathlib.Core.List.{List, [], ◌∷◌, ◌++◌}
use Prim.Native.Nat.{ℕ, zero, suc, ◌+◌, ◌-◌, ◌*◌, ◌≤◌, ◌<◌}
use native.Mathlib.Omega.{arith}
use native.Mathlib.Numerals.{add-one}
use lib.Dec.{eqb}
use lib.ListN.{length, get_or, take, drop, length-drop}
use lib.Seq.{length-take-le, get_or-take, get_or-drop}
use Rattle.std.specs.List.{count_by}
use Rattle.std.proofs.lemmas.List.Sums.{sum_by-cons}
use borrow.Author.Tests.{eq-eqb, ne_eqb}
use Rattle.numbers.specs.Writing.{number_bytes, written_at, written}
use Rattle.numbers.proofs.Writing.{written_append, written_long}
use Rattle.gdl.specs.Flags.{on, bit}
use Rattle.gdl.specs.Lists.{those_from, those}
use Rattle.gdl.proofs.Walks.{those_same}
use Rattle.message.specs.Message.{from, counted, head_numbers, message_of, Fits}
use Rattle.message.specs.declared.Sheet.{Sheet}

-- the number n, if it passes
abbrev last : (ℕ → Bool) → ℕ → List ℕ
last f n = cond (f n) (n ∷ []) []

those_snoc : (f : ℕ → Bool) (n : ℕ) → those (n + 1) f ≡ those n f ++ last f n
those_snoc f n = rw (add-one n) (go 0 n n (omega arith))
  where
    go : (i n k : ℕ) → k ≡ i + n → those_from f i (suc n) ≡ those_from f i n ++ last f k
    go i zero k e = let d : k ≡ i = omega arith in rw d
    go i (suc n) k e = step (f i) (those_from f (suc i) (suc n)) (those_from f (suc i) n) (go (suc i) n k (omega arith))
      where
        step : (b : Bool) (r q : List ℕ) → r ≡ q ++ last f k → cond b (i ∷ r) r ≡ cond b (i ∷ q) q ++ last f k
        step true r q h = ap (λ (l : List ℕ). i ∷ l) h
        step false r q h = h

-- ---- counting

-- the flags that are 1 are as many as their numbers
pub counted_ones : (flags : List ℕ) → count_by (λ x. eqb x 1) flags ≡ length (those (length flags) (on flags))
counted_ones flags = go 0 flags (on flags) (λ k lt. let z : 0 + k ≡ k = omega arith in ap (on flags) z)
  where
    go : (i : ℕ) (l : List ℕ) (f : ℕ → Bool) → ((k : ℕ) → k < length l → f (i + k) ≡ eqb (get_or l k 0) 1) → count_by (λ x. eqb x 1) l ≡ length (those_from f i (length l))
    go i [] f h = refl
    go i (x ∷ l) f h = sum_by-cons (λ y. cond (eqb y 1) 1 0) x l ∙ rw (here (h 0 (omega arith))) (step (eqb x 1) _ _ (go (suc i) l f (λ k lt. later k (h (suc k) (omega arith)))))
      where
        here : f (i + 0) ≡ eqb x 1 → f i ≡ eqb x 1
        here e = let z : i + 0 ≡ i = omega arith in rw z at e

        later : (k : ℕ) → f (i + suc k) ≡ eqb (get_or l k 0) 1 → f (suc i + k) ≡ eqb (get_or l k 0) 1
        later k e = let z : i + suc k ≡ suc i + k = omega arith in rw z at e

        step : (b : Bool) (m : ℕ) (r : List ℕ) → m ≡ length r → cond b 1 0 + m ≡ length (cond b (i ∷ r) r)
        step true m r e = omega arith
        step false m r e = omega arith

-- ---- writing

module _ (flags : List ℕ) (at : ℕ) (room₀ : List ℕ) where
  -- the numbers of the flags below i are written
  pub record Putting (room : List ℕ) (next i : ℕ) : Type 0 where
    pub within : i ≤ length flags
    pub long : length room ≡ length room₀
    pub so_far : (next, room) ≡ written (those i (on flags)) (at, room₀)

  pub putting_starts : Putting room₀ at 0
  putting_starts = record { within = omega arith; long = refl; so_far = refl }

  module _ (room : List ℕ) (next i : ℕ) (p : Putting room next i) (lt : i < length flags) where
    goes : (r : ℕ) (room' : List ℕ) → (r, room') ≡ written (last (on flags) i) (next, room) → Putting room' r (i + 1)
    goes r room' e = record {
      within = omega arith;
      long = ap (λ (x : ℕ × List ℕ). length x.1) e ∙ (written_long (last (on flags) i) (next, room) ∙ p.long);
      so_far = rw (those_snoc, written_append, ← p.so_far) e;
    }

    pub putting_more : get_or flags i 0 ≡ 1 → (r : ℕ) (room' : List ℕ) → (r, room') ≡ written_at (number_bytes i) next room → Putting room' r (i + 1)
    putting_more e r room' h = goes r room' (rw (eq-eqb (get_or flags i 0) 1 e) h)

    pub putting_same : (get_or flags i 0 ≡ 1 → ⊥) → Putting room next (i + 1)
    putting_same n = goes next room (rw (ne_eqb (get_or flags i 0) 1 n))

  pub putting_ends : (room : List ℕ) (next i : ℕ) → Putting room next i → length flags ≤ i → (next, room) ≡ written (those (length flags) (on flags)) (at, room₀)
  putting_ends room next i p le = let e : length flags ≡ i = omega (arith, p.within) in rw e p.so_far

pub ruleset puttings = (putting_starts, putting_more, putting_same, putting_ends)

-- ---- a count, then its list

pub puts_counted : (l : List ℕ) (at many next r : ℕ) (room room₁ room₂ : List ℕ) → many ≡ length l
    → (next, room₁) ≡ written_at (number_bytes many) at room → (r, room₂) ≡ written l (next, room₁) → (r, room₂) ≡ written (counted l) (at, room)
puts_counted l at many next r room room₁ room₂ e h k = k ∙ ap (λ (p : ℕ × List ℕ). written l p) (h ∙ ap (λ (m : ℕ). written_at (number_bytes m) at room) e)

-- ---- the whole message

-- numbers, then numbers
chain : (xs ys : List ℕ) (p q t : ℕ × List ℕ) → q ≡ written xs p → t ≡ written ys q → t ≡ written (xs ++ ys) p
chain xs ys p q t e h = h ∙ (ap (λ (x : ℕ × List ℕ). written ys x) e ∙ sym (written_append xs ys p))

pub head_written : (m : Sheet) (a b r x : ℕ) (room room₁ room₂ room₃ : List ℕ) → (a, room₁) ≡ written_at (number_bytes m.seat) 0 room → (b, room₂) ≡ written_at (number_bytes m.round) a room₁
    → x ≡ bit m.over → (r, room₃) ≡ written_at (number_bytes x) b room₂ → (r, room₃) ≡ written (head_numbers m) (0, room)
head_written m a b r x room room₁ room₂ room₃ ha hb e h = chain (m.seat ∷ []) (m.round ∷ bit m.over ∷ []) (0, room) (a, room₁) (r, room₃) ha
    (chain (m.round ∷ []) (bit m.over ∷ []) (a, room₁) (b, room₂) (r, room₃) hb (rw e at h))

pub message_written : (m : Sheet) (ps ls gs : List ℕ) (a b c r : ℕ) (room room₁ room₂ room₃ room₄ : List ℕ)
    → (a, room₁) ≡ written (head_numbers m) (0, room)
    → (b, room₂) ≡ written (counted (those m.percepts (from ps (m.seat * 256)))) (a, room₁)
    → (c, room₃) ≡ written (counted (cond (not m.over) (those m.moves (from ls (m.seat * 256))) [])) (b, room₂)
    → (r, room₄) ≡ written (counted (cond m.over (those 101 (from gs (m.seat * 256))) [])) (c, room₃)
    → (r, room₄) ≡ written (message_of m ps ls gs) (0, room)
unfolding message_of
message_written m ps ls gs a b c r room room₁ room₂ room₃ room₄ ea eb ec er =
    let start : ℕ = m.seat * 256 in
    let P : List ℕ = counted (those m.percepts (from ps start)) in
    let L : List ℕ = counted (cond (not m.over) (those m.moves (from ls start)) []) in
    let G : List ℕ = counted (cond m.over (those 101 (from gs start)) []) in
    chain (head_numbers m) (P ++ (L ++ G)) (0, room) (a, room₁) (r, room₄) ea (chain P (L ++ G) (a, room₁) (b, room₂) (r, room₄) eb (chain L G (b, room₂) (c, room₃) (r, room₄) ec er))

-- n flags from a place on, as code cuts them
abbrev pub row : List ℕ → ℕ → ℕ → List ℕ
row flags start n = take (start + n - start) (drop start flags)

module _ (flags : List ℕ) (start n : ℕ) (long : length flags ≡ 2048) (le : start + n ≤ 2048) where
  row_long : length (row flags start n) ≡ n
  row_long = length-take-le (start + n - start) (drop start flags) (omega (arith, length-drop start flags)) ∙ omega arith

  -- the numbers of a part's flags are those from its start on
  pub row_is : those (length (row flags start n)) (on (row flags start n)) ≡ those n (from flags start)
  row_is = rw row_long (those_same (on (row flags start n)) (from flags start) n (λ k lt. ap (λ (x : ℕ). eqb x 1) (get_or-take (start + n - start) (drop start flags) k 0 (omega arith) ∙ get_or-drop start flags k 0)))

told : (b : Bool) (n : ℕ) (f : ℕ → Bool) → those (cond b n 0) f ≡ cond b (those n f) []
told true n f = refl
told false n f = refl

untold : (b : Bool) (n : ℕ) (f : ℕ → Bool) → those (cond b 0 n) f ≡ cond (not b) (those n f) []
untold true n f = refl
untold false n f = refl

-- a head, and the numbers of three parts of flags: all percepts, the moves unless it is over, and the goal values if it is
module _ (m : Sheet) (ps ls gs : List ℕ) (fits : Fits m) (long₁ : length ps ≡ 2048) (long₂ : length ls ≡ 2048) (long₃ : length gs ≡ 2048) (start n moves values : ℕ) where
  pub parts_written : start ≡ m.seat * 256 → n ≡ m.percepts → moves ≡ cond m.over 0 m.moves → values ≡ cond m.over 101 0
      → (a b c r : ℕ) (room room₁ room₂ room₃ room₄ : List ℕ)
      → (a, room₁) ≡ written (head_numbers m) (0, room)
      → (b, room₂) ≡ written (counted (those (length (row ps start n)) (on (row ps start n)))) (a, room₁)
      → (c, room₃) ≡ written (counted (those (length (row ls start moves)) (on (row ls start moves)))) (b, room₂)
      → (r, room₄) ≡ written (counted (those (length (row gs start values)) (on (row gs start values)))) (c, room₃)
      → (r, room₄) ≡ written (message_of m ps ls gs) (0, room)
  parts_written es en em ev a b c r room room₁ room₂ room₃ room₄ ha hb hc hr =
      let few_moves : cond m.over 0 m.moves ≤ 256 = few m.over 0 m.moves (omega arith) fits.moves in
      let few_values : cond m.over 101 0 ≤ 256 = few m.over 101 0 (omega arith) (omega arith) in
      let fp : start + n ≤ 2048 = omega (arith, fits.seat, fits.percepts) in
      let fm : start + moves ≤ 2048 = omega (arith, fits.seat) in
      let fv : start + values ≤ 2048 = omega (arith, fits.seat) in
      message_written m ps ls gs a b c r room room₁ room₂ room₃ room₄ ha
      (rw (row_is ps start n long₁ fp, en, es) at hb)
      (rw (row_is ls start moves long₂ fm, em, es, untold m.over m.moves (from ls (m.seat * 256))) at hc)
      (rw (row_is gs start values long₃ fv, ev, es, told m.over 101 (from gs (m.seat * 256))) at hr)
    where
      few : (b : Bool) (x y : ℕ) → x ≤ 256 → y ≤ 256 → cond b x y ≤ 256
      few true x y h k = h
      few false x y h k = k

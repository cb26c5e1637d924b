-- What holds at each place of a list: after one was set, and where none is.
use mathlib.Core.Path.{◌≡◌, refl, sym, subst}
use mathlib.Core.Logic.{◌≢◌}
use mathlib.Core.List.{List}
use Prim.Native.Nat.{ℕ, zero, suc, ◌<◌}
use native.Mathlib.Decide.{ℕ_discrete}
use lib.ListN.{length, get_or, set}
use lib.Seq.{get_or-set_same, get_or-set_other}
use Rattle.gdl.specs.Flags.{blank}

pub after_set : (l : List ℕ) (i x : ℕ) → i < length l → (P : ℕ → ℕ → Type 0) → P i x → ((j : ℕ) → j ≢ i → P j (get_or l j 0)) → (j : ℕ) → P j (get_or (set l i x) j 0)
after_set l i x lt P here there j = elim (ℕ_discrete j i) [
  | yes e ↦ subst (λ (y : ℕ). P y (get_or (set l i x) y 0)) (sym e) (subst (P i) (sym (get_or-set_same l i x 0 lt)) here)
  | no ne ↦ subst (P j) (sym (get_or-set_other l i j x 0 ne)) (there j ne)
]

pub blank_at : (n p : ℕ) → get_or (blank n) p 0 ≡ 0
blank_at zero p = refl
blank_at (suc n) zero = refl
blank_at (suc n) (suc p) = blank_at n p

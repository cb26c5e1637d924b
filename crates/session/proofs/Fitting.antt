-- Flags that are set only where they may be fit.
use mathlib.Core.Path.{◌≡◌, refl}
use mathlib.Core.Bool.{Bool, true, false, ◌&&◌}
use Prim.Native.Nat.{ℕ, zero, suc}
use lib.Dec.{T}
use Rattle.gdl.specs.Flags.{bit}
use Rattle.gdl.specs.Lists.{flags_from, every_from, flags, every}
use Rattle.gdl.proofs.Tests.{and_both}
use Rattle.session.specs.Shape.{flag_fits}

pub flags_fit : (may f : ℕ → Bool) (n : ℕ) → T (every (flag_fits may) (flags n (λ k. may k && f k)))
flags_fit may f n = go 0 n
  where
    one : (a b : Bool) (i : ℕ) → may i ≡ a → T (flag_fits may i (bit (a && b)))
    one true true i e = rw e tt
    one true false i e = rw e tt
    one false b i e = rw e tt

    go : (i n : ℕ) → T (every_from (flag_fits may) i (flags_from (λ k. may k && f k) i n))
    go i zero = tt
    go i (suc n) = and_both (flag_fits may i (bit (may i && f i))) (every_from (flag_fits may) (suc i) (flags_from (λ k. may k && f k) (suc i) n)) (one (may i) (f i) i refl) (go (suc i) n)

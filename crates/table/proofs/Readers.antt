-- Laws of the readers, in the form in which the code's tests and answers meet them.
use Prim.Native.Nat.{ℕ}
use mathlib.Core.Path.{◌≡◌, refl, sym, ap, ◌∙◌}
use mathlib.Core.List.{List}
use lib.ListN.{get_or, get_or-map}
use Rattle.std.specs.Prelude.{Option, None}
use Rattle.table.specs.Parse.{Parse}
use Rattle.table.specs.Table.{Bound, Absent, field, first_bounds, second_bounds, first_bound, second_bound}
use Rattle.table.specs.Says.{end_of, ends, EndsOf}
use Rattle.table.specs.declared.header.Header.{Header}

pub both_ends : (h : Header) (firsts seconds : List (Option ℕ)) → firsts ≡ ends (first_bounds h) → seconds ≡ ends (second_bounds h) → EndsOf h firsts seconds
both_ends h firsts seconds e f = record { firsts_are = e; seconds_are = f }

-- the number of a bound is found at its kind
end_at : (bounds : List Bound) (l : List (Option ℕ)) → l ≡ ends bounds → (kind : ℕ) (end : Option ℕ) → end ≡ get_or l kind None → end_of (get_or bounds kind Absent) ≡ end
end_at bounds l w kind end e = sym (e ∙ ap (λ (x : List (Option ℕ)). get_or x kind None) w ∙ get_or-map end_of bounds kind Absent)

module _ (h : Header) (firsts seconds : List (Option ℕ)) (w : EndsOf h firsts seconds) (kind : ℕ) (end : Option ℕ) where
  first_end_lem : end ≡ get_or firsts kind None → end_of (first_bound h kind) ≡ end
  unfolding first_bound
  first_end_lem = end_at (first_bounds h) firsts w.firsts_are kind end

  second_end_lem : end ≡ get_or seconds kind None → end_of (second_bound h kind) ≡ end
  unfolding second_bound
  second_end_lem = end_at (second_bounds h) seconds w.seconds_are kind end

-- a field that was read up to the number of its bound was read within the bound
module _ (h : Header) (firsts seconds : List (Option ℕ)) (w : EndsOf h firsts seconds) (s : List ℕ) (at kind k : ℕ) (e : k ≡ kind) (p : Parse ℕ) where
  pub first_read : ((b : Bound) → end_of b ≡ get_or firsts k None → p ≡ field b s at) → p ≡ field (first_bound h kind) s at
  first_read f = rw e at f (first_bound h kind) (first_end_lem h firsts seconds w kind _ refl)

  pub second_read : ((b : Bound) → end_of b ≡ get_or seconds k None → p ≡ field b s at) → p ≡ field (second_bound h kind) s at
  second_read f = rw e at f (second_bound h kind) (second_end_lem h firsts seconds w kind _ refl)

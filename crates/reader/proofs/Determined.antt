-- The promises of the reading place determine its answers: any two that one of them allows are equal.
use mathlib.Core.Path.{◌≡◌, sym, ◌∙◌}
use mathlib.Core.List.{List}
use Prim.Native.Nat.{ℕ}
use denote.Ref.{Bor}
use Rattle.std.specs.Prelude.{Result}
use Rattle.numbers.specs.declared.Item.{Item}
use Rattle.numbers.specs.declared.Fault.{Fault}
use Rattle.reader.specs.declared.Reader.{Reader}
use Rattle.reader.specs.declared.Found.{Found}
use Rattle.reader.specs.declared.ClauseStart.{ClauseStart}
use Rattle.reader.specs.Reading.{found_at, reader_at, read_next, clause_start}

by_equation : {W : Type 0} {x a b : W} → a ≡ x → b ≡ x → a ≡ b
by_equation e f = e ∙ sym f

abbrev pub Determines : {W : Type 0} → (W → Type 0) → Type 0
Determines {W = W} Promise = (a b : W) → Promise a → Promise b → a ≡ b

pub record Determined (s : List ℕ) : Type 0 where
  pub of_step : (at : ℕ) → Determines (λ (f : Found). f ≡ found_at s at)
  pub of_start : (table : Bor (List ℕ)) (at : ℕ) → Determines (λ (ρ : Reader). ρ ≡ reader_at table at)
  pub of_next : (ρ : Reader) → Determines (λ (a : Result Item Fault × Reader). a ≡ read_next ρ)
  pub of_place : (ρ : Reader) → Determines (λ (n : ℕ). n ≡ ρ.at)
  pub of_clause_start : (at : ℕ) → Determines (λ (r : ClauseStart). r ≡ clause_start s at)

pub determined : (s : List ℕ) → Determined s
determined s = record {
  of_step = λ at a b. by_equation;
  of_start = λ table at a b. by_equation;
  of_next = λ ρ a b. by_equation;
  of_place = λ ρ a b. by_equation;
  of_clause_start = λ at a b. by_equation;
}

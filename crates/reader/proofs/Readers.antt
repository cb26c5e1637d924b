-- A statement of the reader: what reading at a place comes to, one read, and two one after the other.
use mathlib.Core.Path.{◌≡◌, refl, ap, ◌∙◌}
use mathlib.Core.List.{List}
use Prim.Native.Nat.{ℕ}
use denote.Ref.{Bor}
use Rattle.std.specs.Prelude.{Result}
use Rattle.numbers.specs.declared.Item.{Item}
use Rattle.numbers.specs.declared.Fault.{Fault}
use Rattle.numbers.specs.Number.{number_at}
use Rattle.reader.specs.declared.Reader.{Reader}
use Rattle.reader.specs.Reading.{after, found_at, reader_at, read_next, clause_start}

pub found_at_lem : (s : List ℕ) (at : ℕ) (n : Result Item Fault) (next : ℕ) → n ≡ number_at s at → next ≡ after n at → record { number = n; next = next } ≡ found_at s at
found_at_lem s at n next e f = rw (f, e) refl

pub ruleset found = (found_at_lem)

-- two reads one after the other, from a place of a table
pub begins : (t : Bor (List ℕ)) (at : ℕ) {ρ ρ₁ ρ₂ : Reader} {h c : Result Item Fault} {p : ℕ} → ρ ≡ reader_at t at → (h, ρ₁) ≡ read_next ρ → (c, ρ₂) ≡ read_next ρ₁ → p ≡ ρ₂.at
    → record { head = h; count = c; literals = p } ≡ clause_start t.now at
begins t at {ρ} {ρ₁} {ρ₂} {h} {c} {p} e e₁ e₂ e₃ =
    let first : (h, ρ₁) ≡ read_next (reader_at t at) = e₁ ∙ ap read_next e in
    let second : (c, ρ₂) ≡ read_next (read_next (reader_at t at)).1 = e₂ ∙ ap (λ (x : Result Item Fault × Reader). read_next x.1) first in
    let last : p ≡ (read_next (read_next (reader_at t at)).1).1.at = e₃ ∙ ap (λ (x : Result Item Fault × Reader). x.1.at) second in
    λ i. record { head = (first i).0; count = (second i).0; literals = last i }

-- "A reading place in the table goes on from record to record and always knows which table it reads": `goes_on_lem`, and `same_table` for any number of reads.
use mathlib.Core.Path.{◌≡◌, refl, ap}
use Prim.Native.Nat.{ℕ, zero, suc, ◌<◌, ◌≤◌}
use lib.ListN.{length}
use Rattle.std.specs.Prelude.{Result, Ok, Err}
use Rattle.numbers.specs.declared.Item.{Item}
use Rattle.numbers.specs.declared.Fault.{Fault}
use Rattle.numbers.specs.Number.{number_at}
use Rattle.numbers.proofs.Reading.{read_sound}
use Rattle.reader.specs.declared.Reader.{Reader}
use Rattle.reader.specs.Reading.{after, read_next}

-- one read: the table is the same; a number that was read lies between the old place and the new one, within the table; a fault keeps the place
pub record GoesOn (ρ : Reader) : Type 0 where
  pub table : (read_next ρ).1.table ≡ ρ.table
  pub read : (i : Item) → (read_next ρ).0 ≡ Ok i → ((read_next ρ).1.at ≡ i.next) × (ρ.at < i.next) × (i.next ≤ length ρ.table.now)
  pub fault : ((i : Item) → (read_next ρ).0 ≡ Ok i → ⊥) → (read_next ρ).1.at ≡ ρ.at

stays : (r : Result Item Fault) (at : ℕ) → ((i : Item) → r ≡ Ok i → ⊥) → after r at ≡ at
stays (Ok i) at none = absurd (none i refl)
stays (Err f) at none = refl

pub goes_on_lem : (ρ : Reader) → GoesOn ρ
goes_on_lem ρ = record {
  table = refl;
  read = λ i e. (ap (λ (r : Result Item Fault). after r ρ.at) e, (read_sound ρ.table.now ρ.at e).0, (read_sound ρ.table.now ρ.at e).1);
  fault = stays (number_at ρ.table.now ρ.at) ρ.at;
}

-- the reader after n reads
abbrev pub gone : ℕ → Reader → Reader
gone zero ρ = ρ
gone (suc n) ρ = gone n (read_next ρ).1

pub same_table : (n : ℕ) (ρ : Reader) → (gone n ρ).table ≡ ρ.table
same_table zero ρ = refl
same_table (suc n) ρ = same_table n (read_next ρ).1

-- Laws of the reading of atom records, one after another.
use Prim.Native.Nat.{ℕ, suc, ◌+◌, ◌-◌, ◌≤◌, ◌<◌}
use native.Mathlib.Omega.{arith}
use Rattle.std.specs.Prelude.{true, false, ltb, Ok, Err}
use native.Mathlib.Nat.{sub-zero}
use mathlib.Core.Path.{◌≡◌, refl, ◌∙◌}
use mathlib.Core.List.{List, [], ◌∷◌, ◌++◌, append-nil}
use lib.ListN.{length, set, length-append}
use Rattle.refusals.specs.declared.Refusal.{Refusal}
use Rattle.refusals.specs.declared.Refusal.TheVariants.{NotAbove}
use Rattle.gdl.specs.Game.{Atom}
use Rattle.table.specs.Parse.{ok, fault}
use Rattle.table.specs.Table.{atom, atoms_from}
use Rattle.table.specs.Says.{atom_of, key_of, WroteAtoms, AtomsLaid}
use Rattle.table.specs.declared.header.Header.{Header}
use Rattle.table.specs.declared.atoms.AtomRecord.{AtomRecord}
use Rattle.reader.specs.declared.Reader.{Reader}
use Rattle.table.specs.declared.tables.AtomRoom.{AtomRoom}
use Rattle.table.proofs.Runs.{onto, onto_none, onto_cons, stored_next}

-- what holds while atoms are read: those that are done stand in the arrays, and the reading goes on from them
pub record Reading (h : Header) (n : ℕ) (start : Reader) (old room : AtomRoom) (k least : ℕ) (reader : Reader) : Type 0 where
  pub same : reader.table ≡ start.table
  pub within : k ≤ n
  pub done : List Atom
  pub many : length done ≡ k
  pub laid : AtomsLaid done old room
  pub whole : atoms_from h n 0 start.table.now start.at ≡ onto done (atoms_from h (n - k) least reader.table.now reader.at)

module _ {h : Header} {n : ℕ} {start : Reader} {old : AtomRoom} where
  pub reading_starts : Reading h n start old old 0 0 start
  reading_starts = record {
    same = refl;
    within = omega arith;
    done = [];
    many = refl;
    laid = record { kinds_are = refl; firsts_are = refl; seconds_are = refl };
    whole = rw sub-zero (onto_none _);
  }

  module _ {room : AtomRoom} {k least : ℕ} {reader : Reader} (i : Reading h n start old room k least reader) where
    module _ (l : k < n) where
      left : n - k ≡ suc (n - (k + 1))
      left = omega arith

      pub reading_fault : {f : Refusal} (at : ℕ) → fault f ≡ atom h reader.table.now reader.at → WroteAtoms (atoms_from h n 0 start.table.now start.at) old (Err f) at room
      unfolding atoms_from onto
      reading_fault {f} at e = rw (i.whole, left, ← e) refl

      module _ {a : AtomRecord} (next : Reader) (e : ok (atom_of a) next.at ≡ atom h reader.table.now reader.at) where
        pub reading_low : ltb (key_of a) least ≡ true → WroteAtoms (atoms_from h n 0 start.table.now start.at) old (Err (NotAbove reader.at)) next.at room
        unfolding atoms_from onto
        reading_low m = rw (i.whole, left, ← e, m) refl

        pub reading_more : next.table ≡ reader.table → ltb (key_of a) least ≡ false
            → Reading h n start old (record { kinds = set room.kinds k a.kind; firsts = set room.firsts k a.first; seconds = set room.seconds k a.second }) (k + 1) (key_of a + 1) next
        unfolding atoms_from
        reading_more t m =
            let j : k ≡ 0 + length i.done = omega (arith, i.many) in
            record {
              same = t ∙ i.same;
              within = omega arith;
              done = i.done ++ atom_of a ∷ [];
              many = rw (length-append, i.many) refl;
              laid = record {
                kinds_are = stored_next (λ b. b.kind) old.kinds room.kinds 0 k i.done (atom_of a) i.laid.kinds_are j;
                firsts_are = stored_next (λ b. b.first) old.firsts room.firsts 0 k i.done (atom_of a) i.laid.firsts_are j;
                seconds_are = stored_next (λ b. b.second) old.seconds room.seconds 0 k i.done (atom_of a) i.laid.seconds_are j;
              };
              whole = rw (i.whole, left, ← e, m, t) (onto_cons _ _ _);
            }

    pub reading_done : n ≤ k → WroteAtoms (atoms_from h n 0 start.table.now start.at) old (Ok tt) reader.at room
    unfolding atoms_from onto
    reading_done m =
        let z : n - k ≡ 0 = omega (arith, i.within) in
        rw (i.whole, z, append-nil) (refl, refl, i.laid)

pub ruleset readings = (reading_starts, reading_fault, reading_low, reading_more, reading_done)

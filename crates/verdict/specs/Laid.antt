-- The arrays of a decoded table, and the parts of them that are in use.
use Rattle.std.specs.Prelude.{◌≡◌, ℕ, ◌+◌, ◌≤◌, length, get_or, take}
use Rattle.std.proofs.lemmas.List.Edits.{sets}
use Rattle.gdl.specs.Game.{Game}
use Rattle.gdl.specs.declared.arrays.AtomArrays.{AtomArrays}
use Rattle.gdl.specs.declared.arrays.ClauseArrays.{ClauseArrays}
use Rattle.gdl.specs.Flags.{blank}
use Rattle.gdl.specs.Layout.{kinds_of, firsts_of, seconds_of, heads_of, starts_from, literals_of, owners_of}
use Rattle.table.specs.declared.tables.AtomRoom.{AtomRoom}
use Rattle.table.specs.declared.tables.ClauseRoom.{ClauseRoom}
use Rattle.table.specs.declared.tables.Arrays.{Arrays}
use Rattle.table.specs.declared.tables.Read.{Read}
use Rattle.table.specs.Says.{header_of}
use Rattle.rules.specs.Limits.{Limits}

-- the arrays hold the game that was read, from their start on, the rest blank
pub record Laid (r : Read) (a : Arrays) (G : Game) : Type 0 where
  pub limits : Limits G
  pub header_is : r.header ≡ header_of G
  pub clauses_are : r.clauses ≡ length G.clauses
  pub kinds_are : a.atoms.kinds ≡ sets (blank 1024) 0 (kinds_of G.atoms)
  pub firsts_are : a.atoms.firsts ≡ sets (blank 1024) 0 (firsts_of G.atoms)
  pub seconds_are : a.atoms.seconds ≡ sets (blank 1024) 0 (seconds_of G.atoms)
  pub heads_are : a.clauses.heads ≡ sets (blank 2048) 0 (heads_of G.clauses)
  pub starts_are : a.clauses.starts ≡ sets (blank 2049) 0 (starts_from 0 G.clauses)
  pub literals_are : a.clauses.literals ≡ sets (blank 8192) 0 (literals_of G.clauses)
  pub owners_are : a.clauses.owners ≡ sets (blank 8192) 0 (owners_of G.clauses)

-- the first n atoms of a room
pub record AtomsUsed (n : ℕ) (room : AtomRoom) (a : AtomArrays) : Type 0 where
  pub kinds_are : a.kinds.now ≡ take n room.kinds
  pub firsts_are : a.firsts.now ≡ take n room.firsts
  pub seconds_are : a.seconds.now ≡ take n room.seconds

-- the first n clauses of a room, whose literals end where the next clause's would start
pub record ClausesUsed (n : ℕ) (room : ClauseRoom) (c : ClauseArrays) : Type 0 where
  pub heads_are : c.heads.now ≡ take n room.heads
  pub starts_are : c.starts.now ≡ take (n + 1) room.starts
  pub literals_are : c.literals.now ≡ take (get_or room.starts n 0) room.literals
  pub few : length c.literals.now ≤ 8192

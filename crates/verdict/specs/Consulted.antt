-- What a call learns from a table: a refusal; or the header, the atoms, and flags of the atoms.
use Rattle.std.specs.Prelude.{List, ◌++◌, ◌≡◌, ℕ, ◌-◌, ◌≤◌, length, Result, Ok, Err}
use Rattle.std.proofs.lemmas.List.Edits.{sets}
use Rattle.refusals.specs.declared.Refusal.{Refusal}
use Rattle.gdl.specs.Game.{Game}
use Rattle.gdl.specs.Flags.{blank}
use Rattle.gdl.specs.Layout.{kinds_of, firsts_of, seconds_of}
use Rattle.table.specs.Says.{header_of}
use Rattle.rules.specs.Verdict.{Verdict, unfit, fit}
use Rattle.table.specs.declared.header.Header.{Header}
use Rattle.verdict.specs.declared.Learnt.{Learnt}

-- the header of an accepted table, its atoms and flags of its atoms
pub record Consulted : Type 0 where
  pub header : Header
  pub kinds : List ℕ
  pub firsts : List ℕ
  pub seconds : List ℕ
  pub flags : List ℕ

-- as code has them
abbrev pub found : Learnt → Consulted
found l = record { header = l.header; kinds = l.atoms.kinds; firsts = l.atoms.firsts; seconds = l.atoms.seconds; flags = l.flags }

-- a game's header and atoms, with flags of its atoms
abbrev pub found_in : Game → List ℕ → Consulted
found_in G X = record {
  header = header_of G;
  kinds = sets (blank 1024) 0 (kinds_of G.atoms);
  firsts = sets (blank 1024) 0 (firsts_of G.atoms);
  seconds = sets (blank 1024) 0 (seconds_of G.atoms);
  flags = X ++ blank (1024 - length G.atoms);
}

-- an accepted table, and what was found in it with the flags that are asked for
pub record Accepts (v : Verdict) (flags_of : Game → List ℕ) (c : Consulted) : Type 0 where
  pub game : Game
  pub verdict : v ≡ fit game
  pub is : c ≡ found_in game (flags_of game)

-- what an answer says of the verdict and of what is then learnt
abbrev pub Learns : Verdict → (Game → List ℕ) → Result (Unit {0}) Refusal → Learnt → Type 0
Learns v flags_of (Ok u) l = Accepts v flags_of (found l)
Learns v flags_of (Err f) l = v ≡ unfit f

-- before anything is learnt: no table, and blank places
abbrev pub nothing_learnt : Learnt
nothing_learnt = record {
  header = record { players = record { claim = 0; seats = 0; chance = 0 }; sizes = record { fluents = 0; moves = 0; percepts = 0; atoms = 0 } };
  atoms = record { kinds = blank 1024; firsts = blank 1024; seconds = blank 1024 };
  flags = blank 1024;
}

-- an accepted table was consulted
pub record Fit (c : Consulted) : Type 0 where
  pub game : Game
  pub flags : List ℕ
  pub is : c ≡ found_in game flags
  pub few : length game.atoms ≤ 1024

abbrev pub examined : Verdict → Result Header Refusal
examined (unfit f) = Err f
examined (fit G) = Ok (header_of G)

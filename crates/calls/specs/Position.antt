-- What holds in a position, and what open, offer and play make of a record: "Truth in a position", "A session".
use Rattle.std.specs.Prelude.{Bool, ◌&&◌, List, [], ℕ, suc, ◌/◌, ◌%◌, set}
use Rattle.gdl.specs.Game.{Game, init_kind, legal_kind, next_kind, sees_kind, terminal_kind, goal_kind, is_atom}
use Rattle.gdl.specs.Sets.{Atoms}
use Rattle.gdl.specs.Flags.{on, blank}
use Rattle.gdl.specs.Computed.{model, any_of}
use Rattle.gdl.specs.Lists.{flags}
use Rattle.session.specs.Shape.{fluent_fits, percept_fits}
use Rattle.session.specs.declared.Session.{Session}

-- the atom of kind k with the fields x and y is in the table, and in a set
abbrev pub atom_in : Game → Atoms → ℕ → ℕ → ℕ → Bool
atom_in G X k x y = any_of (is_atom k x y) G.atoms X

-- "Legal moves, end, goals: from the model of the position without moves."
unfoldable pub still : Game → List ℕ → List ℕ
still G pos = model G pos []

-- "Next position and percepts: from the model of the position with the full joint choice."
unfoldable pub moved : Game → List ℕ → List ℕ → List ℕ
moved G pos ch = model G pos ch

unfoldable pub over : Game → List ℕ → Bool
over G pos = let M : List ℕ = still G pos in atom_in G (on M) terminal_kind 0 0

unfoldable pub legal : Game → List ℕ → ℕ → ℕ → Bool
legal G pos s m = let M : List ℕ = still G pos in atom_in G (on M) legal_kind s m

unfoldable pub goal : Game → List ℕ → ℕ → ℕ → Bool
goal G pos s x = let M : List ℕ = still G pos in atom_in G (on M) goal_kind s x

-- "Opening position: fluents whose init atom is in the model of the empty position without moves."
-- "Open starts at round 0 without choices or percepts."
unfoldable pub opened : Game → Session
opened G =
    let M : List ℕ = still G [] in
    record {
      position = flags 512 (λ f. fluent_fits G f && atom_in G (on M) init_kind f 0);
      choices = blank 8;
      percepts = blank 2048;
      round = 0;
    }

-- "Offer stores a legal move for a seat."
unfoldable pub stored : Session → ℕ → ℕ → Session
stored σ s m = record { position = σ.position; choices = set σ.choices s (suc m); percepts = σ.percepts; round = σ.round }

-- "Play replaces the position by the next one, stores the percepts, clears the choices and adds 1 to the round."
unfoldable pub played : Game → Session → Session
played G σ =
    let M : List ℕ = moved G σ.position σ.choices in
    record {
      position = flags 512 (λ f. fluent_fits G f && atom_in G (on M) next_kind f 0);
      choices = blank 8;
      percepts = flags 2048 (λ i. percept_fits G i && atom_in G (on M) sees_kind (i / 256) (i % 256));
      round = suc σ.round;
    }

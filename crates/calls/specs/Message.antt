-- The "Message of a seat", first as numbers, then as bytes.
use Rattle.std.specs.Prelude.{Bool, cond, List, [], ◌∷◌, ◌++◌, ℕ, ◌+◌, ◌*◌, length}
use Rattle.numbers.specs.Writing.{bytes_of}
use Rattle.gdl.specs.Game.{Game}
use Rattle.gdl.specs.Flags.{on, bit}
use Rattle.gdl.specs.Lists.{those}
use Rattle.session.specs.declared.Session.{Session}
use Rattle.calls.specs.Position.{over, legal, goal}

-- "count of .. and the .."
abbrev pub counted : List ℕ → List ℕ
counted l = length l ∷ l

-- the lists of a message, each ascending
abbrev pub percepts_of : Game → Session → ℕ → List ℕ
percepts_of G σ z = those G.percepts (λ p. on σ.percepts (z * 256 + p))

abbrev pub legal_of : Game → Session → ℕ → List ℕ
legal_of G σ z = those G.moves (legal G σ.position z)

abbrev pub goals_of : Game → Session → ℕ → List ℕ
goals_of G σ z = those 101 (goal G σ.position z)

-- "seat; round; 1 if over else 0; count of percepts and the percepts ascending; count of legal moves and the moves ascending (count 0 when
-- over); count of goal values and the values ascending (count 0 unless over)"
unfoldable pub message_numbers : Game → Session → ℕ → List ℕ
message_numbers G σ z =
    let end : Bool = over G σ.position in
    z ∷ σ.round ∷ bit end ∷ counted (percepts_of G σ z) ++ counted (cond end [] (legal_of G σ z)) ++ counted (cond end (goals_of G σ z) [])

-- "in house numbers"
unfoldable pub message_bytes : Game → Session → ℕ → List ℕ
message_bytes G σ z = bytes_of (message_numbers G σ z)

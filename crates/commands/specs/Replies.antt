-- Answers in words: the texts that are put one after another.
use Rattle.std.specs.Prelude.{ℕ, List, [], ◌∷◌}
use Rattle.refusals.specs.Refusal.{number_of, place_of}
use Rattle.refusals.specs.declared.Refusal.{Refusal}
use Rattle.session.specs.Bytes.{session_bytes}
use Rattle.session.specs.declared.Session.{Session}
use Rattle.lines.specs.Decimal.{decimal_text}
use Rattle.lines.specs.Hex.{hex_text}
use Rattle.commands.specs.Texts.{text}

-- "NUMBER PLACE"
abbrev pub refusal_texts : Refusal → List (List ℕ)
refusal_texts r = decimal_text (number_of r) ∷ text " " ∷ decimal_text (place_of r) ∷ []

-- one more number
abbrev pub more_texts : ℕ → List (List ℕ)
more_texts x = text " " ∷ decimal_text x ∷ []

-- bytes behind what is there
abbrev pub bytes_texts : List ℕ → List (List ℕ)
bytes_texts bs = text " " ∷ hex_text bs ∷ []

-- "ok LENGTH"
abbrev pub ok_texts : ℕ → List (List ℕ)
ok_texts n = text "ok " ∷ decimal_text n ∷ []

abbrev pub record_texts : Session → List (List ℕ)
record_texts σ = hex_text (session_bytes σ) ∷ []

-- "one line that names the commands"
abbrev pub help_texts : List (List ℕ)
help_texts = text "commands: table HEX, load FILE, check, claim, open, offer SEAT MOVE, play, message SEAT [ROOM], hidden SEAT SEAT MOVE, model HEX HEX [ROOM], record [HEX], help" ∷ []

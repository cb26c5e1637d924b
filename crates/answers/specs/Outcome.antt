-- The outcome of tests, and what a call answers by it: what was worked out, or the refusal with what a refusal hands back.
use Rattle.std.specs.Prelude.{ℕ, leb, not, if◌then◌else◌, Result, Ok, Err}
use Rattle.refusals.specs.declared.Refusal.{Refusal}
use Rattle.refusals.specs.declared.Refusal.TheVariants.{Success, GameOver, BadShape}
use Rattle.gdl.specs.Game.{Game}
use Rattle.session.specs.Shape.{shaped, limits_of}
use Rattle.session.specs.declared.Session.{Session}
use Rattle.session.specs.declared.shape.Limits.{Limits}
use Rattle.calls.specs.Position.{over}
use Rattle.calls.specs.declared.Moved.{Moved}
use Rattle.calls.specs.declared.Sent.{Sent}
use Rattle.calls.specs.declared.Looked.{Looked}

-- the limits of a game, of a record of its shape with which the game goes on
abbrev pub going : Game → Session → Result Limits Refusal
going G σ = if not (shaped G σ) then Err BadShape else if over G σ.position then Err GameOver else Ok (limits_of G)

-- the number of a seat or a move as a place, if it is below the end
abbrev pub within : ℕ → ℕ → Refusal → Result ℕ Refusal
within number end refusal = if leb end number then Err refusal else Ok number

-- "the record is the one given"
abbrev pub moved_from : Session → Result Session Refusal → Moved
moved_from σ (Ok τ) = record { refusal = Success; session = τ }
moved_from σ (Err r) = record { refusal = r; session = σ }

-- the same of a record that was moved on in its place
abbrev pub moved_in : Session → Result (Unit {0}) Refusal → Moved
moved_in σ (Ok u) = record { refusal = Success; session = σ }
moved_in σ (Err r) = record { refusal = r; session = σ }

-- "Length, claim and the hidden answer are then 0."
abbrev pub sent_from : Result ℕ Refusal → Sent
sent_from (Ok n) = record { refusal = Success; length = n }
sent_from (Err r) = record { refusal = r; length = 0 }

abbrev pub looked_from : Result ℕ Refusal → Looked
looked_from (Ok b) = record { refusal = Success; hidden = b }
looked_from (Err r) = record { refusal = r; hidden = 0 }

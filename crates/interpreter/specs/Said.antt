-- How an answer is said: texts at the front of the room; an error where the line has a fault; what a call's promise allows, in words.
use Rattle.std.specs.Prelude.{ℕ, ◌≡◌, List, Result, Ok, Err}
use Rattle.commands.specs.Texts.{puts}
use Rattle.commands.specs.Faults.{error_texts}
use Rattle.commands.specs.declared.fault.Fault.{Fault}

abbrev pub Texts : Type 0
Texts = List (List ℕ)

-- how long the answer is, and the room with the answer at its front
unfoldable pub said : Texts → List ℕ → ℕ × List ℕ
said t room = puts t (0, room)

-- what comes of a step, where the steps before it were right: the meaning of `?`
infixl 10 ◌>>=◌
abbrev pub ◌>>=◌ : {A B : Type 0} → Result A Fault → (A → Result B Fault) → Result B Fault
Ok a >>= f = f a
Err e >>= f = Err e

-- "error WHAT" where something is wrong
abbrev pub or_error : Result Texts Fault → Texts
or_error (Ok t) = t
or_error (Err f) = error_texts f

-- one of the answers that are meant is said
pub record Says (Meant : Texts → Type 0) (room : List ℕ) (x : ℕ × List ℕ) : Type 0 where
  pub texts : Texts
  pub meant : Meant texts
  pub puts : x ≡ said texts room

-- the same; or the fault whose error is meant, and the room stays
abbrev pub Tries : (Texts → Type 0) → List ℕ → Result ℕ Fault → List ℕ → Type 0
Tries Meant room (Ok n) after = Says Meant room (n, after)
Tries Meant room (Err f) after = Meant (error_texts f) × (after ≡ room)

-- an answer that tells what a call's promise allows
pub record Told (A : Type 0) (Promise : A → Type 0) (tell : A → Texts) (t : Texts) : Type 0 where
  pub given : A
  pub promised : Promise given
  pub tells : t ≡ tell given

-- what is meant of the words of a line, or "error WHAT"
abbrev pub ToldOrError : {A : Type 0} → Result A Fault → (A → Texts → Type 0) → Texts → Type 0
ToldOrError (Ok a) Meant t = Meant a t
ToldOrError (Err f) Meant t = t ≡ error_texts f

-- A file read whole: what the room holds afterwards is fixed by what the file has.
use Rattle.std.specs.Prelude.{ℕ, ◌≡◌, List, leb, length, if◌then◌else◌, Result, Ok, Err}
use Rattle.std.proofs.lemmas.List.Edits.{sets}
use Rattle.feed.specs.declared.file.LoadFault.{LoadFault}
use Rattle.feed.specs.declared.file.LoadFault.TheVariants.{NoFile, TooMany}

-- bytes at the front of the room, if they are at most 70,000 and fit
unfoldable pub filled : List ℕ → List ℕ → Result ℕ LoadFault × List ℕ
filled bs room =
    if leb (length bs) 70000 then
    (if leb (length bs) (length room) then (Ok (length bs), sets room 0 bs) else (Err TooMany, room))
    else (Err TooMany, room)

-- what a name stands for: no file that can be read, or bytes
pub data File : Type 0 where
  unreadable : File
  reads : List ℕ → File

-- "over 70,000 bytes or no such file: an error", and the room stays
abbrev pub loaded : File → List ℕ → Result ℕ LoadFault × List ℕ
loaded unreadable room = (Err NoFile, room)
loaded (reads bs) room = filled bs room

-- the answer and the room are those of some file: which, no contract can say
pub record Loads (room : List ℕ) (x : Result ℕ LoadFault × List ℕ) : Type 0 where
  pub file : File
  pub answers : x ≡ loaded file room

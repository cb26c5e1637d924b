-- Laws of a file's bytes at the front of the room.
use Prim.Native.Nat.{ℕ, ◌≤◌, ◌<◌}
use native.Mathlib.Omega.{arith}
use mathlib.Core.Path.{◌≡◌, refl, sym, ap, ◌∙◌}
use mathlib.Core.List.{List}
use lib.ListN.{length}
use lib.Seq.{sets}
use borrow.Author.Tests.{le-leb, lt-leb}
use Rattle.numbers.specs.Writing.{written_at}
use Rattle.numbers.proofs.Writing.{fit}
use Rattle.std.specs.Prelude.{Result, Ok, Err}
use Rattle.feed.specs.File.{filled, unreadable, reads, Loads}
use Rattle.feed.specs.declared.file.LoadFault.{LoadFault}
use Rattle.feed.specs.declared.file.LoadFault.TheVariants.{NoFile, TooMany}

module _ (bs room : List ℕ) where
  pub over_70000 : 70000 < length bs → (Err TooMany, room) ≡ filled bs room
  unfolding filled
  over_70000 h = rw (lt-leb (length bs) 70000 h)

  module _ (h : length bs ≤ 70000) where
    pub no_room : length room < length bs → (Err TooMany, room) ≡ filled bs room
    unfolding filled
    no_room k = rw (le-leb (length bs) 70000 h, lt-leb (length bs) (length room) k)

    pub fills : length bs ≤ length room → (x : ℕ) (after : List ℕ) → (x, after) ≡ written_at bs 0 room → (Ok (length bs), after) ≡ filled bs room
    unfolding filled
    fills k x after e =
        let s : after ≡ sets room 0 bs = ap (λ (p : ℕ × List ℕ). p.1) (e ∙ sym (fit bs 0 room (omega arith))) in
        rw (le-leb (length bs) 70000 h, le-leb (length bs) (length room) k, s) refl

  pub a_file : (x : Result ℕ LoadFault × List ℕ) → x ≡ filled bs room → Loads room x
  a_file x e = record { file = reads bs; answers = e }

pub no_file : (room : List ℕ) → Loads room (Err NoFile, room)
no_file room = record { file = unreadable; answers = refl }

pub ruleset fillings = (over_70000, no_room, fills, a_file, no_file)

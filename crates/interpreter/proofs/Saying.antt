-- Laws of an answer that is said: texts behind texts.
use Prim.Native.Nat.{ℕ}
use mathlib.Core.Path.{◌≡◌}
use mathlib.Core.List.{List, ◌++◌}
use Rattle.commands.specs.Texts.{puts}
use Rattle.commands.proofs.Putting.{puts_behind}
use Rattle.interpreter.specs.Said.{Texts, said}

module _ (room : List ℕ) (x : ℕ × List ℕ) where
  pub says : (t : Texts) → x ≡ puts t (0, room) → x ≡ said t room
  unfolding said
  says t e = e

  module _ (t u : Texts) (a : ℕ) (after : List ℕ) (e : (a, after) ≡ puts t (0, room)) where
    pub says_two : x ≡ puts u (a, after) → x ≡ said (t ++ u) room
    unfolding said
    says_two f = puts_behind t u (0, room) (a, after) x e f

    pub says_three : (w : Texts) (b : ℕ) (later : List ℕ) → (b, later) ≡ puts u (a, after) → x ≡ puts w (b, later) → x ≡ said (t ++ u ++ w) room
    unfolding said
    says_three w b later f g = puts_behind (t ++ u) w (0, room) (b, later) x (puts_behind t u (0, room) (a, after) (b, later) e f) g

-- The laws of a closure by any steps: the turn of one node, and one turn after another.
use mathlib.Core.Path.{◌≡◌, sym, ap, subst, ◌∙◌}
use mathlib.Core.Logic.{◌⊎◌, inl, inr}
use mathlib.Core.List.{List}
use Prim.Native.Nat.{ℕ, ◌+◌, ◌*◌, ◌-◌, ◌<◌, ◌≤◌}
use native.Mathlib.Omega.{arith}
use native.Mathlib.Decide.{ℕ_discrete}
use lib.ListN.{get_or}
use mir.Syntax.{w64}
use mir.Val.{Fits}
use Rattle.gdl.proofs.Closing.{count_length}
use Rattle.edges.specs.Queue.{Queue}
use Rattle.edges.specs.Marks.{Waits, Joined, Brought, Done, Work, Grew, Turn, Visited}
use Rattle.edges.specs.declared.worklist.Worklist.{Worklist}

pub queue_few : {m q : List ℕ} {n : ℕ} → Queue m q n → n ≤ 1024
queue_few {m} w = omega (arith, w.room, w.long, count_length m)

-- ---- the turn of one node

module _ (Brings : ℕ → ℕ → Type 0) (w : Worklist) (at : ℕ) (t : Turn Brings w at) where
  pub turn_place : at < 1024
  turn_place = omega (arith, t.waits, queue_few w.queued)

  pub turn_scaled : Fits w64 (at * 2)
  turn_scaled = omega (arith, turn_place)

  module _ (p : ℕ) (ep : p ≡ get_or w.queue at 0) where
    pub turn_node : p < 1024
    turn_node = omega (arith, w.queued.nodes at t.waits)

    pub turn_done : (w' : Worklist) → Brought (Brings p) w w' → Visited Brings w at w'
    turn_done w' b = record {
      grew = record {
        keeps = a.keeps;
        least = λ Y s f x e. elim (a.new x e) [
          | inl g ↦ f x g
          | inr (y, v) ↦ s.at p x y (f p (subst (λ (y : ℕ). get_or w.marks y 0 ≡ 1) (sym ep) (w.queued.marked at t.waits)))
        ];
      };
      work = record {
        each = λ x e. elim (a.new x e) [
          | inl g ↦ elim (t.work.each x g) [
            | inl d ↦ inl (record { at = λ h y. a.keeps h (d.at h y) })
            | inr v ↦ still x v
          ]
          | inr (y, v) ↦ inr (record { j = v.j; from = omega (arith, v.from, t.waits); to = v.to; is = v.is })
        ];
        order = omega (arith, t.waits, a.more);
      };
    }
      where
        a : Joined (Brings p) w w'
        a = b.joined

        still : (x : ℕ) → Waits w at x → Done Brings w'.marks x ⊎ Waits w' (at + 1) x
        still x v = elim (ℕ_discrete v.j at) [
          | yes s ↦ inl (subst (Done Brings w'.marks) (ep ∙ ap (λ (y : ℕ). get_or w.queue y 0) (sym s) ∙ v.is) (record { at = b.all }))
          | no ne ↦ inr (record { j = v.j; from = omega (arith, v.from); to = omega (arith, v.to, a.more); is = a.before v.j v.to ∙ v.is })
        ]

-- ---- one turn after another

-- all marks so far
pub record Closing (Brings : ℕ → ℕ → Type 0) (seeds : List ℕ) (w : Worklist) (at : ℕ) : Type 0 where
  pub grew : Grew Brings seeds w.marks
  pub work : Work Brings w at

module _ (Brings : ℕ → ℕ → Type 0) (seeds : List ℕ) where
  module _ (w : Worklist) (at : ℕ) (i : Closing Brings seeds w at) where
    pub closing_less : at < w.many → 1024 - (at + 1) < 1024 - at
    closing_less lt = omega (arith, queue_few w.queued)

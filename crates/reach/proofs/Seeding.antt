-- Laws of the flags that a reach starts from: one for each return, and one atom more.
use mathlib.Core.Path.{◌≡◌, refl}
use mathlib.Core.Logic.{inl, inr}
use mathlib.Core.Bool.{Bool, true, false}
use Prim.Native.Nat.{ℕ, ◌+◌, ◌<◌, ◌≤◌}
use native.Mathlib.Nat.{not-suc-le-zero}
use native.Mathlib.Omega.{arith}
use borrow.Author.Count.{below_more}
use lib.ListN.{length, get_or}
use Rattle.gdl.specs.Reach.{is_seed}
use Rattle.gdl.specs.declared.arrays.AtomArrays.{AtomArrays}
use Rattle.edges.specs.Marks.{Marked}
use Rattle.edges.specs.declared.worklist.Worklist.{Worklist}
use Rattle.edges.proofs.Setting.{after_set}
use Rattle.edges.proofs.Marking.{one, unset, waiting_none, waiting_more}
use Rattle.reach.specs.Seeds.{seed_flag, Columns, Unsown, Sown}

-- ---- all atoms

module _ (a : AtomArrays) (seat : ℕ) where
  pub sow_starts : (w : Worklist) → Unsown a w → Sown a seat 0 w
  sow_starts w u = record { below = λ i lt. absurd (not-suc-le-zero lt); after = λ i le. rw u.unmarked (unset i); waiting = waiting_none w u.unmarked }

  module _ (w : Worklist) (p : ℕ) (s : Sown a seat p w) (columns : Columns a) (lt : p < length a.kinds.now) where
    pub sow_node : p < 1024
    sow_node = omega (arith, columns.few)

    abbrev seed : Bool
    seed = is_seed seat (record { kind = get_or a.kinds.now p 0; first = get_or a.firsts.now p 0; second = 0 })

    pub sow_mark : seed ≡ true → (w' : Worklist) → Marked p w w' → Sown a seat (p + 1) w'
    sow_mark e w' (inl (marked, k)) = absurd (omega (arith, s.after p (omega arith)))
    sow_mark e w' (inr (ne, j)) = record {
      below = rw j.marks (after_set w.marks p 1 inside (λ i y. i < p + 1 → y ≡ seed_flag seat (get_or a.kinds.now i 0) (get_or a.firsts.now i 0)) (λ l. rw e refl) (λ i ni l. s.below i (omega arith)));
      after = rw j.marks (after_set w.marks p 1 inside (λ i y. p + 1 ≤ i → y ≡ 0) (λ le. absurd (omega arith)) (λ i ni le. s.after i (omega arith)));
      waiting = waiting_more s.waiting (one {P = λ i. i ≡ p} sow_node refl (inr (ne, j))).joined;
    }
      where
        inside : p < length w.marks
        inside = omega (arith, sow_node, w.queued.long)

    pub sow_pass : seed ≡ false → Sown a seat (p + 1) w
    sow_pass e = record {
      below = below_more (λ (i : ℕ). get_or w.marks i 0 ≡ seed_flag seat (get_or a.kinds.now i 0) (get_or a.firsts.now i 0)) p s.below (rw e (s.after p (omega arith)));
      after = λ i le. s.after i (omega arith);
      waiting = s.waiting;
    }

-- The atom records of a table "ascend strictly by kind, then first field, then second".
use Prim.Native.Nat.{ℕ, zero, suc, ◌+◌, ◌≤◌, ◌<◌}
use native.Mathlib.Nat.{not-suc-le-zero}
use native.Mathlib.Omega.{arith}
use mathlib.Core.Path.{◌≡◌, refl, subst}
use mathlib.Core.Bool.{Bool, true, false}
use mathlib.Core.List.{List, [], ◌∷◌}
use lib.Dec.{ltb}
use lib.ListN.{length, get_or}
use borrow.Author.Tests.{ltb-false}
use Rattle.refusals.specs.declared.Refusal.TheVariants.{NotAbove, TableTooLong}
use Rattle.gdl.specs.Game.{Atom, Game, atom_at}
use Rattle.table.specs.Parse.{ok, after, refuse◌if◌}
use Rattle.table.specs.Table.{atom, key, atoms_from, clauses, header, game, table}
use Rattle.table.specs.declared.header.Header.{Header}
use Rattle.table.proofs.Values.{All, all_after, any}

-- each atom is at least at a place in the order, the first at `least`
abbrev Ascends : ℕ → List Atom → Type 0
Ascends least [] = Unit {0}
Ascends least (a ∷ l) = (least ≤ key a) × Ascends (key a + 1) l

-- ---- what is read

atoms_read : (h : Header) (n least : ℕ) (s : List ℕ) (at : ℕ) → All (λ l m. Ascends least l) (atoms_from h n least s at)
unfolding atoms_from
atoms_read h zero least s at = tt
atoms_read h (suc n) least s at = all_after _ _ (atom h s at) _ (any (atom h s at)) λ a m _. go a m (atoms_read h n (key a + 1) s m) (ltb (key a) least) refl
  where
    go : (a : Atom) (m : ℕ) → All (λ l e. Ascends (key a + 1) l) (atoms_from h n (key a + 1) s m) → (b : Bool) → ltb (key a) least ≡ b
        → All (λ l e. Ascends least l) (after ((refuse (NotAbove at) if b) s m) (λ _ m'. after (atoms_from h n (key a + 1) s m') (λ rest e. ok (a ∷ rest) e)))
    go a m later true e = tt
    go a m later false e = all_after _ _ (atoms_from h n (key a + 1) s m) _ later λ rest m' r. (ltb-false (key a) least e, r)

table_read : (s : List ℕ) → All (λ G n. Ascends 0 G.atoms) (table s 0)
unfolding table game
table_read s = go (ltb 65535 (length s))
  where
    go : (b : Bool) → All (λ G n. Ascends 0 G.atoms) (after ((refuse TableTooLong if b) s 0) (λ _ m. after (header s m) (λ h e. game h s e)))
    go true = tt
    go false = all_after _ _ (header s 0) _ (any (header s 0)) λ h n _.
        all_after _ _ (atoms_from h h.sizes.atoms 0 s n) _ (atoms_read h h.sizes.atoms 0 s n) λ atoms m r.
        all_after _ _ (clauses h.sizes.atoms s m) _ (any (clauses h.sizes.atoms s m)) λ cs e _. r

-- ---- place by place

module _ (d : Atom) where
  key_low : (l : List Atom) (least q : ℕ) → Ascends least l → q < length l → least ≤ key (get_or l q d)
  key_low [] least q r lt = absurd (not-suc-le-zero lt)
  key_low (a ∷ l) least zero r lt = r.0
  key_low (a ∷ l) least (suc q) r lt = omega (arith, r.0, key_low l (key a + 1) q r.1 (omega arith))

  key_rises : (l : List Atom) (least p q : ℕ) → Ascends least l → p < q → q < length l → key (get_or l p d) < key (get_or l q d)
  key_rises [] least p q r lt h = absurd (not-suc-le-zero h)
  key_rises (a ∷ l) least p zero r lt h = absurd (not-suc-le-zero lt)
  key_rises (a ∷ l) least zero (suc q) r lt h = omega (arith, key_low l (key a + 1) q r.1 (omega arith))
  key_rises (a ∷ l) least (suc p) (suc q) r lt h = key_rises l (key a + 1) p q r.1 (omega arith) (omega arith)

module _ (s : List ℕ) (G : Game) (n : ℕ) (e : table s 0 ≡ ok G n) where
  ascends : Ascends 0 G.atoms
  ascends = subst (All (λ G n. Ascends 0 G.atoms)) e (table_read s)

  pub atoms_ascend : (p q : ℕ) → p < q → q < length G.atoms → key (atom_at G p) < key (atom_at G q)
  atoms_ascend p q = key_rises _ G.atoms 0 p q ascends

-- Laws of the marks of an accepted table that was consulted.
use mathlib.Core.Path.{◌≡◌, sym, ap, ◌∙◌}
use mathlib.Core.List.{List, ◌++◌, map}
use Prim.Native.Nat.{ℕ, ◌-◌, ◌≤◌}
use native.Mathlib.Omega.{arith}
use lib.ListN.{length, take, length-map}
use lib.Seq.{sets}
use Rattle.gdl.specs.Game.{Atom, Game}
use Rattle.gdl.specs.Flags.{on, blank}
use Rattle.gdl.specs.Computed.{any_of}
use Rattle.gdl.specs.declared.arrays.AtomArrays.{AtomArrays}
use Rattle.gdl.proofs.Reading.{any_agree}
use Rattle.gdl.proofs.Walks.{flags_same}
use Rattle.truth.specs.Reading.{atoms_of}
use Rattle.truth.specs.Marks.{is_at, marks_of, Marking}
use Rattle.truth.proofs.Held.{atoms_back}
use Rattle.verdict.specs.Consulted.{Consulted, found, found_in, Fit}
use Rattle.verdict.specs.Laid.{AtomsUsed}
use Rattle.verdict.specs.declared.Learnt.{Learnt}
use Rattle.verdict.proofs.Laying.{part_used}
use Rattle.verdict.proofs.Consulting.{on_blank}

module _ (l : Learnt) (G : Game) (X : List ℕ) (e : found l ≡ found_in G X) (few : length G.atoms ≤ 1024) where
  pub atoms_count : l.header.sizes.atoms ≡ length G.atoms
  atoms_count = ap (λ (c : Consulted). c.header.sizes.atoms) e

  column : (f : Atom → ℕ) (room : List ℕ) → room ≡ sets (blank 1024) 0 (map f G.atoms) → take l.header.sizes.atoms room ≡ map f G.atoms
  column f room h = let n : length (map f G.atoms) ≡ length G.atoms = length-map G.atoms f in rw (atoms_count, h, ← n) (part_used 1024 (map f G.atoms) (omega arith))

  module _ {x : AtomArrays} (u : AtomsUsed l.header.sizes.atoms l.atoms x) where
    kinds_read : x.kinds.now ≡ map (λ a. a.kind) G.atoms
    kinds_read = u.kinds_are ∙ column (λ a. a.kind) l.atoms.kinds (ap (λ (c : Consulted). c.kinds) e)

    firsts_read : x.firsts.now ≡ map (λ a. a.first) G.atoms
    firsts_read = u.firsts_are ∙ column (λ a. a.first) l.atoms.firsts (ap (λ (c : Consulted). c.firsts) e)

    seconds_read : x.seconds.now ≡ map (λ a. a.second) G.atoms
    seconds_read = u.seconds_are ∙ column (λ a. a.second) l.atoms.seconds (ap (λ (c : Consulted). c.seconds) e)

    pub marks_are : (kind width : ℕ) (r : List ℕ) → r ≡ marks_of kind width (atoms_of x.kinds.now x.firsts.now x.seconds.now) (on l.flags) → r ≡ marks_of kind width G.atoms (on X)
    unfolding marks_of
    marks_are kind width r h =
        h ∙ (rw (kinds_read, firsts_read, seconds_read, atoms_back G.atoms, ap (λ (c : Consulted). c.flags) e)
        (flags_same (λ i. any_of (is_at kind width i) G.atoms (on (X ++ blank (1024 - length G.atoms)))) (λ i. any_of (is_at kind width i) G.atoms (on X)) 2048
        (λ i lt. any_agree (is_at kind width i) d G.atoms _ _ (λ p pl t. sym (on_blank X (1024 - length G.atoms) p)))))
      where
        d : Atom
        d = record { kind = 0; first = 0; second = 0 }

    pub marking : {width : ℕ} → width ≤ 256 → Marking x.kinds.now x.firsts.now x.seconds.now width
    marking w =
        let k : length x.kinds.now ≡ length G.atoms = ap length kinds_read ∙ length-map G.atoms (λ a. a.kind) in
        let f : length x.firsts.now ≡ length G.atoms = ap length firsts_read ∙ length-map G.atoms (λ a. a.first) in
        let s : length x.seconds.now ≡ length G.atoms = ap length seconds_read ∙ length-map G.atoms (λ a. a.second) in
        record { columns = record { few = omega arith; firsts_long = omega arith; seconds_long = omega arith }; narrow = w }

pub few_atoms : {l : Learnt} → Fit (found l) → l.header.sizes.atoms ≤ 1024
few_atoms {l} f = let n : l.header.sizes.atoms ≡ length f.game.atoms = ap (λ (c : Consulted). c.header.sizes.atoms) f.is in omega (arith, f.few)

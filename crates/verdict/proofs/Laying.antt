-- Laws of the arrays of a decoded table: the parts in use hold the game.
use mathlib.Core.Path.{◌≡◌, refl, sym, ap, subst, ◌∙◌}
use mathlib.Core.List.Memᴰ
use mathlib.Core.List.{List, [], ◌∷◌, ◌++◌, map, Memᴰ}
use Prim.Native.Nat.{ℕ, suc, ◌+◌, ◌≤◌, ◌<◌}
use native.Mathlib.Omega.{arith}
use native.Mathlib.Nat.{add-zero}
use lib.ListN.{length, get_or, take, drop, length-map, length-append, length-replicate}
use lib.Seq.{sets, sets-eq, take-append_seam, get_or-take}
use Rattle.gdl.specs.Game.{Atom, Clause, Game}
use Rattle.gdl.specs.Flags.{blank}
use Rattle.gdl.specs.Layout.{code_of, kinds_of, firsts_of, seconds_of, heads_of, starts_from, literals_of, owners_of, Small}
use Rattle.gdl.proofs.Layouts.{owners_long, starts_long_lem}
use Rattle.gdl.specs.Layout as T
use Rattle.rules.specs.Limits.{Limits, first_end}
use Rattle.judge.specs.Judgement as J
use Rattle.gdl.specs.declared.arrays.AtomArrays.{AtomArrays}
use Rattle.gdl.specs.declared.arrays.ClauseArrays.{ClauseArrays}
use Rattle.table.specs.declared.header.Header.{Header}
use Rattle.table.specs.declared.tables.Arrays.{Arrays}
use Rattle.table.specs.declared.tables.Read.{Read}
use Rattle.truth.specs.Promise.{Ready}
use Rattle.reach.specs.Promise as R
use Rattle.verdict.specs.Laid.{Laid, AtomsUsed, ClausesUsed}

-- the part in use of a room
pub part_used : (n : ℕ) (xs : List ℕ) → length xs ≤ n → take (length xs) (sets (blank n) 0 xs) ≡ xs
part_used n xs h = rw (sets-eq xs (blank n) 0 (omega (arith, length-replicate {A = ℕ} n 0))) (take-append_seam xs (drop (0 + length xs) (blank n)))

-- the last place of the starts is the number of literals
last_start : (i : ℕ) (C : List Clause) → get_or (starts_from i C) (length C) 0 ≡ i + length (literals_of C)
last_start i [] = sym (add-zero i)
last_start i (c ∷ C) = last_start (i + length c.body) C ∙ (let e : length (map code_of c.body ++ literals_of C) ≡ length c.body + length (literals_of C) = rw (length-append, length-map) refl in omega arith)

-- a law of the atoms by their numbers is one of each atom
each_atom : (P : Atom → Type 0) (d : Atom) (l : List Atom) → ((p : ℕ) → p < length l → P (get_or l p d)) → (a : Atom) → Memᴰ a l → P a
each_atom P d [] f a m = absurd (Memᴰ.not-nil m)
each_atom P d (b ∷ l) f a (Memᴰ.head e) = subst P (sym e) (f 0 (omega arith))
each_atom P d (b ∷ l) f a (Memᴰ.tail m) = each_atom P d l (λ p lt. f (suc p) (omega arith)) a m

pub small_game : {G : Game} → Limits G → Small G
small_game {G} l = record {
  few_atoms = l.atoms;
  few_clauses = l.clauses;
  few_literals = l.literals;
  heads_in = l.heads;
  bodies_in = l.bodies;
  fluents_in = λ a m e. let lt : a.first < first_end G a.kind = first a m in let f : a.first < G.fluents = rw e at lt in omega (arith, l.fluents);
  seats_in = λ a m e. let lt : a.first < first_end G a.kind = first a m in let f : a.first < G.seats = rw e at lt in omega (arith, l.seats);
}
  where
    first : (a : Atom) → Memᴰ a G.atoms → a.first < first_end G a.kind
    first = each_atom (λ a. a.first < first_end G a.kind) _ G.atoms l.firsts

module _ {r : Read} {a : Arrays} {G : Game} (h : Laid r a G) where
  atoms_are : r.header.sizes.atoms ≡ length G.atoms
  atoms_are = ap (λ (x : Header). x.sizes.atoms) h.header_is

  column : (f : Atom → ℕ) (room : List ℕ) → room ≡ sets (blank 1024) 0 (map f G.atoms) → take r.header.sizes.atoms room ≡ map f G.atoms
  column f room e = let n : length (map f G.atoms) ≡ length G.atoms = length-map G.atoms f in rw (e, atoms_are, ← n) (part_used 1024 (map f G.atoms) (omega (arith, n, h.limits.atoms)))

  heads_part : take r.clauses a.clauses.heads ≡ heads_of G.clauses
  heads_part = let n : length (heads_of G.clauses) ≡ length G.clauses = length-map G.clauses (λ c. c.head) in rw (h.heads_are, h.clauses_are, ← n) (part_used 2048 (heads_of G.clauses) (omega (arith, n, h.limits.clauses)))

  starts_part : take (r.clauses + 1) a.clauses.starts ≡ starts_from 0 G.clauses
  starts_part =
      let n : length (starts_from 0 G.clauses) ≡ length G.clauses + 1 = starts_long_lem 0 G.clauses ∙ omega arith in
      rw (h.starts_are, h.clauses_are, ← n) (part_used 2049 (starts_from 0 G.clauses) (omega (arith, n, h.limits.clauses)))

  -- the literals end where the clause after the last would start
  used : get_or a.clauses.starts r.clauses 0 ≡ length (literals_of G.clauses)
  used = sym (get_or-take (r.clauses + 1) a.clauses.starts r.clauses 0 (omega arith)) ∙ (ap (λ (l : List ℕ). get_or l r.clauses 0) starts_part ∙ rw h.clauses_are (last_start 0 G.clauses ∙ omega arith))

  literals_part : take (get_or a.clauses.starts r.clauses 0) a.clauses.literals ≡ literals_of G.clauses
  literals_part = rw (used, h.literals_are) (part_used 8192 (literals_of G.clauses) h.limits.literals)

  -- the parts lie in the arrays
  pub record Ends : Type 0 where
    pub atoms_end : r.header.sizes.atoms ≤ 1024
    pub clauses_end : (r.clauses ≤ 2048) × (get_or a.clauses.starts r.clauses 0 ≤ 8192)

  pub ends : Ends
  ends = record {
    atoms_end = omega (arith, atoms_are, h.limits.atoms);
    clauses_end = (omega (arith, h.clauses_are, h.limits.clauses), omega (arith, used, h.limits.literals));
  }

  module _ {x : AtomArrays} {y : ClauseArrays} (ux : AtomsUsed r.header.sizes.atoms a.atoms x) (uy : ClausesUsed r.clauses a.clauses y) where
    literals_held : y.literals.now ≡ literals_of G.clauses
    literals_held = uy.literals_are ∙ literals_part

    pub held_judge : (owners : List ℕ) (seats : ℕ) → owners ≡ take (length y.literals.now) a.clauses.owners → seats ≡ r.header.players.seats → J.Held x y owners seats G
    held_judge owners seats e es = record {
      limits = h.limits;
      kinds_are = ux.kinds_are ∙ column (λ b. b.kind) a.atoms.kinds h.kinds_are;
      firsts_are = ux.firsts_are ∙ column (λ b. b.first) a.atoms.firsts h.firsts_are;
      heads_are = uy.heads_are ∙ heads_part;
      starts_are = uy.starts_are ∙ starts_part;
      literals_are = literals_held;
      owners_are = e ∙ rw (literals_held, h.owners_are, ← (owners_long G.clauses)) (part_used 8192 (owners_of G.clauses) (omega (arith, owners_long G.clauses, h.limits.literals)));
      seats_are = es ∙ ap (λ (k : Header). k.players.seats) h.header_is;
    }

    pub held_model : T.Held G x.kinds.now x.firsts.now x.seconds.now y.heads.now y.starts.now y.literals.now
    held_model = record {
      is_kinds = ux.kinds_are ∙ column (λ b. b.kind) a.atoms.kinds h.kinds_are;
      is_firsts = ux.firsts_are ∙ column (λ b. b.first) a.atoms.firsts h.firsts_are;
      is_seconds = ux.seconds_are ∙ column (λ b. b.second) a.atoms.seconds h.seconds_are;
      is_heads = uy.heads_are ∙ heads_part;
      is_starts = uy.starts_are ∙ starts_part;
      is_literals = literals_held;
    }

    pub held_trace : R.Laid G x y
    held_trace = record {
      is_kinds = ux.kinds_are ∙ column (λ b. b.kind) a.atoms.kinds h.kinds_are;
      is_firsts = ux.firsts_are ∙ column (λ b. b.first) a.atoms.firsts h.firsts_are;
      is_heads = uy.heads_are ∙ heads_part;
      is_starts = uy.starts_are ∙ starts_part;
      is_literals = literals_held;
    }

    pub model_ready : {levels : List ℕ} {top : ℕ} → J.Levelled G levels top → Ready x.kinds.now x.firsts.now x.seconds.now y.heads.now y.starts.now y.literals.now levels top
    model_ready l = record {
      game = G;
      held = held_model;
      small = small_game h.limits;
      allowed = l.least.allowed;
      below = λ c k. l.top_is.above c.head (h.limits.heads c k);
    }

    pub trace_ready : R.Ready x y
    trace_ready = record { game = G; laid = held_trace; small = small_game h.limits }

-- Laws of a whole table: what follows from the answers of its parts.
use Prim.Native.Nat.{ℕ, zero, suc, ◌+◌, ◌-◌, ◌≤◌, ◌<◌}
use native.Mathlib.Omega.{arith}
use mathlib.Core.Path.{◌≡◌, refl, ap}
use mathlib.Core.List.{List}
use lib.ListN.{length}
use lib.Dec.{ltb}
use borrow.Author.Tests.{lt-ltb, le-ltb}
use Rattle.refusals.specs.declared.Refusal.{Refusal}
use Rattle.refusals.specs.declared.Refusal.TheVariants.{NotAbove, BytesAfter}
use Rattle.gdl.specs.Game.{Atom, Clause, Game}
use Rattle.std.specs.Prelude.{Result, Ok, Err}
use Rattle.table.specs.Parse.{Parse, ok, fault, after, bounded, refuse◌if◌}
use Rattle.table.specs.Table.{header, atom, key, atoms_from, clause, clauses_from, clauses, game, table}
use Rattle.table.specs.Says.{WroteAtoms, AtomsLaid, ClausesLaid, WroteClauses, WroteRest, WroteGame, WroteTable}
use Rattle.table.specs.declared.header.Header.{Header}
use Rattle.reader.specs.declared.Reader.{Reader}
use Rattle.table.specs.declared.tables.ClauseRoom.{ClauseRoom}
use Rattle.table.specs.declared.tables.Arrays.{Arrays}
use Rattle.table.proofs.Values.{All, all_after, any}

clauses_many : (n a room : ℕ) (s : List ℕ) (at : ℕ) → All (λ cs m. length cs ≡ n) (clauses_from n a room s at)
unfolding clauses_from
clauses_many zero a room s at = refl
clauses_many (suc n) a room s at =
    all_after (λ c m. Unit {0}) _ (clause a room s at) _ (any (clause a room s at)) λ c m _.
    all_after _ _ (clauses_from n a (room - length c.body) s m) _ (clauses_many n a (room - length c.body) s m) λ cs _ h. ap suc h

-- ---- the clauses, and nothing after

module _ (old new : ClauseRoom) where
  -- clauses that were read, and that were not
  record Got (p : Parse (List Clause)) (n : ℕ) : Type 0 where
    found : List Clause
    read : p ≡ ok found n
    laid : ClausesLaid found old new

  got : (p : Parse (List Clause)) (n : ℕ) → WroteClauses p old (Ok tt) n new → Got p n
  got (ok cs m) n w = let e : n ≡ m = w.1 in record { found = cs; read = rw e refl; laid = w.2 }
  got (fault f) n w = let z : ◌≡◌ {A = ℕ} 0 1 = cc w in absurd (omega arith)

  missed : (p : Parse (List Clause)) (at : ℕ) (f : Refusal) → WroteClauses p old (Err f) at new → p ≡ fault f
  missed (ok cs m) at f w = cc w.0
  missed (fault h) at f w = cc w

  -- from a place to the place after the count, and from there to the place after the clauses
  module _ (a many : ℕ) (start next end : Reader) (t : next.table ≡ start.table) (e : ok many next.at ≡ bounded 0 2049 start.table.now start.at) where
    pub empty_clauses : (f : Refusal) → WroteClauses (clauses_from many a 8192 next.table.now next.at) old (Err f) end.at new
        → WroteRest (clauses a start.table.now start.at) old (Err f) new
    unfolding clauses
    empty_clauses f w = rw (← e, ← t, missed (clauses_from many a 8192 next.table.now next.at) end.at f w) refl

    module _ (u : end.table ≡ next.table) (w : WroteClauses (clauses_from many a 8192 next.table.now next.at) old (Ok tt) end.at new) where
      cg : Got (clauses_from many a 8192 next.table.now next.at) end.at
      cg = got (clauses_from many a 8192 next.table.now next.at) end.at w

      pub longer : end.at < length end.table.now → WroteRest (clauses a start.table.now start.at) old (Err (BytesAfter end.at)) new
      unfolding clauses
      longer d = let f : end.at < length next.table.now = rw u at d in rw (← e, ← t, cg.read, lt-ltb end.at (length next.table.now)) refl

      pub all_clauses : length end.table.now ≤ end.at → WroteRest (clauses a start.table.now start.at) old (Ok many) new
      unfolding clauses
      all_clauses d =
          let m : length cg.found ≡ many = rw cg.read at (clauses_many many a 8192 next.table.now next.at) in
          let f : length next.table.now ≤ end.at = rw u at d in
          rw (← e, ← t, cg.read, le-ltb end.at (length next.table.now)) (rw m refl, cg.laid)

-- ---- the table

atoms_many : (h : Header) (n least : ℕ) (s : List ℕ) (at : ℕ) → All (λ xs m. length xs ≡ n) (atoms_from h n least s at)
unfolding atoms_from
atoms_many h zero least s at = refl
atoms_many h (suc n) least s at =
    all_after (λ a m. Unit {0}) _ (atom h s at) _ (any (atom h s at)) λ a m _.
    all_after (λ u k. Unit {0}) _ ((refuse (NotAbove at) if (ltb (key a) least)) s m) _ (any ((refuse (NotAbove at) if (ltb (key a) least)) s m)) λ _ k _.
    all_after _ _ (atoms_from h n (key a + 1) s k) _ (atoms_many h n (key a + 1) s k) λ xs _ e. ap suc e

same_header : (h : Header) (n : ℕ) → n ≡ h.sizes.atoms → h ≡ record {
  players = record { claim = h.players.claim; seats = h.players.seats; chance = h.players.chance };
  sizes = record { fluents = h.sizes.fluents; moves = h.sizes.moves; percepts = h.sizes.percepts; atoms = n };
}
same_header h n e = rw e refl

module _ (h : Header) (old new : Arrays) where
  abbrev Wrote : Parse Game → Result ℕ Refusal → Type 0
  Wrote p q = WroteGame p h q old new

  -- by what the reading of the atoms gave
  atoms_missed : (p : Parse (List Atom)) (k : List Atom → ℕ → Parse Game) (at : ℕ) (f : Refusal) → WroteAtoms p old.atoms (Err f) at new.atoms → Wrote (after p k) (Err f)
  atoms_missed (ok xs m) k at f w = let z : ◌≡◌ {A = ℕ} 0 1 = cc w.0 in absurd (omega arith)
  atoms_missed (fault g) k at f w = cc w

  -- the game of these atoms and clauses, under the header
  abbrev game_of : List Atom → List Clause → Game
  game_of xs cs = record {
    claim = h.players.claim;
    seats = h.players.seats;
    chance = h.players.chance;
    fluents = h.sizes.fluents;
    moves = h.sizes.moves;
    percepts = h.sizes.percepts;
    atoms = xs;
    clauses = cs;
  }

  module _ (q : Result ℕ Refusal) where
    with_clauses_lem : (xs : List Atom) → length xs ≡ h.sizes.atoms → AtomsLaid xs old.atoms new.atoms → (r : Parse (List Clause)) → WroteRest r old.clauses q new.clauses
        → Wrote (after r (λ cs m. ok (game_of xs cs) m)) q
    with_clauses_lem xs n a (ok cs m) v = (length cs, v.0, record { header_is = same_header h (length xs) n; count_is = refl; atoms = a; clauses = v.1 })
    with_clauses_lem xs n a (fault f) v = v

    with_atoms : (p : Parse (List Atom)) → All (λ xs m. length xs ≡ h.sizes.atoms) p → (next : ℕ) → WroteAtoms p old.atoms (Ok tt) next new.atoms
        → (r : ℕ → Parse (List Clause)) → WroteRest (r next) old.clauses q new.clauses → Wrote (after p (λ xs m. after (r m) (λ cs k. ok (game_of xs cs) k))) q
    with_atoms (ok xs m) n next w r v = let e : next ≡ m = w.1 in rw (← e) (with_clauses_lem xs n w.2 (r next) v)
    with_atoms (fault f) n next w r v = let z : ◌≡◌ {A = ℕ} 0 1 = cc w in absurd (omega arith)

  -- from a place to the place after the atoms
  module _ (start next : Reader) where
    pub empty_atoms : (f : Refusal) → WroteAtoms (atoms_from h h.sizes.atoms 0 start.table.now start.at) old.atoms (Err f) next.at new.atoms
        → Wrote (game h start.table.now start.at) (Err f)
    unfolding game
    empty_atoms f w = atoms_missed (atoms_from h h.sizes.atoms 0 start.table.now start.at) _ next.at f w

    pub all_game : (q : Result ℕ Refusal) → next.table ≡ start.table → WroteAtoms (atoms_from h h.sizes.atoms 0 start.table.now start.at) old.atoms (Ok tt) next.at new.atoms
        → WroteRest (clauses h.sizes.atoms next.table.now next.at) old.clauses q new.clauses → Wrote (game h start.table.now start.at) q
    unfolding game
    all_game q t w v = with_atoms q (atoms_from h h.sizes.atoms 0 start.table.now start.at) (atoms_many h h.sizes.atoms 0 start.table.now start.at) next.at w
        (clauses h.sizes.atoms start.table.now) (rw t at v)

-- ---- the whole table

module _ (s : List ℕ) (old new : Arrays) where
  -- by what the reading of the game gave
  game_missed : (h : Header) (f : Refusal) (p : Parse Game) → WroteGame p h (Err f) old new → WroteTable p (Err f) old new
  game_missed h f (ok G n) w = let z : ◌≡◌ {A = ℕ} 0 1 = cc w.1 in absurd (omega arith)
  game_missed h f (fault g) w = cc w

  game_got : (h : Header) (many : ℕ) (p : Parse Game) → WroteGame p h (Ok many) old new → WroteTable p (Ok (record { header = h; clauses = many })) old new
  game_got h many (ok G n) w =
      let m : many ≡ w.0 = cc w.1 in
      let e = w.2 in
      record { answer_is = cc (e.header_is, e.count_is); atoms = e.atoms; clauses = e.clauses }
  game_got h many (fault f) w = let z : ◌≡◌ {A = ℕ} 0 1 = cc w in absurd (omega arith)

  module _ (l : length s ≤ 65535) (h : Header) (at : ℕ) (e : ok h at ≡ header s 0) where
    pub no_game : (f : Refusal) → WroteGame (game h s at) h (Err f) old new → WroteTable (table s 0) (Err f) old new
    unfolding table
    no_game f w = rw (le-ltb 65535 (length s), ← e) (game_missed h f (game h s at) w)

    pub all_table : (many : ℕ) → WroteGame (game h s at) h (Ok many) old new → WroteTable (table s 0) (Ok (record { header = h; clauses = many })) old new
    unfolding table
    all_table many w = rw (le-ltb 65535 (length s), ← e) (game_got h many (game h s at) w)

pub ruleset table_laws = (no_game, all_table)

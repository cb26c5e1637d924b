-- Laws of the reading of literals and of clause records, one after another.
use Prim.Native.Nat.{ℕ, zero, suc, ◌+◌, ◌-◌, ◌*◌, ◌≤◌, ◌<◌}
use native.Mathlib.Nat.{sub-zero}
use native.Mathlib.Omega.{arith}
use mathlib.Core.Bool.{Bool, true, false}
use mathlib.Core.Path.{◌≡◌, refl, ap, ◌∙◌}
use mathlib.Core.List.{List, [], ◌∷◌, ◌++◌, append-nil, map}
use lib.ListN.{length, set, replicate, length-append, length-map}
use lib.Seq.{sets, length-sets}
use borrow.Rule.Slice.PartMut.{put_mid, mid_of}
use Rattle.numbers.proofs.Storing.{put_mid-replicate}
use lib.Dec.{ltb}
use borrow.Author.Tests.{le-ltb, ltb-false}
use Rattle.std.specs.Prelude.{Ok, Err}
use Rattle.refusals.specs.declared.Refusal.{Refusal}
use Rattle.refusals.specs.declared.Refusal.TheVariants.{OutOfRange}
use Rattle.gdl.specs.Game.{Literal, Clause}
use Rattle.gdl.specs.Layout.{code_of, literal_of, heads_of, starts_from, literals_of, owners_of}
use Rattle.gdl.proofs.Layouts.{code_literal, literals_snoc, owners_snoc, starts_snoc, owners_long, starts_long_lem}
use Rattle.table.specs.Parse.{Parse, ok, fault, after, bounded, refuse◌if◌}
use Rattle.table.specs.Table.{literals, clause, clauses_from}
use Rattle.table.specs.Says.{outline_of, WroteLiterals, WroteClause, WroteClauses}
use Rattle.table.specs.declared.clauses.Outline.{Outline}
use Rattle.reader.specs.declared.Reader.{Reader}
use Rattle.table.specs.declared.tables.ClauseRoom.{ClauseRoom}
use Rattle.table.proofs.Values.{All, all_after, bounded_fine}
use Rattle.table.proofs.Runs.{onto, onto_none, onto_cons, sets_append, stored_next}

-- ---- literals

-- what holds while literals are read: those that are done stand in the room, and the reading goes on from them
pub record Filling (n end : ℕ) (start : Reader) (old : List ℕ) (used : ℕ) (room : List ℕ) (k : ℕ) (reader : Reader) : Type 0 where
  pub same : reader.table ≡ start.table
  pub within : k ≤ n
  pub done : List Literal
  pub many : length done ≡ k
  pub held : room ≡ sets old used (map code_of done)
  pub whole : literals n end start.table.now start.at ≡ onto done (literals (n - k) end reader.table.now reader.at)

module _ {n end : ℕ} {start : Reader} {old : List ℕ} {used : ℕ} where
  pub filling_starts : Filling n end start old used old 0 start
  filling_starts = record { same = refl; within = omega arith; done = []; many = refl; held = refl; whole = rw sub-zero (onto_none _) }

  module _ {room : List ℕ} {k : ℕ} {reader : Reader} (i : Filling n end start old used room k reader) where
    module _ (l : k < n) where
      left : n - k ≡ suc (n - (k + 1))
      left = omega arith

      pub filling_fault : {f : Refusal} (at : ℕ) → fault f ≡ bounded 0 end reader.table.now reader.at → WroteLiterals (literals n end start.table.now start.at) old used (Err f) at room
      unfolding literals onto
      filling_fault at e = rw (i.whole, left, ← e) refl

      pub filling_more : {v : ℕ} {next : Reader} → ok v next.at ≡ bounded 0 end reader.table.now reader.at → next.table ≡ reader.table
          → Filling n end start old used (set room (used + k) v) (k + 1) next
      unfolding literals
      filling_more {v} e t =
          let c : code_of (literal_of v) ≡ v = code_literal v in
          record {
            same = t ∙ i.same;
            within = omega arith;
            done = i.done ++ literal_of v ∷ [];
            many = rw length-append (omega (arith, i.many));
            held = rw c at (stored_next code_of old room used (used + k) i.done (literal_of v) i.held (omega (arith, i.many)));
            whole = rw (i.whole, left, ← e, t) (onto_cons _ _ _);
          }

    pub filling_done : n ≤ k → WroteLiterals (literals n end start.table.now start.at) old used (Ok tt) reader.at room
    unfolding literals onto
    filling_done m =
        let z : n - k ≡ 0 = omega arith in
        rw (i.whole, z, append-nil) (refl, refl, i.held)

pub ruleset fillings = (filling_starts, filling_fault, filling_more, filling_done)

-- as many literals are read as were asked for
literals_many : (n end : ℕ) (s : List ℕ) (at : ℕ) → All (λ xs m. length xs ≡ n) (literals n end s at)
unfolding literals
literals_many zero end s at = refl
literals_many (suc n) end s at =
    all_after _ _ (bounded 0 end s at) _ (bounded_fine 0 end s at) λ x m _.
    all_after _ _ (literals n end s m) _ (literals_many n end s m) λ xs _ h. ap suc h

-- ---- a clause

-- a clause whose head, count and literals are read
module _ (h : ℕ) (old : List ℕ) (used : ℕ) (new : List ℕ) (count m : ℕ) where
  read_body : (p : Parse (List Literal)) → WroteLiterals p old used (Ok tt) m new → All (λ xs n. length xs ≡ count) p
      → WroteClause (after p (λ body n. ok (record { head = h; body = body }) n)) old used (Ok (record { head = record { 0 = h }; count = count })) m new
  read_body (ok xs n) w l = (cc, w.1, w.2)
  read_body (fault g) w l = cc

pub all_clause : (s : List ℕ) (at a used : ℕ) (old new : List ℕ) (m : ℕ) {h n1 count n2 : ℕ} → ok h n1 ≡ bounded 0 a s at → ok count n2 ≡ bounded 0 65 s n1
    → count ≤ 8192 - used → WroteLiterals (literals count (2 * a) s n2) old used (Ok tt) m new
    → WroteClause (clause a (8192 - used) s at) old used (Ok (record { head = record { 0 = h }; count = count })) m new
unfolding clause
all_clause s at a used old new m {h} {n1} {count} {n2} e1 e2 fits w =
    rw (← e1, ← e2, le-ltb (8192 - used) count) (read_body h old used new count m _ w (literals_many count (2 * a) s n2))

refuse_passed : (t : Bool) (f : Refusal) (s : List ℕ) (at : ℕ) → All (λ _ n. t ≡ false) ((refuse f if t) s at)
refuse_passed true f s at = tt
refuse_passed false f s at = refl

-- a clause has no more literals than there is room
clause_fits : (a room : ℕ) (s : List ℕ) (at : ℕ) → All (λ c n. length c.body ≤ room) (clause a room s at)
unfolding clause
clause_fits a room s at =
    all_after _ _ (bounded 0 a s at) _ (bounded_fine 0 a s at) λ h n1 _.
    all_after _ _ (bounded 0 65 s n1) _ (bounded_fine 0 65 s n1) λ c n2 _.
    all_after _ _ ((refuse (OutOfRange n1) if (ltb room c)) s n2) _ (refuse_passed (ltb room c) (OutOfRange n1) s n2) λ _ n3 t.
    all_after _ _ (literals c (2 * a) s n3) _ (literals_many c (2 * a) s n3) λ body _ l. omega (arith, ltb-false room c t)

-- ---- clauses

-- a clause that was read
record Got (p : Parse Clause) (old : List ℕ) (used : ℕ) (x : Outline) (m : ℕ) (new : List ℕ) : Type 0 where
  clause : Clause
  read : p ≡ ok clause m
  head : x.head.0 ≡ clause.head
  count : x.count ≡ length clause.body
  held : new ≡ sets old used (map code_of clause.body)

got : (p : Parse Clause) (old : List ℕ) (used : ℕ) (new : List ℕ) (x : Outline) (m : ℕ) → WroteClause p old used (Ok x) m new → Got p old used x m new
got (ok c n) old used new x m w =
    let e : x ≡ outline_of c = cc w.0 in
    let k : m ≡ n = w.1 in
    record { clause = c; read = rw k refl; head = ap (λ (y : Outline). y.head.0) e; count = ap (λ (y : Outline). y.count) e; held = w.2 }
got (fault f) old used new x m w = let z : ◌≡◌ {A = ℕ} 0 1 = cc w in absurd (omega arith)

missed : (p : Parse Clause) (old : List ℕ) (used : ℕ) (at : ℕ) (new : List ℕ) (f : Refusal) → WroteClause p old used (Err f) at new → p ≡ fault f
missed (ok c n) old used at new f w = cc w.0
missed (fault h) old used at new f w = cc w

-- what holds while clauses are read: those that are done are laid out, and the reading goes on from them
pub record Laying (n a : ℕ) (start : Reader) (old room : ClauseRoom) (used k : ℕ) (reader : Reader) : Type 0 where
  pub same : reader.table ≡ start.table
  pub within : k ≤ n
  pub left : used ≤ 8192
  pub long : length room.owners ≡ 8192
  pub done : List Clause
  pub many : length done ≡ k
  pub flown : length (literals_of done) ≡ used
  pub heads : room.heads ≡ sets old.heads 0 (heads_of done)
  pub starts : set room.starts k used ≡ sets old.starts 0 (starts_from 0 done)
  pub literals : room.literals ≡ sets old.literals 0 (literals_of done)
  pub owners : room.owners ≡ sets old.owners 0 (owners_of done)
  pub whole : clauses_from n a 8192 start.table.now start.at ≡ onto done (clauses_from (n - k) a (8192 - used) reader.table.now reader.at)

-- the room after a clause more
abbrev pub with_clause : ClauseRoom → ℕ → ℕ → ℕ → List ℕ → List ℕ → ClauseRoom
with_clause room k head used literals owners = record { heads = set room.heads k head; starts = set room.starts k used; literals = literals; owners = owners }

module _ {n a : ℕ} {start : Reader} {old : ClauseRoom} where
  pub laying_starts : length old.owners ≡ 8192 → Laying n a start old old 0 0 start
  laying_starts h = record {
    same = refl;
    within = omega arith;
    left = omega arith;
    long = h;
    done = [];
    many = refl;
    flown = refl;
    heads = refl;
    starts = refl;
    literals = refl;
    owners = refl;
    whole = rw sub-zero (onto_none _);
  }

  module _ {room : ClauseRoom} {used k : ℕ} {reader : Reader} (i : Laying n a start old room used k reader) where
    module _ (l : k < n) where
      left_clauses : n - k ≡ suc (n - (k + 1))
      left_clauses = omega arith

      pub laying_fault : (at : ℕ) (new : List ℕ) (f : Refusal) (room' : ClauseRoom) → WroteClause (clause a (8192 - used) reader.table.now reader.at) room.literals used (Err f) at new
          → WroteClauses (clauses_from n a 8192 start.table.now start.at) old (Err f) at room'
      unfolding clauses_from onto
      laying_fault at new f room' w = rw (i.whole, left_clauses, missed (clause a (8192 - used) reader.table.now reader.at) room.literals used at new f w) refl

      next_laying : (c : Clause) (next : Reader) (h count : ℕ) (new owners : List ℕ) → next.table ≡ reader.table
          → clause a (8192 - used) reader.table.now reader.at ≡ ok c next.at → new ≡ sets room.literals used (map code_of c.body)
          → length c.body ≤ 8192 - used → h ≡ c.head → count ≡ length c.body → owners ≡ sets room.owners used (replicate count h)
          → Laying n a start old (with_clause room k h used new owners) (used + count) (k + 1) next
      unfolding clauses_from
      next_laying c next h count new owners t e held fits eh ec eo =
          let q : 8192 - used - length c.body ≡ 8192 - (used + count) = omega arith in
          let u : used ≡ 0 + length (literals_of i.done) = omega (arith, i.flown) in
          let v : used ≡ 0 + length (owners_of i.done) = omega (arith, i.flown, owners_long i.done) in
          let j : k + 1 ≡ 0 + length (starts_from 0 i.done) = omega (arith, i.many, starts_long_lem 0 i.done) in
          let r : used + count ≡ 0 + length (literals_of i.done) + length c.body = omega arith in
          record {
            same = t ∙ i.same;
            within = omega arith;
            left = omega (arith, i.left);
            long = rw (eo, length-sets) i.long;
            done = i.done ++ c ∷ [];
            many = rw length-append (omega (arith, i.many));
            flown = rw (literals_snoc c, length-append, length-map) (omega (arith, i.flown));
            heads = rw eh (stored_next (λ (d : Clause). d.head) old.heads room.heads 0 k i.done c i.heads (omega (arith, i.many)));
            starts = rw (starts_snoc c, i.starts, j, r) (sets_append old.starts 0 (starts_from 0 i.done) _);
            literals = rw (literals_snoc c, held, i.literals, u) (sets_append old.literals 0 (literals_of i.done) _);
            owners = rw (owners_snoc c, eo, i.owners, v, ec, eh) (sets_append old.owners 0 (owners_of i.done) _);
            whole = rw (i.whole, left_clauses, e, q, t) (onto_cons _ _ _);
          }

      module _ (x : Outline) (next : Reader) (new : List ℕ) (w : WroteClause (clause a (8192 - used) reader.table.now reader.at) room.literals used (Ok x) next.at new) where
        g : Got (clause a (8192 - used) reader.table.now reader.at) room.literals used x next.at new
        g = got (clause a (8192 - used) reader.table.now reader.at) room.literals used new x next.at w

        fits : length g.clause.body ≤ 8192 - used
        fits = rw g.read at (clause_fits a (8192 - used) reader.table.now reader.at)

        pub few : used + x.count ≤ 8192
        few = omega (arith, fits, g.count, i.left)

        -- its owners written as a part of the room that is all its head
        pub laying_more : (count many : ℕ) (part : List ℕ) → next.table ≡ reader.table → count ≡ x.count → many ≡ count
            → part ≡ replicate (length (mid_of used many room.owners)) x.head.0
            → Laying n a start old (with_clause room k x.head.0 used new (put_mid used many room.owners part)) (used + count) (k + 1) next
        laying_more count many part t e f filled =
            let long : used + x.count ≤ length room.owners = omega (arith, i.long, few) in
            let owned = put_mid-replicate used many x.count x.head.0 room.owners part filled (f ∙ e) long in
            rw e (next_laying g.clause next x.head.0 x.count new _ t g.read g.held fits g.head g.count owned)

    pub laying_done : n ≤ k → WroteClauses (clauses_from n a 8192 start.table.now start.at) old (Ok tt) reader.at
        (record { heads = room.heads; starts = set room.starts n used; literals = room.literals; owners = room.owners })
    unfolding clauses_from onto
    laying_done m =
        let z : n - k ≡ 0 = omega (arith, i.within) in
        let e : n ≡ k = omega (arith, i.within) in
        rw (i.whole, z, append-nil) (refl, refl, record { heads_are = i.heads; starts_are = rw e i.starts; literals_are = i.literals; owners_are = i.owners })

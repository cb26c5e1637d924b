-- What was read is within the limits of the format.
use mathlib.Core.Path.{◌≡◌, refl, ap, subst}
use mathlib.Core.Bool.{Bool, true, false, cond}
use mathlib.Core.List.Memᴰ
use mathlib.Core.List.{List, ◌∷◌, Memᴰ}
use Prim.Native.Nat.{ℕ, zero, suc, ◌+◌, ◌-◌, ◌*◌, ◌/◌, ◌%◌, ◌≤◌, ◌<◌}
use native.Mathlib.Nat.{not-suc-le-zero, div-lt_iff_lt-mul}
use native.Mathlib.Omega.{arith}
use lib.Dec.{ltb, eqb}
use lib.ListN.{length, get_or, length-append, length-map}
use borrow.Author.Tests.{ltb-false}
use Rattle.refusals.specs.declared.Refusal.{Refusal}
use Rattle.refusals.specs.declared.Refusal.TheVariants.{OutOfRange, NotAbove, BytesAfter, TableTooLong}
use Rattle.gdl.specs.Game.{Atom, Literal, pos, neg, atom_of, Clause, Game}
use Rattle.gdl.specs.Layout.{literal_of, literals_of}
use Rattle.gdl.proofs.Tests.{each_cons}
use Rattle.table.specs.Parse.{Parse, ok, fault, after, refuse◌if◌, bounded}
use Rattle.table.specs.Table.{Bound, Absent, Below, players, sizes, header, first_bound, second_bound, field, atom, key, atoms_from, literals, clause, clauses_from, clauses, table, game}
use Rattle.table.specs.declared.header.Header.{Header}
use Rattle.table.specs.declared.header.Players.{Players}
use Rattle.table.specs.declared.header.Sizes.{Sizes}
use Rattle.table.proofs.Values.{All, all_after, Fine, bounded_fine}
use Rattle.rules.specs.Limits.{end_of, Limits}
use Rattle.gdl.proofs.Layouts.{at_mem}

-- what follows a test that did not strike
all_unless : {A : Type 0} (P : A → ℕ → Type 0) (f : Refusal) (b : Bool) (s : List ℕ) (at : ℕ) (k : Unit {0} → ℕ → Parse A)
    → (b ≡ false → All P (k tt at)) → All P (after ((refuse f if b) s at) k)
all_unless P f true s at k h = tt
all_unless P f false s at k h = h refl

-- ---- the header

record PlayersFit (p : Players) : Type 0 where
  claim : p.claim ≤ 65535
  some_seat : 1 ≤ p.seats
  seats : p.seats ≤ 8
  chance : p.chance ≤ p.seats

players_fit : (s : List ℕ) (at : ℕ) → All (λ p n. PlayersFit p) (players s at)
unfolding players
players_fit s at =
    all_after _ _ (bounded 1 2 s at) _ (bounded_fine 1 2 s at) λ a n1 _.
    all_after _ _ (bounded 0 65536 s n1) _ (bounded_fine 0 65536 s n1) λ b n2 x.
    all_after _ _ (bounded 1 9 s n2) _ (bounded_fine 1 9 s n2) λ c n3 y.
    all_after _ _ (bounded 0 (c + 1) s n3) _ (bounded_fine 0 (c + 1) s n3) λ d n4 z.
    record { claim = omega arith; some_seat = y.low; seats = omega arith; chance = omega arith }

record SizesFit (z : Sizes) : Type 0 where
  fluents : z.fluents ≤ 512
  some_move : 1 ≤ z.moves
  moves : z.moves ≤ 256
  percepts : z.percepts ≤ 256
  some_atom : 1 ≤ z.atoms
  atoms : z.atoms ≤ 1024

sizes_fit : (s : List ℕ) (at : ℕ) → All (λ z n. SizesFit z) (sizes s at)
unfolding sizes
sizes_fit s at =
    all_after _ _ (bounded 0 513 s at) _ (bounded_fine 0 513 s at) λ a n1 x.
    all_after _ _ (bounded 1 257 s n1) _ (bounded_fine 1 257 s n1) λ b n2 y.
    all_after _ _ (bounded 0 257 s n2) _ (bounded_fine 0 257 s n2) λ c n3 z.
    all_after _ _ (bounded 1 1025 s n3) _ (bounded_fine 1 1025 s n3) λ d n4 w.
    record { fluents = omega arith; some_move = y.low; moves = omega arith; percepts = omega arith; some_atom = w.low; atoms = omega arith }

record HeaderFits (h : Header) : Type 0 where
  players : PlayersFit h.players
  sizes : SizesFit h.sizes

header_fits : (s : List ℕ) (at : ℕ) → All (λ h n. HeaderFits h) (header s at)
unfolding header
header_fits s at =
    all_after _ _ (players s at) _ (players_fit s at) λ p n x.
    all_after _ _ (sizes s n) _ (sizes_fit s n) λ z m y. record { players = x; sizes = y }

-- ---- atom records

record AtomFits (h : Header) (a : Atom) : Type 0 where
  kind : a.kind ≤ 9
  first : a.first < end_of (first_bound h a.kind)
  second : a.second < end_of (second_bound h a.kind)

field_fits : (b : Bound) (s : List ℕ) (at : ℕ) → All (λ x n. x < end_of b) (field b s at)
unfolding field
field_fits Absent s at = omega arith
field_fits (Below n) s at = below (bounded 0 n s at) (bounded_fine 0 n s at)
  where
    below : (p : Parse ℕ) → All (Fine s at 0 n) p → All (λ x m. x < n) p
    below (ok x m) h = h.high
    below (fault f) h = tt

atom_fits : (h : Header) (s : List ℕ) (at : ℕ) → All (λ a n. AtomFits h a) (atom h s at)
unfolding atom
atom_fits h s at =
    all_after _ _ (bounded 0 10 s at) _ (bounded_fine 0 10 s at) λ k n1 w.
    all_after _ _ (field (first_bound h k) s n1) _ (field_fits (first_bound h k) s n1) λ x n2 p.
    all_after _ _ (field (second_bound h k) s n2) _ (field_fits (second_bound h k) s n2) λ y n3 q.
    record { kind = omega arith; first = p; second = q }

abbrev key_at : List Atom → ℕ → ℕ
key_at xs p = key (get_or xs p (record { kind = 0; first = 0; second = 0 }))

record AtomsFit (h : Header) (n least : ℕ) (xs : List Atom) : Type 0 where
  many : length xs ≡ n
  each : (a : Atom) → Memᴰ a xs → AtomFits h a
  low : (p : ℕ) → p < length xs → least ≤ key_at xs p
  ascending : (p q : ℕ) → p < q → q < length xs → key_at xs p < key_at xs q

atoms_more : (h : Header) (n least : ℕ) (a : Atom) (xs : List Atom) → AtomFits h a → least ≤ key a → AtomsFit h n (key a + 1) xs → AtomsFit h (suc n) least (a ∷ xs)
atoms_more h n least a xs f le r = record { many = ap suc r.many; each = each_cons (AtomFits h) a xs f r.each; low = from; ascending = rise }
  where
    from : (p : ℕ) → p < suc (length xs) → least ≤ key_at (a ∷ xs) p
    from zero lt = le
    from (suc p) lt = omega (arith, r.low p (omega arith))

    rise : (p q : ℕ) → p < q → q < suc (length xs) → key_at (a ∷ xs) p < key_at (a ∷ xs) q
    rise p zero lt lq = absurd (not-suc-le-zero lt)
    rise zero (suc q) lt lq = omega (arith, r.low q (omega arith))
    rise (suc p) (suc q) lt lq = r.ascending p q (omega arith) (omega arith)

atoms_fit : (h : Header) (n least : ℕ) (s : List ℕ) (at : ℕ) → All (λ xs m. AtomsFit h n least xs) (atoms_from h n least s at)
unfolding atoms_from
atoms_fit h zero least s at = record {
  many = refl;
  each = λ a m. absurd (Memᴰ.not-nil m);
  low = λ p lt. absurd (not-suc-le-zero lt);
  ascending = λ p q l lt. absurd (not-suc-le-zero lt);
}
atoms_fit h (suc n) least s at =
    all_after _ _ (atom h s at) _ (atom_fits h s at) λ a n1 x.
    all_unless _ (NotAbove at) (ltb (key a) least) s n1 _ λ t.
    all_after _ _ (atoms_from h n (key a + 1) s n1) _ (atoms_fit h n (key a + 1) s n1) λ rest n2 y.
    atoms_more h n least a rest x (ltb-false (key a) least t) y

-- ---- clause records

-- a literal below twice A is of an atom below A
half_below : (A x : ℕ) → x < 2 * A → x / 2 < A
half_below A x lt = let two : 0 < 2 = omega arith in let small : x < A * 2 = omega arith in (div-lt_iff_lt-mul two).1 small

literal_below : (A x : ℕ) → x < 2 * A → atom_of (literal_of x) < A
literal_below A x lt = go (eqb (x % 2) 0)
  where
    go : (b : Bool) → atom_of (cond b (pos (x / 2)) (neg (x / 2))) < A
    go true = half_below A x lt
    go false = half_below A x lt

record LiteralsFit (A n : ℕ) (xs : List Literal) : Type 0 where
  many : length xs ≡ n
  each : (l : Literal) → Memᴰ l xs → atom_of l < A

literals_fit : (n A : ℕ) (s : List ℕ) (at : ℕ) → All (λ xs m. LiteralsFit A n xs) (literals n (2 * A) s at)
unfolding literals
literals_fit zero A s at = record { many = refl; each = λ l m. absurd (Memᴰ.not-nil m) }
literals_fit (suc n) A s at =
    all_after _ _ (bounded 0 (2 * A) s at) _ (bounded_fine 0 (2 * A) s at) λ x n1 h.
    all_after _ _ (literals n (2 * A) s n1) _ (literals_fit n A s n1) λ xs n2 r.
    record { many = ap suc r.many; each = each_cons (λ l. atom_of l < A) (literal_of x) xs (literal_below A x h.high) r.each }

record ClauseFits (A : ℕ) (c : Clause) : Type 0 where
  head : c.head < A
  body : (l : Literal) → Memᴰ l c.body → atom_of l < A
  short : length c.body ≤ 64

clause_fits : (A room : ℕ) (s : List ℕ) (at : ℕ) → All (λ c m. ClauseFits A c × (length c.body ≤ room)) (clause A room s at)
unfolding clause
clause_fits A room s at =
    all_after _ _ (bounded 0 A s at) _ (bounded_fine 0 A s at) λ hd n1 h.
    all_after _ _ (bounded 0 65 s n1) _ (bounded_fine 0 65 s n1) λ count n2 k.
    all_unless _ (OutOfRange n1) (ltb room count) s n2 _ λ t.
    all_after _ _ (literals count (2 * A) s n2) _ (literals_fit count A s n2) λ body n3 b.
    (record { head = h.high; body = b.each; short = omega (arith, b.many) }, omega (arith, b.many, ltb-false room count t))

record ClausesFit (A n room : ℕ) (cs : List Clause) : Type 0 where
  many : length cs ≡ n
  each : (c : Clause) → Memᴰ c cs → ClauseFits A c
  all : length (literals_of cs) ≤ room

clauses_more : (A n room : ℕ) (c : Clause) (cs : List Clause) → ClauseFits A c → length c.body ≤ room → ClausesFit A n (room - length c.body) cs
    → ClausesFit A (suc n) room (c ∷ cs)
clauses_more A n room c cs f le r = record {
  many = ap suc r.many;
  each = each_cons (ClauseFits A) c cs f r.each;
  all = simp (length-append, length-map) (omega (arith, r.all));
}

clauses_fit : (n A room : ℕ) (s : List ℕ) (at : ℕ) → All (λ cs m. ClausesFit A n room cs) (clauses_from n A room s at)
unfolding clauses_from
clauses_fit zero A room s at = record { many = refl; each = λ c m. absurd (Memᴰ.not-nil m); all = omega arith }
clauses_fit (suc n) A room s at =
    all_after _ _ (clause A room s at) _ (clause_fits A room s at) λ c n1 h.
    all_after _ _ (clauses_from n A (room - length c.body) s n1) _ (clauses_fit n A (room - length c.body) s n1) λ cs n2 r.
    clauses_more A n room c cs h.0 h.1 r

all_clauses_fit : (A : ℕ) (s : List ℕ) (at : ℕ) → All (λ cs m. (length cs ≤ 2048) × ClausesFit A (length cs) 8192 cs) (clauses A s at)
unfolding clauses
all_clauses_fit A s at =
    all_after _ _ (bounded 0 2049 s at) _ (bounded_fine 0 2049 s at) λ many n1 k.
    all_after _ _ (clauses_from many A 8192 s n1) _ (clauses_fit many A 8192 s n1) λ cs n2 r.
    all_unless _ (BytesAfter n2) (ltb n2 (length s)) s n2 _ λ t.
    (omega (arith, r.many), record { many = refl; each = r.each; all = r.all })

-- ---- the table

limits : (h : Header) (xs : List Atom) (cs : List Clause) → HeaderFits h → AtomsFit h h.sizes.atoms 0 xs → length cs ≤ 2048 → ClausesFit h.sizes.atoms (length cs) 8192 cs
    → Limits (record {
      claim = h.players.claim;
      seats = h.players.seats;
      chance = h.players.chance;
      fluents = h.sizes.fluents;
      moves = h.sizes.moves;
      percepts = h.sizes.percepts;
      atoms = xs;
      clauses = cs;
    })
unfolding first_bound second_bound
limits h xs cs f a few c = record {
  claim = f.players.claim;
  some_seat = f.players.some_seat;
  seats = f.players.seats;
  chance = f.players.chance;
  fluents = f.sizes.fluents;
  some_move = f.sizes.some_move;
  moves = f.sizes.moves;
  percepts = f.sizes.percepts;
  some_atom = omega (arith, a.many, f.sizes.some_atom);
  atoms = omega (arith, a.many, f.sizes.atoms);
  kinds = λ p lt. (a.each _ (at_mem _ xs p lt)).kind;
  firsts = λ p lt. (a.each _ (at_mem _ xs p lt)).first;
  seconds = λ p lt. (a.each _ (at_mem _ xs p lt)).second;
  ascending = a.ascending;
  clauses = few;
  heads = λ d m. omega (arith, a.many, (c.each d m).head);
  bodies = λ d m l k. omega (arith, a.many, (c.each d m).body l k);
  short = λ d m. (c.each d m).short;
  literals = c.all;
}

pub table_limits : (s : List ℕ) → All (λ G n. Limits G) (table s 0)
unfolding table game
table_limits s =
    all_unless _ TableTooLong (ltb 65535 (length s)) s 0 _ λ t.
    all_after _ _ (header s 0) _ (header_fits s 0) λ h n x.
    all_after _ _ (atoms_from h h.sizes.atoms 0 s n) _ (atoms_fit h h.sizes.atoms 0 s n) λ xs m y.
    all_after _ _ (clauses h.sizes.atoms s m) _ (all_clauses_fit h.sizes.atoms s m) λ cs k z.
    limits h xs cs x y z.0 z.1

pub read_limits : (s : List ℕ) (G : Game) (n : ℕ) → table s 0 ≡ ok G n → Limits G
read_limits s G n e = subst (All (λ G n. Limits G)) e (table_limits s)

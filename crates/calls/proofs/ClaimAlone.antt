-- Two accepted tables that differ in the claim alone get equal answers from every call but claim: `claim_alone`.
use mathlib.Core.Path.{◌≡◌, refl, sym, ap, ap₂, subst, ◌∙◌}
use mathlib.Core.Bool.{Bool, true, false}
use mathlib.Core.List.{List, ◌∷◌, ◌++◌}
use Prim.Native.Nat.{ℕ, suc, ◌+◌, ◌≤◌}
use native.Mathlib.Omega.{arith}
use lib.Dec.{ltb}
use lib.ListN.{length, drop, length-append}
use lib.Seq.{sets, sets-eq, drop-append_seam}
use borrow.Author.Tests.{le-ltb, lt-leb}
use Rattle.numbers.specs.Writing.{number_bytes}
use Rattle.numbers.specs.declared.Run.TheVariants.{One}
use Rattle.numbers.proofs.Reading.{one, at_one}
use Rattle.numbers.proofs.Writing.{reads_back}
use Rattle.refusals.specs.declared.Refusal.TheVariants.{TableTooLong}
use Rattle.refusals.specs.Ruling.{Ruling, passed, refused, first_of}
use Rattle.table.specs.Parse.{Parse, ok, fault, after, refuse◌if◌, bounded}
use Rattle.table.specs.Table.{players, sizes, header, first_bound, second_bound, atoms_from, clauses, game, table}
use Rattle.table.specs.declared.header.Players.{Players}
use Rattle.table.specs.declared.header.Sizes.{Sizes}
use Rattle.table.specs.declared.header.Header.{Header}
use Rattle.gdl.specs.Game.{Atom, Clause, Game}
use Rattle.rules.specs.Verdict.{Verdict, fit}
use Rattle.rules.specs.Judged.{table_tests, ruled_by, judged_of, judge}
use Rattle.calls.proofs.Shifting.{Left, Agree, Alike, agree_after, alike_after, bounded_alike, sizes_alike, atoms_alike, clauses_alike}
use Rattle.calls.specs.Same.{claiming, SameAnswers}
use Rattle.calls.proofs.Claiming.{claim_decides_nothing}

-- a table with this claim: the version, the claim, and what follows
abbrev pub with_claim : ℕ → List ℕ → List ℕ
with_claim c rest = 0x01 ∷ (number_bytes c ++ rest)

module _ (c : ℕ) (rest : List ℕ) (small : c ≤ 65535) where
  version_read : bounded 1 2 (with_claim c rest) 0 ≡ ok 1 1
  unfolding bounded
  version_read = rw (← at_one (with_claim c rest) 0 (One 1) (one (with_claim c rest) 0 1 refl (omega arith) (omega arith)) 1 refl) refl

  after_claim : drop (1 + length (number_bytes c)) (with_claim c rest) ≡ rest
  after_claim = let e : 1 + length (number_bytes c) ≡ suc (length (number_bytes c)) = omega arith in rw e (drop-append_seam (number_bytes c) rest)

  fits : 1 + length (number_bytes c) ≤ length (with_claim c rest)
  fits = simp length-append (omega arith)

  written : sets (with_claim c rest) 1 (number_bytes c) ≡ with_claim c rest
  written = sets-eq (number_bytes c) (with_claim c rest) 1 fits ∙ ap (λ (x : List ℕ). 0x01 ∷ (number_bytes c ++ x)) after_claim

  claim_read : bounded 0 65536 (with_claim c rest) 1 ≡ ok c (1 + length (number_bytes c))
  unfolding bounded
  claim_read = rw (rw written at (reads_back (with_claim c rest) 1 c small fits), le-ltb c 0 (omega arith), lt-leb 65536 c (omega arith)) refl

-- players and headers that differ in the claim alone
record OtherPlayers (p q : Players) : Type 0 where
  seats : p.seats ≡ q.seats
  chance : p.chance ≡ q.chance

record OtherHeader (h g : Header) : Type 0 where
  players : OtherPlayers h.players g.players
  sizes : h.sizes ≡ g.sizes

-- games that do
abbrev OtherGame : Game → Game → Type 0
OtherGame G H = claiming H.claim G ≡ H

game_same : (a s s' h h' f f' m m' p p' : ℕ) (xs xs' : List Atom) (cs cs' : List Clause) → s ≡ s' → h ≡ h' → f ≡ f' → m ≡ m' → p ≡ p' → xs ≡ xs' → cs ≡ cs'
    → ◌≡◌ {A = Game} (record { claim = a; seats = s; chance = h; fluents = f; moves = m; percepts = p; atoms = xs; clauses = cs })
    (record { claim = a; seats = s'; chance = h'; fluents = f'; moves = m'; percepts = p'; atoms = xs'; clauses = cs' })
game_same a s s' h h' f f' m m' p p' xs xs' cs cs' e1 e2 e3 e4 e5 e6 e7 = cc

module _ (h g : Header) (o : OtherHeader h g) (k : ℕ) where
  first_same : first_bound h k ≡ first_bound g k
  unfolding first_bound
  first_same = ap₂ (λ (r : ℕ) (z : Sizes). first_bound (record { players = record { claim = 0; seats = r; chance = 0 }; sizes = z }) k) o.players.seats o.sizes

  second_same : second_bound h k ≡ second_bound g k
  unfolding second_bound
  second_same = ap (λ (z : Sizes). second_bound (record { players = h.players; sizes = z }) k) o.sizes

module _ (c d : ℕ) (rest : List ℕ) (small : c ≤ 65535) (small' : d ≤ 65535) where
  abbrev s : List ℕ
  s = with_claim c rest

  abbrev t : List ℕ
  t = with_claim d rest

  left : Left s t (1 + length (number_bytes c)) (1 + length (number_bytes d))
  left = record { same = after_claim c rest small ∙ sym (after_claim d rest small'); inside = fits c rest small; inside' = fits d rest small' }

  players_other : Agree s t OtherPlayers (players s 0) (players t 0)
  unfolding players
  players_other =
      let n : ℕ = 1 + length (number_bytes c) in
      let m : ℕ = 1 + length (number_bytes d) in
      rw (version_read c rest small, version_read d rest small', claim_read c rest small, claim_read d rest small')
      (alike_after s t OtherPlayers (bounded 1 9 s n) (bounded 1 9 t m) _ _ (bounded_alike s t 1 9 n m left) λ seats n1 m1 w1.
      alike_after s t OtherPlayers (bounded 0 (seats + 1) s n1) (bounded 0 (seats + 1) t m1) _ _ (bounded_alike s t 0 (seats + 1) n1 m1 w1) λ chance n2 m2 w2.
      (record { seats = refl; chance = refl }, w2))

  header_other : Agree s t OtherHeader (header s 0) (header t 0)
  unfolding header
  header_other =
      agree_after s t OtherPlayers OtherHeader (players s 0) (players t 0) _ _ players_other λ p q n m o w.
      alike_after s t OtherHeader (sizes s n) (sizes t m) _ _ (sizes_alike s t n m w) λ z n1 m1 w1. (record { players = o; sizes = refl }, w1)

  -- "13 goes before all"
  past_test : {A : Type 0} (Q : A → A → Type 0) (a b : Bool) (k l : Unit {0} → ℕ → Parse A) → Agree s t Q (k tt 0) (l tt 0)
      → Agree s t Q (after ((refuse TableTooLong if a) s 0) k) (after ((refuse TableTooLong if b) t 0) l)
  past_test Q true b k l h = tt
  past_test Q false true k l h = go (k tt 0)
    where
      go : (p : Parse _) → Agree s t Q p (fault TableTooLong)
      go (ok a n) = tt
      go (fault f) = tt
  past_test Q false false k l h = h

  -- the atoms and the clauses of a table, by headers that differ in the claim alone
  module _ (h g : Header) (o : OtherHeader h g) (n m : ℕ) (w : Left s t n m) where
    many : h.sizes.atoms ≡ g.sizes.atoms
    many = ap (λ (z : Sizes). z.atoms) o.sizes

    same_atoms : Alike s t (atoms_from h h.sizes.atoms 0 s n) (atoms_from g g.sizes.atoms 0 t m)
    same_atoms = subst (λ (k : ℕ). Alike s t (atoms_from h h.sizes.atoms 0 s n) (atoms_from g k 0 t m)) many
        (atoms_alike s t h g (first_same h g o) (second_same h g o) h.sizes.atoms 0 n m w)

    same_clauses : Alike s t (clauses h.sizes.atoms s n) (clauses g.sizes.atoms t m)
    same_clauses = subst (λ (k : ℕ). Alike s t (clauses h.sizes.atoms s n) (clauses k t m)) many (clauses_alike s t h.sizes.atoms n m w)

  table_other : Agree s t OtherGame (table s 0) (table t 0)
  unfolding table game
  table_other =
      past_test OtherGame (ltb 65535 (length s)) (ltb 65535 (length t)) _ _
      (agree_after s t OtherHeader OtherGame (header s 0) (header t 0) _ _ header_other λ h g n m o w.
      alike_after s t OtherGame (atoms_from h h.sizes.atoms 0 s n) (atoms_from g g.sizes.atoms 0 t m) _ _ (same_atoms h g o n m w) λ atoms n1 m1 w1.
      alike_after s t OtherGame (clauses h.sizes.atoms s n1) (clauses g.sizes.atoms t m1) _ _ (same_clauses h g o n1 m1 w1) λ cs n2 m2 w2.
      (game_same _ _ _ _ _ _ _ _ _ _ _ _ _ _ _ o.players.seats o.players.chance (ap (λ (z : Sizes). z.fluents) o.sizes) (ap (λ (z : Sizes). z.moves) o.sizes) (ap (λ (z : Sizes). z.percepts) o.sizes) refl refl, w2))

  -- "Of an accepted table no other answer depends on it."
  pub claim_alone : (G H : Game) → judge s ≡ fit G → judge t ≡ fit H → SameAnswers (judge s) (judge t)
  unfolding judge
  claim_alone G H e f = rw (e, f) (subst (λ (K : Game). SameAnswers (fit G) (fit K)) (go (table s 0) (table t 0) table_other e f) (claim_decides_nothing G H.claim))
    where
      fit_same : (a b : Game) → ◌≡◌ {A = Verdict} (fit a) (fit b) → a ≡ b
      fit_same a b e = cc

      read : (K L : Game) (r : Ruling) → ruled_by K r ≡ fit L → K ≡ L
      read K L passed e = fit_same K L e
      read K L (refused r) e = let z : ◌≡◌ {A = ℕ} 0 1 = cc in absurd (omega arith)

      go : (p q : Parse Game) → Agree s t OtherGame p q → judged_of p ≡ fit G → judged_of q ≡ fit H → claiming H.claim G ≡ H
      go (ok K n) (ok L m) o e f =
          subst (λ (x : Game). claiming H.claim x ≡ H) (read K G (first_of (table_tests K)) e) (subst (λ (y : Game). claiming y.claim K ≡ y) (read L H (first_of (table_tests L)) f) o.0)
      go (ok K n) (fault g) o e f = let z : ◌≡◌ {A = ℕ} 0 1 = cc in absurd (omega arith)
      go (fault g) q o e f = let z : ◌≡◌ {A = ℕ} 0 1 = cc in absurd (omega arith)

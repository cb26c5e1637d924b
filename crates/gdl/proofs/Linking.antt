-- The links that the reach is computed over are the steps of its definition: from a head to the atoms of its body, and from true(f) to
-- next(f) and init(f).
use mathlib.Core.Path.{◌≡◌, refl, ap, subst}
use mathlib.Core.Bool.{Bool, true, false, ◌||◌}
use mathlib.Core.List.{List, [], ◌∷◌, Memᴰ}
use Prim.Native.Nat.{ℕ, zero, suc, ◌+◌, ◌<◌}
use native.Mathlib.Nat.{not-suc-le-zero}
use native.Mathlib.Omega.{arith}
use lib.Dec.{T, eqb, eqb→eq, eqb_refl}
use lib.ListN.{length, get_or}
use Rattle.gdl.specs.Game.{Atom, Literal, atom_of, Clause, Game, true_kind, next_kind, init_kind, is_kind, atom_at}
use Rattle.gdl.specs.Computed.{Link, body_links, clause_links, link, onward_links, when_true, true_links}
use Rattle.gdl.proofs.Tests.{and_left, and_right, and_both, each_cons}

abbrev pub links : Game → List Link
links G = clause_links G.clauses (true_links G.atoms 0 G.atoms)

abbrev pub arrow : ℕ → ℕ → Link
arrow p q = record { from = p; to = q }

-- is this next(f) or init(f)
abbrev pub is_onward : ℕ → Atom → Bool
is_onward f a = is_kind next_kind f a || is_kind init_kind f a

-- a set of the kind that the reach is holds q where it holds p
pub data Leads (G : Game) : ℕ → ℕ → Type 0 where
  to_body : (c : Clause) → Memᴰ c G.clauses → (x : Literal) → Memᴰ x c.body → Leads G c.head (atom_of x)
  to_next : {p q : ℕ} (f : ℕ) → p < length G.atoms → q < length G.atoms → T (is_kind true_kind f (atom_at G p)) → T (is_onward f (atom_at G q)) → Leads G p q

-- ---- each step is a link

body_in_lem : (h : ℕ) (b : List Literal) (rest : List Link) (x : Literal) → Memᴰ x b → Memᴰ (arrow h (atom_of x)) (body_links h b rest)
body_in_lem h [] rest x m = elim m [ ]
body_in_lem h (y ∷ b) rest x (mathlib.Core.List.Memᴰ.head e) = mathlib.Core.List.Memᴰ.head (ap (λ (w : Literal). arrow h (atom_of w)) e)
body_in_lem h (y ∷ b) rest x (mathlib.Core.List.Memᴰ.tail m) = mathlib.Core.List.Memᴰ.tail (body_in_lem h b rest x m)

body_rest : (h : ℕ) (b : List Literal) (rest : List Link) (k : Link) → Memᴰ k rest → Memᴰ k (body_links h b rest)
body_rest h [] rest k m = m
body_rest h (x ∷ b) rest k m = mathlib.Core.List.Memᴰ.tail (body_rest h b rest k m)

clause_in_lem : (C : List Clause) (rest : List Link) (c : Clause) → Memᴰ c C → (x : Literal) → Memᴰ x c.body → Memᴰ (arrow c.head (atom_of x)) (clause_links C rest)
clause_in_lem [] rest = λ c m. absurd (mathlib.Core.List.Memᴰ.not-nil m)
clause_in_lem (d ∷ C) rest = each_cons (λ (c : Clause). (x : Literal) → Memᴰ x c.body → Memᴰ (arrow c.head (atom_of x)) (clause_links (d ∷ C) rest)) d C
    (λ x k. body_in_lem d.head d.body (clause_links C rest) x k)
    (λ c m x k. body_rest d.head d.body (clause_links C rest) (arrow c.head (atom_of x)) (clause_in_lem C rest c m x k))

clause_rest : (C : List Clause) (rest : List Link) (k : Link) → Memᴰ k rest → Memᴰ k (clause_links C rest)
clause_rest [] rest k m = m
clause_rest (c ∷ C) rest k m = body_rest c.head c.body (clause_links C rest) k (clause_rest C rest k m)

link_in : (b : Bool) (i j : ℕ) (rest : List Link) → T b → Memᴰ (arrow i j) (link b i j rest)
link_in true i j rest t = mathlib.Core.List.Memᴰ.head refl
link_in false i j rest t = absurd t

link_rest : (b : Bool) (i j : ℕ) (rest : List Link) (k : Link) → Memᴰ k rest → Memᴰ k (link b i j rest)
link_rest true i j rest k m = mathlib.Core.List.Memᴰ.tail m
link_rest false i j rest k m = m

onward_rest : (f i j : ℕ) (later : List Atom) (rest : List Link) (k : Link) → Memᴰ k rest → Memᴰ k (onward_links f i j later rest)
onward_rest f i j [] rest k m = m
onward_rest f i j (a ∷ later) rest k m = link_rest (is_onward f a) i j (onward_links f i (suc j) later rest) k (onward_rest f i (suc j) later rest k m)

when_in : (b : Bool) (w r : List Link) (k : Link) → T b → Memᴰ k w → Memᴰ k (when_true b w r)
when_in true w r k t m = m
when_in false w r k t m = absurd t

when_rest : (b : Bool) (w r : List Link) (k : Link) → Memᴰ k w → Memᴰ k r → Memᴰ k (when_true b w r)
when_rest true w r k m n = m
when_rest false w r k m n = n

module _ (d : Atom) where
  onward_in : (f i j : ℕ) (later : List Atom) (rest : List Link) (k q : ℕ) → q ≡ j + k → k < length later → T (is_onward f (get_or later k d))
      → Memᴰ (arrow i q) (onward_links f i j later rest)
  onward_in f i j [] rest k q e h t = absurd (not-suc-le-zero h)
  onward_in f i j (a ∷ later) rest zero q e h t =
      let s : q ≡ j = omega arith in
      rw s (link_in (is_onward f a) i j (onward_links f i (suc j) later rest) t)
  onward_in f i j (a ∷ later) rest (suc k) q e h t =
      link_rest (is_onward f a) i j (onward_links f i (suc j) later rest) (arrow i q) (onward_in f i (suc j) later rest k q (omega arith) (omega arith) t)

  true_in : (all : List Atom) (i : ℕ) (later : List Atom) (k p q : ℕ) → p ≡ i + k → k < length later → q < length all
      → T (eqb (get_or later k d).kind true_kind) → T (is_onward (get_or later k d).first (get_or all q d)) → Memᴰ (arrow p q) (true_links all i later)
  true_in all i [] k p q e h l t u = absurd (not-suc-le-zero h)
  true_in all i (a ∷ later) zero p q e h l t u =
      let s : p ≡ i = omega arith in
      let r : List Link = true_links all (suc i) later in
      rw s (when_in (eqb a.kind true_kind) (onward_links a.first i 0 all r) r (arrow i q) t (onward_in a.first i 0 all r q q (omega arith) l u))
  true_in all i (a ∷ later) (suc k) p q e h l t u =
      let r : List Link = true_links all (suc i) later in
      let m : Memᴰ (arrow p q) r = true_in all (suc i) later k p q (omega arith) (omega arith) l t u in
      when_rest (eqb a.kind true_kind) (onward_links a.first i 0 all r) r (arrow p q) (onward_rest a.first i 0 all r (arrow p q) m) m

pub leads_linked : (G : Game) {p q : ℕ} → Leads G p q → Memᴰ (arrow p q) (links G)
leads_linked G (to_body c m x k) = clause_in_lem G.clauses (true_links G.atoms 0 G.atoms) c m x k
leads_linked G {p} {q} (to_next f pl ql t u) =
    let a : Atom = atom_at G p in
    let e : a.first ≡ f = eqb→eq a.first f (and_right (eqb a.kind true_kind) (eqb a.first f) t) in
    clause_rest G.clauses (true_links G.atoms 0 G.atoms) (arrow p q)
    (true_in _ G.atoms 0 G.atoms p p q (omega arith) pl ql (and_left (eqb a.kind true_kind) (eqb a.first f) t) (rw e u))

-- ---- and each link is a step

module _ (Q : Link → Type 0) where
  abbrev Each : List Link → Type 0
  Each l = (k : Link) → Memᴰ k l → Q k

  body_each : (h : ℕ) (b : List Literal) (rest : List Link) → ((x : Literal) → Memᴰ x b → Q (arrow h (atom_of x))) → Each rest → Each (body_links h b rest)
  body_each h [] rest f g = g
  body_each h (x ∷ b) rest f g = each_cons Q (arrow h (atom_of x)) (body_links h b rest) (f x (mathlib.Core.List.Memᴰ.head refl)) (body_each h b rest (λ y m. f y (mathlib.Core.List.Memᴰ.tail m)) g)

  clause_each : (C : List Clause) (rest : List Link) → ((c : Clause) → Memᴰ c C → (x : Literal) → Memᴰ x c.body → Q (arrow c.head (atom_of x)))
      → Each rest → Each (clause_links C rest)
  clause_each [] rest f g = g
  clause_each (c ∷ C) rest f g = body_each c.head c.body (clause_links C rest) (f c (mathlib.Core.List.Memᴰ.head refl)) (clause_each C rest (λ d m. f d (mathlib.Core.List.Memᴰ.tail m)) g)

  link_each : (b : Bool) (i j : ℕ) (rest : List Link) → (T b → Q (arrow i j)) → Each rest → Each (link b i j rest)
  link_each true i j rest f g = each_cons Q (arrow i j) rest (f tt) g
  link_each false i j rest f g = g

  when_each : (b : Bool) (w r : List Link) → (T b → Each w) → Each r → Each (when_true b w r)
  when_each true w r f g = f tt
  when_each false w r f g = g

  module _ (d : Atom) where
    onward_each : (f i j : ℕ) (later : List Atom) (rest : List Link)
        → ((k q : ℕ) → q ≡ j + k → k < length later → T (is_onward f (get_or later k d)) → Q (arrow i q)) → Each rest → Each (onward_links f i j later rest)
    onward_each f i j [] rest h g = g
    onward_each f i j (a ∷ later) rest h g = link_each (is_onward f a) i j (onward_links f i (suc j) later rest) (h 0 j (omega arith) (omega arith))
        (onward_each f i (suc j) later rest (λ k q e lt. h (suc k) q (omega arith) (omega arith)) g)

    true_each : (all : List Atom) (i : ℕ) (later : List Atom)
        → ((k p q : ℕ) → p ≡ i + k → k < length later → q < length all → T (eqb (get_or later k d).kind true_kind)
        → T (is_onward (get_or later k d).first (get_or all q d)) → Q (arrow p q))
        → Each (true_links all i later)
    true_each all i [] h = λ k m. absurd (mathlib.Core.List.Memᴰ.not-nil m)
    true_each all i (a ∷ later) h =
        let r : List Link = true_links all (suc i) later in
        let g : Each r = true_each all (suc i) later (λ k p q e lt. h (suc k) p q (omega arith) (omega arith)) in
        when_each (eqb a.kind true_kind) (onward_links a.first i 0 all r) r
        (λ t. onward_each a.first i 0 all r (λ k q e lt u. let s : q ≡ k = omega arith in h 0 i q (omega arith) (omega arith) (omega arith) t (rw s u)) g) g

pub links_lead : (G : Game) (k : Link) → Memᴰ k (links G) → Leads G k.from k.to
links_lead G = clause_each (λ k. Leads G k.from k.to) G.clauses (true_links G.atoms 0 G.atoms) to_body
    (true_each (λ k. Leads G k.from k.to) _ G.atoms 0 G.atoms (λ k p q e kl ql t u.
    let a : Atom = atom_at G k in
    let s : k ≡ p = omega arith in
    subst (λ (i : ℕ). Leads G i q) s (to_next a.first kl ql (and_both (eqb a.kind true_kind) (eqb a.first a.first) t (eqb_refl a.first)) u)))

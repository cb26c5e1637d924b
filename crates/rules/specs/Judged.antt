-- The verdict, computed: the rules in their order, each at the lowest place that breaks it. A theorem of this crate shows that it is `Judged`.
use Rattle.std.specs.Prelude.{Bool, true, false, not, ◌&&◌, ◌||◌, List, [], ◌∷◌, ℕ, zero, suc, eqb, ltb, length}
use Rattle.refusals.specs.declared.Refusal.TheVariants.{RoleWithBody, NeverHead, NeverInBody, InitRule, DoesRule, NoLevels, NoRoleFact}
use Rattle.refusals.specs.Ruling.{Test, refuse◌at_lowest_of◌if◌, Ruling, passed, refused, first_of}
use Rattle.gdl.specs.Game.{Literal, pos, neg, atom_of, Game, role_kind, init_kind, true_kind, does_kind, legal_kind, next_kind, sees_kind, terminal_kind, goal_kind, is_atom, atom_at, clause_at, kind_of}
use Rattle.gdl.specs.Flags.{on}
use Rattle.gdl.specs.Graph.{itself}
use Rattle.gdl.specs.Computed.{above}
use Rattle.table.specs.Parse.{Parse, ok, fault}
use Rattle.table.specs.Table.{table}
use Rattle.rules.specs.Verdict.{Verdict, unfit, fit}
use Rattle.rules.specs.Rules.{some, one_of}

abbrev pub some_below : (ℕ → Bool) → ℕ → Bool
some_below f zero = false
some_below f (suc n) = f n || some_below f n

-- no kind is one of these and one of those
abbrev pub disjoint : List ℕ → List ℕ → Bool
disjoint [] those = true
disjoint (k ∷ these) those = not (one_of those k) && disjoint these those

-- p, of one of these kinds, is or depends on a q of one of those (which are other kinds, so that p is not q)
abbrev pub leans : Game → List ℕ → List ℕ → ℕ → Bool
unfolding above
leans G these those p =
    let A : ℕ = length G.atoms in
    one_of these (kind_of G p) && some_below (λ q. one_of those (kind_of G q) && (let X : List ℕ = above itself G.clauses A q in on X p)) A

-- a negated atom that is in X
abbrev pub negated_in : (ℕ → Bool) → Literal → Bool
negated_in X (pos q) = false
negated_in X (neg q) = X q

abbrev pub turns_back : Game → ℕ → Bool
unfolding above
turns_back G p =
    let X : List ℕ = above itself G.clauses (length G.atoms) p in
    some (λ c. eqb c.head p && some (negated_in (on X)) c.body) G.clauses

abbrev pub role_given : Game → ℕ → Bool
role_given G s = some (λ c. is_atom role_kind s 0 (atom_at G c.head)) G.clauses

-- "5 to 12 follow in this order"
unfoldable pub table_tests : Game → List Test
unfolding above
table_tests G =
    let A : ℕ = length G.atoms in
    let C : ℕ = length G.clauses in
    refuse RoleWithBody at_lowest_of C if (λ i. eqb (kind_of G (clause_at G i).head) role_kind && ltb 0 (length (clause_at G i).body)) ∷
    refuse NeverHead at_lowest_of C if (λ i. one_of (true_kind ∷ does_kind ∷ []) (kind_of G (clause_at G i).head)) ∷
    refuse NeverInBody at_lowest_of C if (λ i. some (λ x. one_of (init_kind ∷ next_kind ∷ sees_kind ∷ []) (kind_of G (atom_of x))) (clause_at G i).body) ∷
    refuse InitRule at_lowest_of A if leans G (init_kind ∷ []) (true_kind ∷ does_kind ∷ legal_kind ∷ terminal_kind ∷ goal_kind ∷ []) ∷
    refuse DoesRule at_lowest_of A if leans G (legal_kind ∷ terminal_kind ∷ goal_kind ∷ []) (does_kind ∷ []) ∷
    refuse NoLevels at_lowest_of A if turns_back G ∷
    refuse NoRoleFact at_lowest_of G.seats if (λ s. not (role_given G s)) ∷ []

abbrev pub ruled_by : Game → Ruling → Verdict
ruled_by G passed = fit G
ruled_by G (refused r) = unfit r

abbrev pub judged_of : Parse Game → Verdict
unfolding table_tests
judged_of (fault f) = unfit f
judged_of (ok G n) = ruled_by G (first_of (table_tests G))

unfoldable pub judge : List ℕ → Verdict
unfolding table_tests table
judge s = judged_of (table s 0)

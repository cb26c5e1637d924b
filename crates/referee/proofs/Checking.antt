-- The check answers Success just where the table is accepted, and else one of the table's refusals, 1 to 13.
use mathlib.Core.Path.{◌≡◌, refl, subst}
use mathlib.Core.Logic.{◌↔◌}
use mathlib.Core.List.{List}
use Prim.Native.Nat.{ℕ}
use native.Mathlib.Omega.{arith}
use Rattle.refusals.specs.declared.Refusal.{Refusal}
use Rattle.refusals.specs.declared.Refusal.TheVariants.{Success}
use Rattle.refusals.specs.Ruling.{Ruling, passed, refused, first_of}
use Rattle.gdl.specs.Game.{Game}
use Rattle.table.specs.Parse.{Parse, ok, fault}
use Rattle.table.specs.Table.{table}
use Rattle.table.proofs.Faults.{OfTable, Faults, table_faults}
use Rattle.rules.specs.Verdict.{Verdict, unfit, fit}
use Rattle.rules.specs.Judged.{table_tests, ruled_by, judged_of, judge}
use Rattle.calls.specs.Calls.{check}
use Rattle.calls.proofs.Rulings.{refused_by_lem}

rule_refusals : (G : Game) (r : Refusal) → first_of (table_tests G) ≡ refused r → OfTable r
unfolding table_tests
rule_refusals G r = refused_by_lem OfTable (table_tests G) r (λ p. tt, (λ p. tt, (λ p. tt, (λ p. tt, (λ p. tt, (λ p. tt, (λ p. tt, tt)))))))

pub unfit_of_table : (s : List ℕ) (r : Refusal) → judge s ≡ unfit r → OfTable r
unfolding judge
unfit_of_table s r e = go (table s 0) (table_faults s) e
  where
    same : (q : Refusal) → ◌≡◌ {A = Verdict} (unfit q) (unfit r) → q ≡ r
    same q e = cc

    of_rules : (G : Game) → ((q : Refusal) → first_of (table_tests G) ≡ refused q → OfTable q) → (a : Ruling) → first_of (table_tests G) ≡ a → ruled_by G a ≡ unfit r → OfTable r
    of_rules G k passed f e = let z : ◌≡◌ {A = ℕ} 0 1 = cc in absurd (omega arith)
    of_rules G k (refused q) f e = subst OfTable (same q e) (k q f)

    go : (p : Parse Game) → Faults p → judged_of p ≡ unfit r → OfTable r
    go (fault f) h e = subst OfTable (same f e) h
    go (ok G n) h e = of_rules G (rule_refusals G) (first_of (table_tests G)) refl e

-- "Success answers 0": and only an accepted table gets it
pub check_success : (s : List ℕ) → (check (judge s) ≡ Success) ↔ ((G : Game) × (judge s ≡ fit G))
unfolding check
check_success s = (λ e. go (judge s) refl e, λ w. rw w.1 refl)
  where
    go : (v : Verdict) → judge s ≡ v → check v ≡ Success → (G : Game) × (judge s ≡ fit G)
    go (fit G) j e = (G, j)
    go (unfit r) j e = absurd (subst OfTable e (unfit_of_table s r j))

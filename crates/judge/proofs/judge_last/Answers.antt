-- No levels, a seat without a role fact, or neither.
use mathlib.Core.Path.{◌≡◌, refl, subst}
use borrow.Author.Rules.{rules}
use Rattle.std.specs.Prelude.{ℕ, Result, Ok, Err, MatchResult}
use Rattle.std.specs.Result.{IsErrAnd}
use Rattle.refusals.specs.declared.Refusal.{Refusal}
use Rattle.refusals.specs.declared.Refusal.TheVariants.{NoLevels}
use Rattle.std.proofs.lemmas.Result.{err_from_is_err_and}
use Rattle.judge.proofs.Ordering.{last_refused, last_seat, last_done}
use Rattle.judge.proofs.judge_last.Goals as goal

no_levels : (n : Result ℕ ℕ) (m : Result ℕ Refusal) (r : Refusal) → MatchResult n (λ x. m ≡ Ok x) (λ e. IsErrAnd m (λ s. s ≡ NoLevels e)) → m ≡ Err r
    → (p : ℕ) × (n ≡ Err p) × (r ≡ NoLevels p)
no_levels (Ok x) m r h e = let f : m ≡ Ok x = h in absurd cc
no_levels (Err p) m r h e = (p, refl, subst (λ k. IsErrAnd k (λ s. s ≡ NoLevels p)) e h)

pub returns-in_err-top : goal.returns-in_err-top
returns-in_err-top c =
    let p = err_from_is_err_and c.from_residual.result c.from_residual.ensures.1 in
    let m = no_levels c.number_atoms.result c.map_err.result c.in_err-top.field-0.0 c.map_err.ensures.cases c.in_err-top.was in
    rw (p.1, p.2, m.2) (last_refused _ _ _ _ _ _ _ c.number_atoms.ensures m.0 m.1)

pub returns-in-Some : goal.returns-in-Some
returns-in-Some c =
    let e : c.number_atoms.result ≡ Ok c.in_ok-top.top = search rules in
    last_seat _ _ _ _ _ _ _ c.number_atoms.ensures _ e _ c.in-Some.ensures

pub returns-in-None : goal.returns-in-None
returns-in-None c =
    let e : c.number_atoms.result ≡ Ok c.in_ok-top.top = search rules in
    last_done _ _ _ _ _ _ _ c.number_atoms.ensures _ e c.in-None.ensures

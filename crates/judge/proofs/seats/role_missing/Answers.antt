-- Each head is an atom; the library's `any` is the page's `some`.
use mathlib.Core.Path.{ap, ◌∙◌}
use mathlib.Core.Bool.{not}
use Rattle.std.proofs.Common.{rules, tests}
use Rattle.std.proofs.lemmas.Iterator.{YieldsList-from_slice}
use Rattle.std.proofs.lemmas.Iterator.Adapters.{serves_from_places}
use Rattle.std.proofs.lemmas.Iterator.Search.{any_from_yields_List}
use Rattle.judge.specs.Arrays.{RoleAsked, role_of}
use Rattle.judge.proofs.Elements.{some_any, role_in}
use Rattle.judge.proofs.seats.role_missing.Goals as goal

pub any-requires : goal.any-requires
any-requires c = record {
  can = search rules;
  finite = search rules;
  callable = serves_from_places (YieldsList-from_slice c.args.clauses.now.heads.now c.iter.ensures.rest) (λ x q k. search rules)
      (λ x k lt e. let h : RoleAsked c.args.atoms.now x.now = role_in _ _ c.requires k lt x.now e in search (rules, tests));
}

pub returns : goal.returns
returns c =
    ap not (any_from_yields_List (role_of c.args.atoms.now c.args.seat) _ _ _ c.any.ensures.ran
    (YieldsList-from_slice c.args.clauses.now.heads.now c.iter.ensures.rest) (λ x b q k. search (rules, tests))
    ∙ some_any (role_of c.args.atoms.now c.args.seat) c.args.clauses.now.heads.now)

-- Flags that are not above 0 are 0.
use borrow.Author.Rules.{rules}
use Rattle.session.proofs.Fits.{runs}
use Rattle.session.proofs.shape.run_unset.Goals as goal

pub returns-then-flags-i-ge64 : goal.returns-then-flags-i-ge64
returns-then-flags-i-ge64 c = search (rules, runs)

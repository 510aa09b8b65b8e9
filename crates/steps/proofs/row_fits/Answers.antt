-- `steps::row_fits` meets its contract.
use Rattle.std.proofs.Common.{rules}
use borrow.Author.Tests.{tests}
use Rattle.steps.specs.Code.{row_fits}
use Rattle.steps.proofs.row_fits.Goals as goal

pub returns-then-answered : goal.returns-then-answered
unfolding row_fits
returns-then-answered c = search (rules, tests)

pub returns-else-answered : goal.returns-else-answered
unfolding row_fits
returns-else-answered c = search (rules, tests)

-- `rows::answered` meets its contract: its parts are the callees' own words.
use Rattle.std.proofs.Common.{rules}
use borrow.Author.Tests.{tests}
use Rattle.rows.specs.Permitted.{answered}
use Rattle.rows.proofs.answered.Goals as goal

pub returns-then-errors : goal.returns-then-errors
unfolding answered
returns-then-errors c = search (rules, tests)

pub returns-else-errors : goal.returns-else-errors
unfolding answered
returns-else-errors c = search (rules, tests)

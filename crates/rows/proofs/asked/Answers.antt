-- `rows::asked` meets its contract: its parts are the callees' own words.
use Rattle.std.proofs.Common.{rules}
use borrow.Author.Tests.{tests}
use Rattle.rows.specs.Permitted.{asked}
use Rattle.rows.proofs.asked.Goals as goal

pub returns-after-marked : goal.returns-after-marked
unfolding asked
returns-after-marked c = search (rules, tests)

pub returns-else-fits-2 : goal.returns-else-fits-2
unfolding asked
returns-else-fits-2 c = search (rules, tests)

-- `rows::tagged` meets its contract: its parts are the callees' own words.
use Rattle.std.proofs.Common.{rules}
use borrow.Author.Tests.{tests}
use Rattle.rows.specs.Permitted.{tagged}
use Rattle.rows.proofs.tagged.Goals as goal

pub returns-then-tags_allow : goal.returns-then-tags_allow
unfolding tagged
returns-then-tags_allow c = search (rules, tests)

pub returns-else-tags_allow : goal.returns-else-tags_allow
unfolding tagged
returns-else-tags_allow c = search (rules, tests)

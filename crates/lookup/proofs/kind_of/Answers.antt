-- `lookup::kind_of` meets its contract: the slot has the answer, or it does not.
use Rattle.std.proofs.Common.{rules}
use borrow.Author.Tests.{tests}
use Rattle.lookup.proofs.Laws.{kind_there}
use Rattle.lookup.proofs.kind_of.Goals as goal

pub returns-then-slot-answer : goal.returns-then-slot-answer
returns-then-slot-answer c = rw (kind_there c.args.answer) (search (rules, tests))

pub returns-else-slot-answer : goal.returns-else-slot-answer
returns-else-slot-answer c = rw (kind_there c.args.answer) (search (rules, tests))

-- `steps::duty` meets its contract.
use Rattle.std.proofs.Common.{rules}
use borrow.Author.Tests.{tests}
use Rattle.steps.specs.Steps.{duty}
use Rattle.steps.proofs.duty.Goals as goal

pub returns-then-passes_dirty : goal.returns-then-passes_dirty
unfolding duty
returns-then-passes_dirty c = search (rules, tests)

pub returns-then-passes_dirty-2 : goal.returns-then-passes_dirty-2
unfolding duty
returns-then-passes_dirty-2 c = search (rules, tests)

pub returns-then-held : goal.returns-then-held
unfolding duty
returns-then-held c = search (rules, tests)

pub returns-then-held-2 : goal.returns-then-held-2
unfolding duty
returns-then-held-2 c = search (rules, tests)

pub returns-else-eq-2 : goal.returns-else-eq-2
unfolding duty
returns-else-eq-2 c = search (rules, tests)

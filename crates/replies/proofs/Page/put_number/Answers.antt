-- `replies::Page::put_number` meets its contract: the digits of what is left, and those written, are the number's.
use Rattle.replies.specs.Laid.{lay}
use mathlib.Core.Path.{◌∙◌, ap}
use native.Mathlib.Omega.{arith}
use Rattle.replies.proofs.Decimal.{spelling_next, spelling_end}
use Rattle.replies.proofs.Page.put_number.Goals as goal

pub loop-rest-preserved : goal.loop-rest-preserved
loop-rest-preserved c = spelling_next c.loop-rest.invariant c.loop-rest-test.true

pub returns-clause-written : goal.returns-clause-written
returns-clause-written c =
    c.put.ensures.written ∙ ap (lay _) (spelling_end _ c.loop-rest.invariant c.loop-rest-test.false (omega arith))

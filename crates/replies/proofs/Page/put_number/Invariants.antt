-- `replies::Page::put_number` meets its contract: the digits of what is left, and those written, are the number's. The measure is what is left.
use Rattle.replies.proofs.Decimal.{Spelling}
use Rattle.replies.proofs.Page.put_number.Given as goal

abbrev pub invariant-loop-rest : goal.invariant-loop-rest
invariant-loop-rest l = Spelling l.n l.digits l.first l.rest

abbrev pub decreases-loop-rest : goal.decreases-loop-rest
decreases-loop-rest l = l.rest

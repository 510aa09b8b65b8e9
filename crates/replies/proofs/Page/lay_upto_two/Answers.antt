-- `replies::Page::lay_upto_two` meets its contract: one digit or two.
use Rattle.replies.proofs.Decimal.{decimal_digit, decimal_two}
use Rattle.replies.specs.Laid.{lay}
use mathlib.Core.Path.{sym, ◌∙◌, ap}
use native.Mathlib.Omega.{arith}
use Rattle.replies.proofs.Page.lay_upto_two.Goals as goal

pub returns-then-n-lt10-clause-written : goal.returns-then-n-lt10-clause-written
returns-then-n-lt10-clause-written c =
    c.lay.ensures.written ∙ ap (lay _) (sym (decimal_digit c.args.n c.if-n-lt10.true))

pub returns-else-n-lt10-clause-written : goal.returns-else-n-lt10-clause-written
returns-else-n-lt10-clause-written c =
    c.lay_two.ensures.written ∙ ap (lay _) (sym (decimal_two c.args.n (omega arith) (omega arith)))

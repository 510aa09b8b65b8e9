-- `replies::put_answer` meets its contract: the line is laid where there is room for it.
use Rattle.replies.proofs.Decimal.{decimal_short}
use Rattle.replies.proofs.Laying.{room_left, long_still}
use native.Mathlib.Omega.{arith}
use Rattle.replies.proofs.put_answer.Goals as goal

pub lay_judged-requires : goal.lay_judged-requires
lay_judged-requires c =
    omega (
      arith,
      room_left _ _ 58 c.lay_upto_six.ensures.written (omega (arith, decimal_short 5 c.args.event.0 c.if-event-lt1000000.true)),
      long_still _ _ c.lay_upto_six.ensures.written,
    )

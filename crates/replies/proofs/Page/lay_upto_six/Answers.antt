-- `replies::Page::lay_upto_six` meets its contract: its hundreds and its last two digits.
use Prim.Native.Nat.{◌/◌}
use Rattle.replies.proofs.Decimal.{decimal_short}
use Rattle.replies.proofs.Laying.{room_left}
use Rattle.replies.proofs.Parts.{hundreds_laid}
use native.Mathlib.Omega.{arith}
use Rattle.replies.proofs.Page.lay_upto_six.Goals as goal

pub lay_two-requires : goal.lay_two-requires
lay_two-requires c =
    record { few_digits = omega arith; has_room = room_left _ _ 2 c.lay_upto_four-else-n-lt10000.ensures.written (omega (arith, decimal_short 3 (c.args.n / 100) (omega arith))) }

pub returns-else-n-lt10000-clause-written : goal.returns-else-n-lt10000-clause-written
returns-else-n-lt10000-clause-written c =
    hundreds_laid _ 5 c.args.n (omega arith) (omega arith) (omega arith) (omega arith) c.lay_upto_four-else-n-lt10000.ensures.written c.lay_two.ensures.written

-- `first_line::in_place::read_digits` meets its contract: `value` is the number of the first `count` digits.
use Rattle.std.proofs.Common.{sym}
use Rattle.first_line.proofs.Digits.{reading_start, reading_next}
use Rattle.first_line.proofs.in_place.read_digits.Goals as goal

pub loop-count-init : goal.loop-count-init
loop-count-init c = reading_start c.args.text.now c.args.at

pub loop-count-preserved : goal.loop-count-preserved
loop-count-preserved c =
    let loop = c.loop-count in
    rw c.from.ensures (reading_next loop.invariant c.loop-count-test.true c.requires (sym c.if-not-is_ascii_digit.ensures.value))

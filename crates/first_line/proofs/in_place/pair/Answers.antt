-- `first_line::in_place::pair` meets its contract: digits, a comma, and no leading zero.
use Rattle.std.proofs.Common.{length}
use Rattle.first_line.proofs.Matching.{roomy}
use Rattle.first_line.proofs.Digits.{pair_met}
use Rattle.first_line.proofs.in_place.pair.Goals as goal

pub returns : goal.returns
returns c =
    let args = c.args in
    let digits = c.read_digits-count in
    pair_met args.text.now args.at digits.result digits.ensures (roomy args.at (length args.text.now) c.if-not-at_hand.ensures) c.if-count-text.false
    c.if-text-at.false

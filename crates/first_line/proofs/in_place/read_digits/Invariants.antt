-- `first_line::in_place::read_digits` meets its contract: `value` is the number of the first `count` digits.
use Rattle.first_line.proofs.Digits.{Reading}
use Rattle.first_line.proofs.in_place.read_digits.Given as goal

abbrev pub invariant-loop-count : goal.invariant-loop-count
invariant-loop-count l = Reading l.text l.at l.value l.count

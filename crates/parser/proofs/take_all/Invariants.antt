-- `parser::take_all` meets its contract: the fields so far are taken, and each is known.
use Rattle.std.proofs.Common.{◌≡◌}
use Rattle.parser.proofs.Laws.{TakenSoFar}
use Rattle.parser.proofs.take_all.Given as goal

abbrev pub invariant-loop-number : goal.invariant-loop-number
invariant-loop-number l = record { taken : TakenSoFar l.line l.codes l.fields.at l.number; same : l.fields.line.now ≡ l.line }

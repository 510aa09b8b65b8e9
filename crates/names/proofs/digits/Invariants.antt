-- `names::digits` meets its contract: `number` is what the digits so far stand for.
use Rattle.names.proofs.Laws.{Read}
use Rattle.names.proofs.digits.Given as goal

abbrev pub invariant-loop-byte : goal.invariant-loop-byte
invariant-loop-byte l = Read l.field l.number l.byte-index

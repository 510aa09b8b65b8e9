-- `names::digits` meets its contract: one more digit, and all digits.
use Rattle.std.proofs.Common.{arith}
use Rattle.names.proofs.Laws.{read_next, read_end}
use Rattle.names.proofs.digits.Goals as goal

pub loop-byte-preserved : goal.loop-byte-preserved
loop-byte-preserved c = read_next c.loop-byte.invariant c.loop-byte-test.true (omega arith) (omega arith)

pub returns : goal.returns
returns c = read_end c.loop-byte.invariant c.loop-byte-test.false

-- `answers::put_answers` meets its contract: after k answers those stand at the front of the room.
use native.Mathlib.Omega.{arith}
use Rattle.answers.proofs.Laws.{putting_next}
use Rattle.answers.proofs.put_answers.Goals as goal

pub loop-k-preserved : goal.loop-k-preserved
loop-k-preserved c =
    putting_next c.args.numbers.now c.args.room.now c.loop-k.room _ c.loop-k.k _ c.requires.in_room c.loop-k-test.true (omega arith) c.loop-k.invariant c.put_answer.ensures

-- `trace::Trace::judge` meets its contract: after k events each buffer holds what those k leave.
use Rattle.trace.proofs.Loop.{going_next}
use Rattle.trace.proofs.Trace.judge.Goals as goal

pub loop-k-preserved : goal.loop-k-preserved
loop-k-preserved c =
    going_next c.args.self.events.now c.args.self.pairs.now c.args.table.now c.loop-k.invariant c.loop-k-test.true c.judge_on_table-found.ensures

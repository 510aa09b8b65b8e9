-- `trace::Trace::judge` meets its contract: after k events each buffer holds what those k leave.
use Rattle.trace.proofs.Loop.{Going}
use Rattle.trace.proofs.Trace.judge.Given as goal

abbrev pub invariant-loop-k : goal.invariant-loop-k
invariant-loop-k l = Going l.self.events.now l.self.pairs.now l.initial.table l.k l.table l.verdicts l.duties l.afters

-- `lines::line_end` meets its contract: no CR LF stands before the place that is looked at. The measure is what is left to look at.
use Prim.Native.Nat.{◌-◌}
use Rattle.lines.proofs.Laws.{Looked}
use Rattle.lines.proofs.line_end.Given as goal

abbrev pub invariant-loop-at : goal.invariant-loop-at
invariant-loop-at l = Looked l.text l.start l.last l.at

abbrev pub decreases-loop-at : goal.decreases-loop-at
decreases-loop-at l = l.last - l.at

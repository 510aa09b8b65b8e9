-- `trace::Trace::outcome` meets its contract: no event before the place is bad.
use lib.ListN.{length}
use Rattle.event.specs.Refusals.{issue_e}
use Rattle.trace.specs.Refusals.{bad_event}
use Rattle.trace.proofs.Laws.{First}
use Rattle.trace.proofs.Trace.outcome.Given as goal

abbrev pub invariant-loop-place : goal.invariant-loop-place
invariant-loop-place l = First (bad_event issue_e l.self.events.now l.self.pairs.now l.table) (length l.self.pairs.now) l.place

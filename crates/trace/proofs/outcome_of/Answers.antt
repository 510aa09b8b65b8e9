-- `trace::outcome_of` meets its contract: where the lengths fit, the bytes of every event are all there.
use mathlib.Core.Path.{sym, ◌∙◌}
use Rattle.event.specs.Refusals.{issue_e}
use Rattle.trace.specs.Lent.{lent}
use Rattle.trace.proofs.Laws.{whole_events}
use Rattle.trace.proofs.outcome_of.Goals as goal

pub outcome-requires : goal.outcome-requires
outcome-requires c =
    whole_events issue_e (lent c.args.trace.events.now c.args.trace.pairs.now c.args.table.now c.args.verdicts.now c.args.duties.now c.args.afters.now)
    (sym c.lengths_fit.ensures ∙ c.if-not-lengths_fit.false)

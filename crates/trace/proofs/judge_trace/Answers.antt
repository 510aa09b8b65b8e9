-- `trace::judge_trace` meets its contract: refused, nothing is written; accepted, everything is.
use mathlib.Core.Path.{sym, ap}
use Rattle.std.proofs.Common.{rules}
use Rattle.event.specs.Refusals.{issue_e}
use Rattle.trace.specs.Lent.{Lent, Outcome, lent}
use Rattle.trace.proofs.Laws.{left_refused, left_accepted}
use Rattle.trace.proofs.Whole.{ready, accepted_pairs}
use Rattle.trace.proofs.judge_trace.Goals as goal

pub returns-in_err-count : goal.returns-in_err-count
returns-in_err-count c =
    left_refused issue_e
    (lent c.args.events.now c.args.pairs.now c.args.table.now c.args.verdicts.now c.args.duties.now c.args.afters.now)
    c.from_residual.result (search rules) (search rules)

pub judge-requires : goal.judge-requires
judge-requires c =
    ready
    (lent c.args.events.now c.args.pairs.now c.args.table.now c.args.verdicts.now c.args.duties.now c.args.afters.now)
    (sym (ap (λ (o : Outcome). o.number) c.in_ok-count.ensures))

pub returns : goal.returns
returns c =
    let l : Lent = lent c.args.events.now c.args.pairs.now c.args.table.now c.args.verdicts.now c.args.duties.now c.args.afters.now in
    left_accepted issue_e l c.in_ok-count.count _ _ _ _ c.in_ok-count.ensures
    (accepted_pairs issue_e l (sym (ap (λ (o : Outcome). o.number) c.in_ok-count.ensures))) c.judge.ensures

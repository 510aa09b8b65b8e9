-- `lines::line_end` meets its contract: no CR LF stands before the place that is looked at. The measure is what is left to look at.
use mathlib.Core.Path.{sym, ◌∙◌}
use Rattle.lines.proofs.Laws.{looked_start, looked_next, looked_on, past_end}
use Rattle.lines.proofs.line_end.Goals as goal

pub returns-then-text-start : goal.returns-then-text-start
returns-then-text-start c = past_end c.args.text.now c.args.start c.if-text-start.true

pub loop-at-init : goal.loop-at-init
loop-at-init c =
    looked_on (looked_start c.args.text.now c.args.start c.last_seen-last.result c.if-text-start.false c.last_seen-last.ensures) c.next_cr-at.ensures

pub loop-at-preserved : goal.loop-at-preserved
loop-at-preserved c =
    looked_on (looked_next c.loop-at.invariant c.loop-at-test.true (sym c.ends_line.ensures ∙ c.if-ends_line.false)) c.next_cr-at-in-loop-at.ensures

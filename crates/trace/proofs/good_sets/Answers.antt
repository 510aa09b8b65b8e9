-- `trace::good_sets` meets its contract: every set before is good, and those that follow are still to come.
use mathlib.Core.Path.{◌≡◌, sym, ◌∙◌}
use mathlib.Core.List.{◌++◌}
use lib.ListN.{length, drop}
use Rattle.trace.proofs.Laws.{good_more, rest_follows}
use Rattle.trace.proofs.good_sets.Goals as goal

pub loop-eight-preserved : goal.loop-eight-preserved
loop-eight-preserved c =
    let table = c.args.table.now in
    let good = c.loop-eight.good in
    let eight = c.in-Some.eight.now in
    let rest = c.next.new.self.rest.now in
    let there : drop good table ≡ eight ++ rest = sym c.loop-eight.invariant.1 ∙ c.in-Some.ensures.steps.1.0 in
    let long : length eight ≡ 8 = c.in-Some.ensures.steps.1.1 ∙ c.loop-eight.invariant.2 in (
      good_more table eight rest good there long (λ i. (c.type_inv.table i).fits) c.loop-eight.invariant.0 c.word_at.ensures c.if-word_at-ne0.false,
      rest_follows table eight rest good there long,
      c.in-Some.ensures.steps.0 ∙ c.loop-eight.invariant.2,
    )

-- `trace::good_sets` meets its contract: every set before is good, and those that follow are still to come.
use Rattle.std.proofs.Common.{◌≡◌, drop}
use Rattle.trace.specs.Code.{GoodBefore}
use Rattle.trace.proofs.good_sets.Given as goal

abbrev pub invariant-loop-eight : goal.invariant-loop-eight
invariant-loop-eight l =
    GoodBefore l.table l.good × (l.eight-iterator.rest.now ≡ drop l.good l.table) × (l.eight-iterator.size ≡ 8)

-- No more is held than the piece has, and no more is written than the buffer has: laws of the crate `sheet`.
use Rattle.std.proofs.Common.{arith}
use mathlib.Core.Path.{sym}
use lib.Seq.{length-take-le}
use Rattle.sheet.proofs.Laws.{begun_within, turned_within}
use Rattle.judge_sheet.proofs.judge.Goals as goal

pub slice_bounds-out-end : goal.slice_bounds-out-end
slice_bounds-out-end c = (begun_within _ _ (omega arith) c.begin-run.ensures).1

pub slice_bounds-write_out-end : goal.slice_bounds-write_out-end
slice_bounds-write_out-end c = sym (length-take-le _ _ (begun_within _ _ (omega arith) c.begin-run.ensures).1)

pub loop-init : goal.loop-init
loop-init c = omega (arith, (begun_within _ _ (omega arith) c.begin-run.ensures).0)

pub slice_bounds-out-end-in-loop : goal.slice_bounds-out-end-in-loop
slice_bounds-out-end-in-loop c = (turned_within _ _ _ _ _ c.turn-run.ensures).1

pub slice_bounds-write_out-end-in-loop : goal.slice_bounds-write_out-end-in-loop
slice_bounds-write_out-end-in-loop c = sym (length-take-le _ _ (turned_within _ _ _ _ _ c.turn-run.ensures).1)

pub loop-preserved : goal.loop-preserved
loop-preserved c = omega (arith, (turned_within _ _ _ _ _ c.turn-run.ensures).0)

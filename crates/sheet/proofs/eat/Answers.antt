-- `sheet::eat` meets its contract: what is left to eat is what was to be eaten. The measure is the bytes that are held.
use mathlib.Core.Path.{refl, ap}
use mathlib.Core.Bool.{Bool, cond}
use Prim.Native.Nat.{ℕ}
use native.Mathlib.Omega.{arith}
use Rattle.std.proofs.Common.{rules}
use Rattle.sheet.proofs.Laws.{sure_next, next_end, next_said, nothing_left, ended_run, no_room, unsure, eaten_all, eating_next, eating_less, answered_more, refused_more, goes_few, still_going}
use Rattle.sheet.proofs.eat.Goals as goal

pub slice_bounds-judge_line-end : goal.slice_bounds-judge_line-end
slice_bounds-judge_line-end c =
    (next_end c.args.ended c.loop-next.count c.loop-next.taken c.args.piece.now c.in-Some.next c.loop-next.invariant.inside c.in-Some.ensures).1

pub judge_line-requires-clause-said_by : goal.judge_line-requires-clause-said_by
judge_line-requires-clause-said_by c = next_said c.args.ended c.loop-next.count c.args.piece.now c.loop-next.taken c.in-Some.next c.in-Some.ensures

pub returns-in-Err : goal.returns-in-Err
returns-in-Err c =
    let ready = sure_next c.loop-next.invariant c.loop-next-test.true c.if-out-put-ge-ROOM.true c.in-Some.ensures in
    eaten_all (eating_next c.loop-next.invariant (refused_more ready c.in-Some.ensures c.in-Err.ensures c.refuse.ensures (omega arith))) (ended_run _ _ _ refl)

pub overflow_add-count : goal.overflow_add-count
overflow_add-count c =
    search (rules, goes_few c.loop-next.count c.loop-next.table _ c.in-Ok.ensures.goes_so)

pub loop-next-smaller : goal.loop-next-smaller
loop-next-smaller c =
    let ready = sure_next c.loop-next.invariant c.loop-next-test.true c.if-out-put-ge-ROOM.true c.in-Some.ensures in
    let less = eating_less c.loop-next.invariant (answered_more ready c.in-Some.ensures c.in-Ok.ensures) in
    omega (arith, less, ap (λ (b : Bool). cond {A = ℕ} b 1 0) c.loop-next-test.true)

pub loop-next-preserved : goal.loop-next-preserved
loop-next-preserved c =
    let ready = sure_next c.loop-next.invariant c.loop-next-test.true c.if-out-put-ge-ROOM.true c.in-Some.ensures in
    still_going c.loop-next-test.true (eating_next c.loop-next.invariant (answered_more ready c.in-Some.ensures c.in-Ok.ensures))

pub returns-else-out-put-ge-ROOM : goal.returns-else-out-put-ge-ROOM
returns-else-out-put-ge-ROOM c = eaten_all c.loop-next.invariant (no_room c.loop-next.invariant c.if-out-put-ge-ROOM.false)

pub returns-after-loop-next : goal.returns-after-loop-next
returns-after-loop-next c = eaten_all c.loop-next.invariant (ended_run _ _ _ c.loop-next-test.false)

pub returns-then-count-gt0 : goal.returns-then-count-gt0
returns-then-count-gt0 c = eaten_all c.loop-next.invariant (nothing_left c.loop-next.invariant c.if-taken-piece.true c.if-count-gt0.true)

pub returns-in_default : goal.returns-in_default
returns-in_default c = eaten_all c.loop-next.invariant (unsure _ _ _ c.in_default.ensures)

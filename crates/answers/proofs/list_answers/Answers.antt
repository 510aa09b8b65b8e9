-- `answers::list_answers` meets its contract: refused with 4 or 5 at the `?`, with 9 at the `return`, accepted at the end.
use mathlib.Core.Path.{◌≡◌, sym, ap₂}
use mathlib.Core.List.{List}
use native.Mathlib.Omega.{arith}
use Prim.Native.Nat.{◌+◌, ◌-◌, ◌≤◌}
use Rattle.std.proofs.Common.{rules, Err, ℕ, take, drop}
use Rattle.answers.specs.Table.{numbers}
use Rattle.answers.proofs.Laws.{numbers_there, numbers_of_answers}
use Rattle.answers.proofs.Whole.{refused_question, short_room, fitting, accepted_question}
use Rattle.answers.proofs.list_answers.Goals as goal

pub returns-in_err-fault : goal.returns-in_err-fault
returns-in_err-fault c =
    let e : c.from_residual.result ≡ Err c.in_err-fault.field-0.0 = search rules in
    rw e (refused_question c.args.question c.args.room.now c.in_err-fault.field-0.0 c.in_err-fault.ensures)

pub returns-then-room-count : goal.returns-then-room-count
returns-then-room-count c =
    short_room c.args.question c.args.room.now c.span-start.result.0 c.span-start.result.1 (sym c.in_ok-fault.ensures) c.span-start.ensures.start c.span-start.ensures.count c.if-room-count.true

pub overflow_mul-count : goal.overflow_mul-count
overflow_mul-count c =
    let h : c.span-start.result.0 + c.span-start.result.1 ≤ 518 =
    fitting c.args.question c.args.room.now c.span-start.result.0 c.span-start.result.1 (sym c.in_ok-fault.ensures) c.span-start.ensures.start c.span-start.ensures.count in
    omega (arith, h)

pub overflow_add-start : goal.overflow_add-start
overflow_add-start c =
    let h : c.span-start.result.0 + c.span-start.result.1 ≤ 518 =
    fitting c.args.question c.args.room.now c.span-start.result.0 c.span-start.result.1 (sym c.in_ok-fault.ensures) c.span-start.ensures.start c.span-start.ensures.count in
    omega (arith, h)

pub slice_bounds-put_answers-end : goal.slice_bounds-put_answers-end
slice_bounds-put_answers-end c =
    let h : c.span-start.result.0 + c.span-start.result.1 ≤ 518 =
    fitting c.args.question c.args.room.now c.span-start.result.0 c.span-start.result.1 (sym c.in_ok-fault.ensures) c.span-start.ensures.start c.span-start.ensures.count in
    search (rules, h)

pub put_answers-requires-clause-in_table : goal.put_answers-requires-clause-in_table
unfolding numbers
put_answers-requires-clause-in_table c =
    let start = c.span-start.result.0 in
    numbers_of_answers start (start + c.span-start.result.1 - start)

pub returns : goal.returns
returns c =
    let start = c.span-start.result.0 in
    let count = c.span-start.result.1 in
    let many : start + count - start ≡ count = omega arith in
    accepted_question c.args.question c.args.room.now c.span-start.result.0 c.span-start.result.1 (sym c.in_ok-fault.ensures) c.span-start.ensures.start c.span-start.ensures.count _ _ c.if-room-count.false
    (ap₂ (λ (n : ℕ) (l : List ℕ). take n (drop start l)) many numbers_there) c.put_answers.ensures

-- `first_line::any_line` meets its contract: where the line ends, and the line parsed if that is asked for, its end is known and it is not too long.
use Rattle.std.proofs.Common.{refl, sym}
use lib.Seq.{length-take-le}
use Rattle.first_line.proofs.Good.{any_first, end_inside}
use Rattle.first_line.proofs.any_line.Goals as goal

pub returns-then-asked-whole : goal.returns-then-asked-whole
returns-then-asked-whole c =
    let args = c.args in
    any_first args.asked args.ended args.text.now c.line_end-end.ensures c.ends_line-whole.ensures
    (rw c.if-asked-whole.true c.parse_line-line.ensures)

pub returns-else-asked-whole : goal.returns-else-asked-whole
returns-else-asked-whole c =
    let args = c.args in
    any_first args.asked args.ended args.text.now c.line_end-end.ensures c.ends_line-whole.ensures (rw c.if-asked-whole.false refl)

pub slice_bounds-parse_line-end : goal.slice_bounds-parse_line-end
slice_bounds-parse_line-end c =
    let line-end = c.line_end-end in
    let args = c.args in
    sym (length-take-le line-end.result args.text.now (end_inside args.text.now line-end.ensures))

-- `parser::field_at` meets its contract: the field lies within the line.
use Rattle.parser.proofs.Laws.{end_next}
use Rattle.parser.proofs.field_at.Goals as goal

pub slice_bounds-column-count : goal.slice_bounds-column-count
slice_bounds-column-count c = (end_next c.args.line.now c.args.at c.past_end.ensures c.if-past_end.false c.end_of-end.ensures).0

pub slice_bounds-column-start : goal.slice_bounds-column-start
slice_bounds-column-start c = (end_next c.args.line.now c.args.at c.past_end.ensures c.if-past_end.false c.end_of-end.ensures).0

pub slice_bounds-column-end : goal.slice_bounds-column-end
slice_bounds-column-end c = (end_next c.args.line.now c.args.at c.past_end.ensures c.if-past_end.false c.end_of-end.ensures).1

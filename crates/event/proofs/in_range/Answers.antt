-- `event::in_range` meets its contract: each of the two tests is that of eight bytes.
use Rattle.event.proofs.Laws.{in_range_by}
use Rattle.event.proofs.in_range.Goals as goal

pub returns : goal.returns
returns c =
    in_range_by c.args.event.now (λ i. (c.type_inv.event i).fits) c.word_at.result c.word_at-2.result c.word_at.ensures c.word_at-2.ensures

-- `sheet::begin` meets its contract: the table is filled, the header's line is put, and nothing is held.
use Rattle.sheet.proofs.Laws.{begun_is}
use Rattle.sheet.proofs.begin.Goals as goal

pub returns : goal.returns
returns c =
    begun_is c.args.table.now c.args.out.now (c.fill.ensures.after (λ y e. e)) c.put_header-put.ensures c.answer.ensures

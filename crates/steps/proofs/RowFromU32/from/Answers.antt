-- `steps::Row::from` meets its contract.
use Rattle.steps.specs.Code.{row_at}
use Rattle.steps.proofs.RowFromU32.from.Goals as goal

pub returns : goal.returns
unfolding row_at
returns c = cc

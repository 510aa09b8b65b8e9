-- `steps::event_key` meets its contract.
use Rattle.steps.specs.Code.{wire_key}
use Rattle.steps.proofs.event_key.Goals as goal

pub returns : goal.returns
unfolding wire_key
returns c = cc

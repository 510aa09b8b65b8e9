-- `lookup::sets_after` meets its contract: the effect that is looked up, spread over the seven states.
use Rattle.lookup.specs.Code.{effect_of, looked_sets}
use Rattle.lookup.proofs.sets_after.Goals as goal

pub returns : goal.returns
unfolding looked_sets effect_of
returns c = cc

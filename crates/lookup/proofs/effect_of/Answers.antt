-- `lookup::effect_of` meets its contract: it looks up the event's request, flags and packed answer.
use Rattle.lookup.specs.Code.{effect_of}
use Rattle.lookup.proofs.effect_of.Goals as goal

pub returns : goal.returns
unfolding effect_of
returns c = cc

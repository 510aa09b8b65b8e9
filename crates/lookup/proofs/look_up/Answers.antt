-- `lookup::look_up` meets its contract: the entry, and of its three sets of states before the one that holds.
use Rattle.lookup.specs.Code.{looked_up}
use Rattle.lookup.proofs.look_up.Goals as goal

pub returns : goal.returns
unfolding looked_up
returns c = cc

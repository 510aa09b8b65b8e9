-- `lookup::spread` meets its contract: seven sets, each from its own state.
use Rattle.lookup.specs.Code.{spread}
use Rattle.lookup.proofs.spread.Goals as goal

pub returns : goal.returns
unfolding spread
returns c = cc

-- `lookup::packed` meets its contract: the first half, the last one five bits higher, and the error field one bit higher.
use Rattle.lookup.specs.Code.{packed}
use Rattle.lookup.proofs.packed.Goals as goal

pub returns : goal.returns
unfolding packed
returns c = cc

-- `steps::seen_states` meets its contract: an element of the eight sets, and the empty set past them.
use Rattle.std.proofs.Common.{rules}
use Rattle.steps.proofs.Laws.{seen_at}
use Rattle.steps.proofs.seen_states.Goals as goal

pub returns : goal.returns
returns c = search (rules, seen_at c.args.shown.0)

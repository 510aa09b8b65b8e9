-- `sets::holds_dirty` meets its contract: the seven states are asked one by one.
use Rattle.std.proofs.Common.{rules, ◌&&◌}
use Rattle.std.proofs.lemmas.Iterator.{YieldsList-from_slice}
use Rattle.std.proofs.lemmas.Iterator.Search.{any_from_yields_List}
use borrow.Author.Tests.{tests}
use Rattle.kinds.specs.Codes.{dirty}
use Rattle.sets.specs.Sets.{bit}
use Rattle.sets.proofs.holds_dirty.Goals as goal

pub returns : goal.returns
returns c = any_from_yields_List (λ s. dirty s.0 && bit c.args.set s.0) _ _ _ c.any.ensures.ran (YieldsList-from_slice _ c.iter.ensures.rest) (λ x b q k. search (rules, tests))

-- `rows::some_tag` meets its contract: the three tag states are tried one by one.
use Rattle.std.proofs.Common.{rules, ◌&&◌}
use borrow.Author.Tests.{tests}
use Rattle.std.proofs.lemmas.Iterator.{YieldsList-from_slice}
use Rattle.std.proofs.lemmas.Iterator.Search.{any_from_yields_List}
use Rattle.kinds.specs.Codes.{tag_not_seen}
use Rattle.rows.specs.Event.{seen, tag_of}
use Rattle.rows.specs.Permitted.{tagged, some_tag}
use Rattle.rows.proofs.some_tag.Goals as goal

pub returns : goal.returns
unfolding some_tag
returns c =
    any_from_yields_List (λ t. seen tag_not_seen (tag_of c.args.e.now) t.0 && tagged c.args.e.now t.0 c.args.table c.args.before.0 c.args.answer)
    _ _ _ c.any.ensures.ran (YieldsList-from_slice _ c.iter.ensures.rest) (λ x b q k. search (rules, tests))

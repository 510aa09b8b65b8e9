-- `replies::Page::lay` meets its contract: the text is copied.
use Rattle.replies.proofs.Laying.{copied, all_left}
use Rattle.std.proofs.Common.{rules}
use mathlib.Core.Path.{◌∙◌}
use native.Mathlib.Omega.{arith}
use Rattle.replies.proofs.Page.lay.Goals as goal

pub returns-clause-written : goal.returns-clause-written
returns-clause-written c =
    copied _ _ _ c.args.self.now.out.now c.args.text.now _ c.requires (omega arith) (c.copy_from_slice.ensures.after ∙ search (rules, all_left)) (omega arith)

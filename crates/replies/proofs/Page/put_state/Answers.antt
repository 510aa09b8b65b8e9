-- `replies::Page::put_state` meets its contract: a state that is not in the set has no text.
use mathlib.Core.Path.{sym}
use Rattle.replies.proofs.Laying.{lay_nothing}
use Rattle.replies.proofs.Page.put_state.Goals as goal

pub returns-else-has-clause-written : goal.returns-else-has-clause-written
returns-else-has-clause-written c = rw (sym c.if-has.ensures, lay_nothing)

-- `replies::Page::put_last` meets its contract: the states and the end of the line.
use Rattle.replies.proofs.Parts.{ended}
use Rattle.replies.proofs.Page.put_last.Goals as goal

pub returns-clause-written : goal.returns-clause-written
returns-clause-written c = ended _ c.args.states c.put_states.ensures.written c.put.ensures.written

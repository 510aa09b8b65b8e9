-- `replies::Page::put` meets its contract: a text that doesn't fit is left out.
use Rattle.replies.proofs.Laying.{put_short}
use Rattle.replies.proofs.Page.put.Goals as goal

pub returns-else-has_room-clause-written : goal.returns-else-has_room-clause-written
returns-else-has_room-clause-written c =
    put_short _ c.args.self.now.out.now c.args.text.now (λ h. cc (c.if-has_room.ensures.1 h))

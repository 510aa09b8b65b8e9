-- `replies::Page::lay_judged` meets its contract: an explained event has its duty and its states, and one without a duty and a set has one text.
use Rattle.replies.proofs.Laws.{explained_short}
use Rattle.replies.proofs.Laying.{room_left, long_still}
use Rattle.replies.proofs.Parts.{judged_explained, judged_plain}
use Rattle.replies.specs.Laid.{laid}
use Rattle.replies.specs.Replies.{verdict_text, duty_text, states_texts}
use Rattle.replies.specs.Code.{explained_text}
use Rattle.sets.specs.Sets.{bit}
use Rattle.verdicts.specs.Verdicts.{unexplained, not_judged}
use mathlib.Core.Path.{refl}
use native.Mathlib.Omega.{arith}
use Rattle.replies.proofs.Page.lay_judged.Goals as goal

pub lay_states-requires : goal.lay_states-requires
lay_states-requires c =
    let l = laid c.args.self.now.at c.args.self.now.out.now in
    let text = explained_text c.args.found.duty.0 in
    omega (
      arith,
      room_left l text 6 c.lay_explained.ensures.written (omega (arith, explained_short c.args.found.duty.0)),
      long_still l text c.lay_explained.ensures.written,
    )

pub returns-in-EXPLAINED-default-default-clause-written : goal.returns-in-EXPLAINED-default-default-clause-written
returns-in-EXPLAINED-default-default-clause-written c =
    judged_explained _ c.args.found (omega arith) (omega (arith, explained_short c.args.found.duty.0)) c.lay_explained.ensures.written c.lay_states.ensures.written

pub returns-in-UNEXPLAINED-NONE-eq0-clause-written : goal.returns-in-UNEXPLAINED-NONE-eq0-clause-written
unfolding verdict_text duty_text states_texts bit
returns-in-UNEXPLAINED-NONE-eq0-clause-written c =
    judged_plain _ c.args.found unexplained _ (omega arith) (omega arith) (omega arith) refl (omega arith) c.lay.ensures.written

pub returns-in-NOT_JUDGED-NONE-eq0-clause-written : goal.returns-in-NOT_JUDGED-NONE-eq0-clause-written
unfolding verdict_text duty_text states_texts bit
returns-in-NOT_JUDGED-NONE-eq0-clause-written c =
    judged_plain _ c.args.found not_judged _ (omega arith) (omega arith) (omega arith) refl (omega arith) c.lay-in-NOT_JUDGED-NONE-eq0.ensures.written

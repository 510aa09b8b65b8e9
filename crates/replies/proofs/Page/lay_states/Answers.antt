-- `replies::Page::lay_states` meets its contract: four sets have one text each, and any other has its parts.
use Rattle.replies.proofs.Parts.{one_text}
use Rattle.replies.specs.Code.{last_texts}
use Rattle.replies.specs.Replies.{states_texts}
use Rattle.sets.specs.Sets.{bit}
use mathlib.Core.Path.{refl}
use native.Mathlib.Omega.{arith}
use Rattle.replies.proofs.Page.lay_states.Goals as goal

pub returns-in-1-clause-written : goal.returns-in-1-clause-written
unfolding states_texts bit
returns-in-1-clause-written c = one_text _ last_texts 1 _ c.in-1.is refl (omega arith) c.lay.ensures.written

pub returns-in-32-clause-written : goal.returns-in-32-clause-written
unfolding states_texts bit
returns-in-32-clause-written c = one_text _ last_texts 32 _ c.in-32.is refl (omega arith) c.lay-in-32.ensures.written

pub returns-in-33-clause-written : goal.returns-in-33-clause-written
unfolding states_texts bit
returns-in-33-clause-written c = one_text _ last_texts 33 _ c.in-33.is refl (omega arith) c.lay-in-33.ensures.written

pub returns-in-64-clause-written : goal.returns-in-64-clause-written
unfolding states_texts bit
returns-in-64-clause-written c = one_text _ last_texts 64 _ c.in-64.is refl (omega arith) c.lay-in-64.ensures.written

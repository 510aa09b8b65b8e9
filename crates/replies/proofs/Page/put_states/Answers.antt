-- `replies::Page::put_states` meets its contract: the seven states in their order.
use Rattle.replies.proofs.Parts.{states_start, states_next, states_end}
use Rattle.replies.specs.Replies.{states_texts}
use mathlib.Core.Path.{refl, ◌∙◌}
use Rattle.replies.proofs.Page.put_states.Goals as goal

pub loop-state-init : goal.loop-state-init
unfolding states_texts
loop-state-init c = record { same_buffer = refl; states = states_start _ _ _ refl }

pub loop-state-preserved : goal.loop-state-preserved
loop-state-preserved c = record {
  same_buffer = c.put_state.ensures.same_buffer ∙ c.loop-state.invariant.same_buffer;
  states = states_next _ c.loop-state.invariant.states c.loop-state-test.true c.put_state.ensures.written;
}

pub returns-clause-written : goal.returns-clause-written
returns-clause-written c = states_end c.loop-state.invariant.states c.loop-state-test.false

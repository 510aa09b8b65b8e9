-- `replies::Page::put_states` meets its contract: the seven states in their order.
use mathlib.Core.Path.{◌≡◌}
use Rattle.replies.specs.Laid.{laid}
use Rattle.replies.proofs.Parts.{StatesLaid}
use Rattle.replies.proofs.Page.put_states.Given as goal

abbrev pub invariant-loop-state : goal.invariant-loop-state
invariant-loop-state l = record {
  same_buffer : l.self.out.ghost_name ≡ l.initial.self.out.ghost_name;
  states : StatesLaid l.states (laid l.initial.self.at l.initial.self.out.now) l.state-items l.state-index (laid l.self.at l.self.out.now);
}

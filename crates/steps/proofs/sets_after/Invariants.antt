-- `steps::sets_after` meets its contract: the walk along the rows. The invariant: the words are the printed rows, and the sets are what the
-- rows so far lead to; a row with other upper columns than the event's leads nowhere.
use mathlib.Core.Path.{◌≡◌}
use lib.ListN.{take}
use Rattle.rows.specs.Rows.{rows}
use Rattle.steps.specs.Code.{event_bytes}
use Rattle.steps.proofs.Walk.{Printed, walked}
use Rattle.steps.proofs.sets_after.Given as goal

abbrev pub invariant-loop-word : goal.invariant-loop-word
invariant-loop-word l = Printed l.word-items × (l.sets ≡ walked (event_bytes l.event) (take l.word-index rows))

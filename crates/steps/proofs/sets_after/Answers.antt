-- `steps::sets_after` meets its contract: the walk along the rows.
use mathlib.Core.Path.{refl, ◌∙◌}
use Rattle.sets.specs.Sets.{set_of}
use Rattle.rows.specs.Rows.{rows}
use Rattle.steps.specs.Code.{row_at, event_bytes, wire_key}
use Rattle.steps.proofs.Walk.{half, keyed, walk_none, word_before, walk_end}
use Rattle.steps.proofs.Passing.{pass_turn, add_turn}
use Rattle.steps.proofs.sets_after.Goals as goal
use Rattle.steps.proofs.sets_after.Goals.{then-word-key, else-word-key}

pub loop-word-init : goal.loop-word-init
unfolding row_at rows set_of keyed wire_key half
loop-word-init c = (record { same = refl; keys = refl }, walk_none (event_bytes c.args.event.now))

pub bounds-sets-row : goal.bounds-sets-row
bounds-sets-row c = word_before c.loop-word.word-index c.from-row.result c.loop-word.invariant.0 c.loop-word-test.true c.from-row.ensures

pub bounds-sets-row-then-word-key : goal.bounds-sets-row-then-word-key
bounds-sets-row-then-word-key c =
    word_before c.loop-word.word-index c.from-row.result c.loop-word.invariant.0 c.loop-word-test.true c.from-row.ensures

pub loop-word-preserved : goal.loop-word-preserved
loop-word-preserved c = (
  c.loop-word.invariant.0,
  elim c.if-word-key.branch [
    | then-word-key w ↦
        w.sets-is
        ∙ add_turn c.args.event.now c.loop-word.word-index c.event_bytes-e.result c.seen_states-among.result w.from-row.result c.loop-word.sets
        w.row_adds.result c.loop-word.invariant.0 c.loop-word-test.true c.event_bytes-e.ensures c.seen_states-among.ensures w.from-row.ensures
        c.loop-word.invariant.1 w.row_adds.ensures
    | else-word-key w ↦
        w.sets-is
        ∙ pass_turn c.args.event.now c.loop-word.word-index c.event_bytes-e.result c.seen_states-among.result c.event_key-key.result c.loop-word.sets
        c.loop-word.invariant.0 c.loop-word-test.true c.event_bytes-e.ensures c.seen_states-among.ensures c.event_key-key.ensures w.if-word-key.false
        c.loop-word.invariant.1
  ],
)

pub returns : goal.returns
returns c = walk_end c.args.event.now c.loop-word.word-index c.loop-word.sets c.loop-word-test.false c.loop-word.invariant.1

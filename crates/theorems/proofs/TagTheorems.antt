-- The theorems about the tag column (definition 5.9): what data to Home carries, and what narrowing the column of B4.46 changed.
-- Assumes nothing.
use mathlib.Core.Path.{◌≡◌, refl}
use mathlib.Core.Bool.{true, false}
use mathlib.Core.List.{List}
use Prim.Native.Nat.{ℕ, ◌<◌}
-- the definitions that the theorems name
use Rattle.kinds.specs.Tests.{◌∈?◌}
use Rattle.kinds.specs.Codes.{I, UD, tag_dirty, op_invalid, DAT}
use Rattle.rows.specs.declared.Table.TheVariants.{B46}
use Rattle.rows.specs.Event.{request_of, channel_of, tag_op_of}
use Rattle.rows.specs.Rows.{rows}
use Rattle.rows.specs.Permitted.{rules_of, asked, answered, permitted}
use Rattle.event.specs.Refusals.{fault, refusal_alone}
use Rattle.event.specs.Alone.{judged_alone}
use Rattle.verdicts.specs.Verdicts.{unexplained}
use Rattle.trace.specs.Lent.{Lent, count}
use Rattle.histories.specs.Histories.{Reaches, Passes, stopped}
use Rattle.theorems.specs.Alone.{AcceptedEvent, set_from}
use Rattle.theorems.specs.Traces.{Accepted, verdict_at, event_of}
use Rattle.theorems.specs.TagColumn.{ops_on_data, TagsDropped, columns_now, columns_before, permitted_by, unremarked}
-- their proofs
use Rattle.theorems.proofs.Judged.{no_sets}
use Rattle.theorems.proofs.OnTrace.{never_passes}
use Rattle.theorems.proofs.TraceTheorems.{verdict_exact}
use Rattle.theorems.proofs.TagColumn.{carries, never_dropped, no_step, by_now, as_before, narrowed_to}

-- THE COLUMN (definition 5.9): in every permitted step with data to Home, whatever the request, TagOp is one that the tag state allows.
pub tag_column : (e : List ℕ) (t s s' : ℕ) → permitted e t s s' ≡ true → channel_of e ≡ DAT → tag_op_of e ∈? ops_on_data t e ≡ true
tag_column = carries

-- WITH DIRTY TAGS no permitted answer with data to Home carries TagOp Invalid, whatever the request.
pub dirty_tags_carried : (e : List ℕ) (s s' : ℕ) → permitted e tag_dirty s s' ≡ true → channel_of e ≡ DAT → tag_op_of e ≡ op_invalid → ⊥
dirty_tags_carried = never_dropped

-- So an event that drops Dirty tags leads nowhere: judged alone, its seven sets are empty.
pub dropped_no_sets : (e : List ℕ) → TagsDropped e → (s : ℕ) → set_from e s ≡ 0
dropped_no_sets e d = no_sets e (no_step e d)

-- In a trace no history passes it, and it is unexplained as soon as some history reaches it.
pub dropped_stops : (l : Lent) (k : ℕ) → TagsDropped (event_of l k) → Passes l k → ⊥
dropped_stops l k d = never_passes l k (no_step (event_of l k) d)

pub dropped_unexplained : (l : Lent) → Accepted l → (k : ℕ) → k < count l → TagsDropped (event_of l k) → Reaches l k → verdict_at l k ≡ unexplained
dropped_unexplained l ok k h d r = (verdict_exact l ok k h unexplained).1 (stopped r (dropped_stops l k d))

-- THE COLUMNS AS A VALUE: with those that hold, the rows permit what `permitted` says.
pub columns_now_lem : (e : List ℕ) (t s s' : ℕ) → permitted_by columns_now e t s s' ≡ permitted e t s s'
columns_now_lem = by_now

-- NARROWER: every step that is permitted was permitted by the columns before.
pub narrower : (e : List ℕ) (t s s' : ℕ) → permitted e t s s' ≡ true → permitted_by columns_before e t s s' ≡ true
narrower = as_before

-- Only steps with data to Home in answer to a snoop of B4.46 are no longer permitted.
pub narrowed_only : (e : List ℕ) (t s s' : ℕ) → permitted_by columns_before e t s s' ≡ true → permitted e t s s' ≡ false
    → (request_of e ∈? (rules_of B46).asks ≡ true) × (channel_of e ≡ DAT)
narrowed_only = narrowed_to

-- THE LINE THAT WENT UNREMARKED: by the columns before it was a step from UD to I; now it is accepted, and no state explains it.
pub unremarked_before : permitted_by columns_before unremarked tag_dirty UD I ≡ true
unfolding rows asked answered permitted_by
unremarked_before = refl

pub unremarked_now : AcceptedEvent unremarked × ((s : ℕ) → set_from unremarked s ≡ 0)
unfolding fault refusal_alone judged_alone
unremarked_now = (refl, dropped_no_sets unremarked (record { dirty_tags = refl; with_data = refl; invalid = refl }))

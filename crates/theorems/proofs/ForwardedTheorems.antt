-- The theorems about the error field of forwarded data (definition 5.13): what it adds to the rows of before, when an event had 14 bytes.
-- Assumes nothing.
use mathlib.Core.Path.{◌≡◌, sym, ◌∙◌, ap}
use mathlib.Core.Bool.{true, false, cond, ◌&&◌}
use mathlib.Core.List.{List}
use Prim.Native.Nat.{ℕ, ◌*◌, ◌<◌}
use lib.Dec.{eqb}
use lib.ListN.{length}
-- the definitions that the theorems name
use Rattle.kinds.specs.Tests.{◌∈?◌}
use Rattle.kinds.specs.Codes.{OK, DERR}
use Rattle.kinds.specs.Places.{event_length}
use Rattle.rows.specs.Event.{forwarded_of, forwarded_err_of}
use Rattle.rows.specs.Permitted.{permitted}
use Rattle.steps.specs.Steps.{no_duty}
use Rattle.event.specs.Refusals.{issue_e, fault, refusal_alone}
use Rattle.event.specs.Alone.{judged_alone}
use Rattle.verdicts.specs.Verdicts.{unexplained, not_judged, finding}
use Rattle.trace.specs.Lent.{Lent}
use Rattle.trace.specs.Refusals.{outcome}
use Rattle.trace.specs.Given.{bad_lengths}
use Rattle.trace.specs.Judged.{judged}
use Rattle.theorems.specs.Forwarded.{length_before, bytes_before, with_error, errors_for, permitted_before, finding_before, issue_before}
-- their proofs
use Rattle.theorems.proofs.Forwarded.{permitted_split, ok_always, derr_forwarded, permitted_fitting, finding_fitting, permitted_other, finding_other, fault_fitting, old_lengths}
use Rattle.theorems.proofs.Judged.{number_alone}
use Rattle.theorems.proofs.TraceTheorems.{refusal_table}

-- THE NEW BYTE, over the rows: an event is permitted exactly when its 14 bytes were, and its error field is OK or DERR with a forward, 0
-- without one.
pub old_rows_new_byte : (e : List ℕ) (t s s' : ℕ) → permitted e t s s' ≡ permitted_before (bytes_before e) t s s' && (forwarded_err_of e ∈? errors_for e)
old_rows_new_byte = permitted_split

-- OLD EVENTS KEEP THEIR ANSWERS: with 0 in the new byte, which is OK where data is forwarded, an event is refused and judged as its 14 bytes
-- were: the same steps are permitted, and the set after, the verdict and the duty byte are the same for any set before.
pub ok_permitted_as_before : (e : List ℕ) (t s s' : ℕ) → permitted (with_error e OK) t s s' ≡ permitted_before (bytes_before e) t s s'
ok_permitted_as_before e = permitted_fitting (with_error e OK) (ok_always e)

pub ok_found_as_before : (e : List ℕ) (before : ℕ) → finding (with_error e OK) before ≡ finding_before (bytes_before e) before
ok_found_as_before e = finding_fitting (with_error e OK) (ok_always e)

pub refused_as_before : (e : List ℕ) → forwarded_err_of e < 4 → fault issue_e e ≡ fault issue_before (bytes_before e)
refused_as_before = fault_fitting

-- DERR ON THE FORWARDED DATA ALONE is permitted exactly where OK is, and judged alike.
pub derr_permitted_where_ok : (e : List ℕ) (t s s' : ℕ) → eqb (forwarded_of e) 1 ≡ true → permitted (with_error e DERR) t s s' ≡ permitted (with_error e OK) t s s'
derr_permitted_where_ok e t s s' h =
    permitted_fitting (with_error e DERR) (derr_forwarded e h) t s s' ∙ sym (ok_permitted_as_before e t s s')

pub derr_found_as_ok : (e : List ℕ) (before : ℕ) → eqb (forwarded_of e) 1 ≡ true → finding (with_error e DERR) before ≡ finding (with_error e OK) before
derr_found_as_ok e before h = finding_fitting (with_error e DERR) (derr_forwarded e h) before ∙ sym (ok_found_as_before e before)

-- EXOK and NDERR on forwarded data, and 1 to 3 without any, are permitted by no row.
pub other_error_not_permitted : (e : List ℕ) → forwarded_err_of e ∈? errors_for e ≡ false → (t s s' : ℕ) → permitted e t s s' ≡ false
other_error_not_permitted = permitted_other

-- They are not refused (`refused_as_before`): the event is unexplained where some state was possible, and nobody is told of a duty.
pub other_error_unexplained : (e : List ℕ) → forwarded_err_of e ∈? errors_for e ≡ false → (before : ℕ)
    → finding e before ≡ record { after = 0; verdict = record { 0 = cond (eqb before 0) not_judged unexplained }; duty = record { 0 = no_duty } }
other_error_unexplained = finding_other

-- OLD LENGTHS ARE REFUSED, with 1: an event of 14 bytes alone, and every trace of such events with a pair for each.
pub old_event_refused : (e : List ℕ) → length e ≡ length_before → (judged_alone issue_e e).number ≡ 1
unfolding refusal_alone
old_event_refused e h = number_alone e ∙ ap (λ (n : ℕ). cond (eqb n event_length) (fault issue_e e) 1) h

pub old_trace_refused : (l : Lent) (n : ℕ) → 0 < n → length l.events ≡ n * length_before → length l.pairs ≡ n → (judged issue_e l).outcome ≡ outcome 1 0
old_trace_refused l n p h k = (refusal_table l 1 0).1 (bad_lengths (old_lengths l n p h k))

-- The theorems about the three snoops of the bench copy (definition 5.12): SnpMakeInvalid, which throws a Dirty line away on purpose, and what
-- the three leave as it was. The theorem about a history in which a Dirty line is discarded is in TraceTheorems.antt.
-- Assumes nothing.
use mathlib.Core.Path.{◌≡◌, ◌∙◌, ap}
use mathlib.Core.Bool.{true, cond, ◌&&◌}
use mathlib.Core.List.{List}
use Prim.Native.Nat.{ℕ, ◌+◌}
use borrow.Author.Tests.{eqb-true}
-- the definitions that the theorems name
use Rattle.kinds.specs.Tests.{any, ◌∈?◌}
use Rattle.kinds.specs.Codes.{dirty, SnpMakeInvalid}
use Rattle.sets.specs.Sets.{one, holds_dirty}
use Rattle.rows.specs.Event.{request_of}
use Rattle.rows.specs.Permitted.{holds, permitted}
use Rattle.steps.specs.Steps.{Step, duty, discards, no_duty, lost, discarded}
use Rattle.event.specs.Refusals.{issue_e, fault}
use Rattle.verdicts.specs.Verdicts.{finding}
use Rattle.theorems.specs.Alone.{AcceptedEvent, duty_from}
use Rattle.theorems.specs.Duties.{tells_home, tells_requester, non_data_error, makes_invalid}
use Rattle.theorems.specs.Invalidating.{NothingCarried, requests_before, requests_new, rows_new, permitted_before, duty_before, issue_before, finding_before}
-- their proofs
use Rattle.steps.proofs.Stepping.{permitted_before_lem}
use Rattle.theorems.proofs.RowLaw.{row_law, requester_told, make_answer, make_error}
use Rattle.theorems.proofs.Told.{law, make_byte, make_alone}
use Rattle.theorems.proofs.Theorems.{duties_exact}
use Rattle.theorems.proofs.Invalidating.{nothing_carried, discarded_only, new_request, permitted_before_too, duty_before_lem, fault_before, finding_before_lem}

-- SNPMAKEINVALID (definition 5.12): no permitted answer to it carries data or PD.
pub make_invalid_carries_nothing : (e : List ℕ) (t s s' : ℕ) → permitted e t s s' ≡ true → makes_invalid e ≡ true → NothingCarried e
make_invalid_carries_nothing e t s s' h i = nothing_carried e (make_answer e t s s' h (eqb-true (request_of e) SnpMakeInvalid i))

-- Its duty byte is 4, or 3 for a non-data error, exactly when the set before holds a Dirty state, and else 0 (definition 6.3).
pub make_invalid_duty : (e : List ℕ) (t s s' : ℕ) → permitted e t s s' ≡ true → makes_invalid e ≡ true
    → (before : ℕ) → duty e before ≡ cond (holds_dirty before) (cond (non_data_error e) lost discarded) no_duty
make_invalid_duty e t s s' h i before =
    make_byte e before (dirty s) (dirty s') (law e t s s' h) (make_error e t s s' h (eqb-true (request_of e) SnpMakeInvalid i))

-- So the judge says of each state before.
pub make_invalid_alone : (e : List ℕ) → AcceptedEvent e → (s s' : ℕ) → Step e s s' → makes_invalid e ≡ true
    → duty_from e s ≡ cond (dirty s) (cond (non_data_error e) lost discarded) no_duty
make_invalid_alone e h s s' p i =
    duties_exact e h s s' p
    ∙ make_alone e s (dirty s') (law e p.tag s s' p.by_rows) (permitted_before_lem e p.tag s s' p.by_rows)
    (make_error e p.tag s s' p.by_rows (eqb-true (request_of e) SnpMakeInvalid i))

-- 4 is the byte of no other event: the request is SnpMakeInvalid, its answer is OK, and the set before holds a Dirty state.
pub discarded_by_no_other : (e : List ℕ) (before : ℕ) → duty e before ≡ discarded → discards e && holds_dirty before ≡ true
discarded_by_no_other = discarded_only

-- THE ROW LAW: in every permitted step of the ten requests, Dirty before is Dirty after, or exactly one duty leaves: to Home, to the Requester,
-- lost, or discarded.
pub dirty_stays_or_leaves : (e : List ℕ) (t s s' : ℕ) → permitted e t s s' ≡ true
    → one (dirty s)
    ≡ one (dirty s') + (one (tells_home e) + one (tells_requester e) + one (non_data_error e && dirty s) + one (discards e && dirty s))
dirty_stays_or_leaves e t s s' h =
    row_law e t s s' h
    ∙ ap (λ b. one (dirty s') + (one (tells_home e) + one b + one (non_data_error e && dirty s) + one (discards e && dirty s))) (requester_told e t s s' h)

-- WHOSE ROWS: a row of the bench copy permits an event only if its request is one of the three.
pub new_rows_new_requests : (e : List ℕ) (t s s' : ℕ) → any (holds e t s s') rows_new ≡ true → request_of e ∈? requests_new ≡ true
new_rows_new_requests = new_request

-- OLD EVENTS KEEP THEIR ANSWERS: an event whose request is one of the seven is accepted or refused as before, the same steps of it are permitted,
-- its duty is the same, and so are the set after, the verdict and the duty byte that are found for any set before.
pub old_refusal : (e : List ℕ) → request_of e ∈? requests_before ≡ true → fault issue_e e ≡ fault issue_before e
old_refusal = fault_before

pub old_steps : (e : List ℕ) (t s s' : ℕ) → request_of e ∈? requests_before ≡ true → permitted e t s s' ≡ permitted_before e t s s'
old_steps = permitted_before_too

pub old_duty : (e : List ℕ) (before : ℕ) → request_of e ∈? requests_before ≡ true → duty e before ≡ duty_before e before
old_duty = duty_before_lem

pub old_finding : (e : List ℕ) (before : ℕ) → request_of e ∈? requests_before ≡ true → finding e before ≡ finding_before e before
old_finding = finding_before_lem

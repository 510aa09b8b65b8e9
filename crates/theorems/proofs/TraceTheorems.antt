-- The theorems about a whole trace. If you believe the checker, read this file, the definitions that it names, and the `ensures` of
-- `trace::judge_trace`, which says that whatever is lent, the result and the four buffers afterwards are `judged issue_e` of it.
-- Assumes nothing.
use mathlib.Core.Path.{◌≡◌, refl, sym, ◌∙◌, ap, ap₂, subst}
use mathlib.Core.Logic.{◌↔◌, ◌⊎◌}
use mathlib.Core.Bool.{true, false}
use mathlib.Core.List.{List, [], ◌∷◌}
use Prim.Native.Nat.{ℕ, suc, ◌<◌}
use native.Mathlib.Nat.{zero-add}
use native.Mathlib.Omega.{arith}
use lib.ListN.{length}
use Rattle.std.specs.Prelude.{Result}
-- the definitions that the theorems name
use Rattle.kinds.specs.Tests.{all}
use Rattle.kinds.specs.Codes.{dirty}
use Rattle.kinds.specs.Places.{set_in, pair_in}
use Rattle.sets.specs.Sets.{set_of, bit}
use Rattle.rows.specs.Rows.{rows}
use Rattle.rows.specs.Permitted.{asked, answered, tagged, permitted}
use Rattle.steps.specs.Steps.{Step, steps, duty, no_duty, Home, Requester, lost, discarded}
use Rattle.event.specs.Refusals.{issue_e, fault}
use Rattle.verdicts.specs.Verdicts.{after_set, verdict, duty_byte, explained, unexplained, not_judged}
use Rattle.trace.specs.declared.Refused.{Refused}
use Rattle.trace.specs.Lent.{Outcome, Lent, Left, in_numbers, left, count}
use Rattle.trace.specs.Refusals.{outcome, lengths_fit, fault_at, by_events, outcome_of}
use Rattle.trace.specs.Given.{Given}
use Rattle.trace.specs.Judged.{trace, refused_left, accepts, judged}
use Rattle.histories.specs.Histories.{own, first, History, HistoryTo, VerdictGiven}
use Rattle.theorems.specs.Duties.{non_data_error, makes_invalid, HomeHolds, RequesterHolds}
use Rattle.theorems.specs.Traces.{Accepted, verdict_at, duty_at, after_at, set_at_end, pair_of, event_of, DutySaid, DirtyReaches, example, orders, in_order}
-- their proofs
use Rattle.trace.proofs.Laws.{same_numbers}
use Rattle.trace.proofs.Given.{given, gives}
use Rattle.trace.proofs.Whole.{judged_outcome, judged_refused}
use Rattle.histories.proofs.Walk.{walk, walk_empty}
use Rattle.histories.proofs.Own.{own_none}
use Rattle.histories.proofs.At.{set_before, set_below, gives_verdict, own_kept, pair_in_lem}
use Rattle.theorems.proofs.OnTrace.{good, lengths, verdicts_left, verdict_row, empty_after, unreached, end_set, after_byte, verdict_byte, duty_byte_lem, set_byte, read_set, said, silent_byte, handed_over, given_up, lost_at, discarded_at, kept_dirty}

-- ONE OUTCOME (definition 1.8): any two outcomes that the claim allows are equal, in the result and in every byte of the four buffers.
pub one_outcome_of_a_trace : (l : Lent) (r r' : Result ℕ Refused) (t t' v v' d d' a a' : List ℕ) → left (in_numbers r) t v d a ≡ judged issue_e l
    → left (in_numbers r') t' v' d' a' ≡ judged issue_e l → (r ≡ r') × (t ≡ t') × (v ≡ v') × (d ≡ d') × (a ≡ a')
one_outcome_of_a_trace l r r' t t' v v' d d' a a' h h' =
    let same = h ∙ sym h' in (
      same_numbers r r' (ap (λ (x : Left). x.outcome) same),
      ap (λ (x : Left). x.table) same,
      ap (λ (x : Left). x.verdicts) same,
      ap (λ (x : Left). x.duties) same,
      ap (λ (x : Left). x.afters) same,
    )

-- DEMAND 1 (definition 1.5, 4.1): the judge answers a number and a place exactly when the refusal table gives them.
pub refusal_table : (l : Lent) (number place : ℕ) → (judged issue_e l).outcome ≡ outcome number place ↔ Given issue_e l number place
refusal_table l number place = (
  λ h. subst (λ (o : Outcome). Given issue_e l o.number o.place) (sym (judged_outcome issue_e l) ∙ h) (given issue_e l),
  λ g. judged_outcome issue_e l ∙ sym (gives issue_e l g),
)

-- Every call has a row of the table, and only one (definition 1.8, 4.2).
pub some_row : (l : Lent) → Given issue_e l (judged issue_e l).outcome.number (judged issue_e l).outcome.place
some_row l = (refusal_table l (judged issue_e l).outcome.number (judged issue_e l).outcome.place).0 refl

pub one_row : (l : Lent) (n p n' p' : ℕ) → Given issue_e l n p → Given issue_e l n' p' → (n ≡ n') × (p ≡ p')
one_row l n p n' p' g g' =
    let same = gives issue_e l g ∙ sym (gives issue_e l g') in
    (ap (λ (o : Outcome). o.number) same, ap (λ (o : Outcome). o.place) same)

-- A refused trace leaves all buffers as they were (definition 3.5).
pub refused_untouched : (l : Lent) → (Accepted l → ⊥) → judged issue_e l ≡ refused_left (judged issue_e l).outcome l
refused_untouched l h =
    judged_refused issue_e l (λ z. h (ap (λ (o : Outcome). o.number) (judged_outcome issue_e l) ∙ z))
    ∙ ap (λ (o : Outcome). refused_left o l) (sym (judged_outcome issue_e l))

module _ (l : Lent) (ok : Accepted l) where
  -- An accepted trace leaves a set for each pair, and a verdict, a duty byte and an after-set for each event (definition 3.4).
  pub lengths_left : (length (judged issue_e l).table ≡ length l.table)
      × (length (judged issue_e l).verdicts ≡ count l)
      × (length (judged issue_e l).duties ≡ count l)
      × (length (judged issue_e l).afters ≡ count l)
  lengths_left = lengths l ok

  -- DEMAND 3 (definition 1.7, 7.3): the after-set of every event holds exactly the states in which a history that passes the event ends.
  pub afters_exact : (k : ℕ) → k < count l → (s : ℕ) → bit (after_at l k) s ≡ true ↔ HistoryTo l (pair_of l k) (suc k) s
  afters_exact k h s = read_set l (pair_of l k) (suc k) s (after_at l k) (after_byte l ok k h)

  -- The same for each pair at the end (definition 3.4).
  pub table_exact : (p : ℕ) → p < length l.table → (s : ℕ) → bit (set_at_end l p) s ≡ true ↔ HistoryTo l p (count l) s
  table_exact p h s = read_set l p (count l) s (set_at_end l p) (end_set l ok p h)

  -- Each of these sets holds only states of the seven.
  pub afters_below : (k : ℕ) → k < count l → after_at l k < 128
  afters_below k h =
      subst (λ (m : ℕ). m < 128) (sym (after_byte l ok k h)) (set_below issue_e l (good l ok) (pair_of l k) (suc k) (pair_in_lem issue_e l (good l ok) k h))

  pub table_below : (p : ℕ) → p < length l.table → set_at_end l p < 128
  table_below p h = subst (λ (m : ℕ). m < 128) (sym (end_set l ok p h)) (set_below issue_e l (good l ok) p (count l) h)

  -- THE VERDICT (definition 7.3): explained exactly when some history passes the event, unexplained exactly when some history reaches it
  -- and none passes it, not judged exactly when none reaches it.
  pub verdict_exact : (k : ℕ) → k < count l → (v : ℕ) → verdict_at l k ≡ v ↔ VerdictGiven l k v
  verdict_exact k h v = (
    λ q. subst (VerdictGiven l k) q (verdict_row l ok k h),
    λ g. verdicts_left l ok k ∙ gives_verdict issue_e l (good l ok) k h g,
  )

  -- AFTER AN UNEXPLAINED EVENT (definition 7.4) its pair's set stays empty to the end, and the pair's later events are not judged.
  pub emptied : (k : ℕ) → k < count l → verdict_at l k ≡ unexplained → after_at l k ≡ 0
  emptied k h v = after_byte l ok k h ∙ empty_after l ok k h v (suc k) (omega arith)

  pub empty_later : (k : ℕ) → k < count l → verdict_at l k ≡ unexplained → (j : ℕ) → k < j → j < count l → pair_of l j ≡ pair_of l k
      → (verdict_at l j ≡ not_judged) × (after_at l j ≡ 0)
  empty_later k h v j later inside same = (
    unreached l ok j inside (ap (λ (p : ℕ). set_before l p j) same ∙ empty_after l ok k h v j later),
    after_byte l ok j inside ∙ ap (λ (p : ℕ). set_before l p (suc j)) same ∙ empty_after l ok k h v (suc j) (omega arith),
  )

  pub empty_at_end : (k : ℕ) → k < count l → verdict_at l k ≡ unexplained → set_at_end l (pair_of l k) ≡ 0
  empty_at_end k h v = end_set l ok (pair_of l k) (pair_in_lem issue_e l (good l ok) k h) ∙ empty_after l ok k h v (count l) h

  -- A pair that starts with the empty set is already lost: none of its events is judged (definition 4.4).
  pub lost_from_the_start : (k : ℕ) → k < count l → set_in l.table (pair_of l k) ≡ 0 → verdict_at l k ≡ not_judged
  lost_from_the_start k h z =
      unreached l ok k h (ap (λ (m : ℕ). walk m (own (pair_of l k) (first l k))) z ∙ walk_empty (own (pair_of l k) (first l k)))

  -- OTHER PAIRS' EVENTS (definition 7.5) change nothing: a pair that no event names keeps its set. (More below.)
  pub unnamed_keeps : (p : ℕ) → p < length l.table → ((k : ℕ) → k < count l → pair_of l k ≡ p → ⊥) → set_at_end l p ≡ set_in l.table p
  unnamed_keeps p h none =
      end_set l ok p h
      ∙ ap (walk (set_in l.table p)) (own_none l.events l.pairs p 0 (count l) (λ k b e. none k b (ap (pair_in l.pairs) (sym (zero-add k)) ∙ e)))

  -- DUTY (definition 6.3, 6.4): an explained event has the duty byte of 6.3, and any other event has 0.
  pub duty_said : (k : ℕ) → k < count l → verdict_at l k ≡ explained → DutySaid l k (duty_at l k)
  duty_said = said l ok

  pub duty_silent : (k : ℕ) → k < count l → (verdict_at l k ≡ explained → ⊥) → duty_at l k ≡ no_duty
  duty_silent = silent_byte l ok

  -- DEMAND 2 IN A TRACE (definition 1.6): if some history passes an event in which a Dirty line ends not Dirty, which is no non-data error,
  -- and whose request is not SnpMakeInvalid, the duty byte is 1 or 2 and names the one that is told.
  pub duty_handed_over : (k : ℕ) → k < count l → (s s' : ℕ) → HistoryTo l (pair_of l k) k s → Step (event_of l k) s s'
      → dirty s ≡ true → dirty s' ≡ false → non_data_error (event_of l k) ≡ false → makes_invalid (event_of l k) ≡ false
      → HomeHolds (event_of l k) (duty_at l k) ⊎ RequesterHolds (event_of l k) (duty_at l k)
  duty_handed_over = handed_over l ok

  -- If the duty byte is 1 or 2, every history that passes the event gives up a Dirty line in it, it is no non-data error, and its request
  -- is not SnpMakeInvalid.
  pub duty_given_up : (k : ℕ) → k < count l → (s s' : ℕ) → HistoryTo l (pair_of l k) k s → Step (event_of l k) s s'
      → (duty_at l k ≡ Home) ⊎ (duty_at l k ≡ Requester)
      → (dirty s ≡ true) × (dirty s' ≡ false) × (non_data_error (event_of l k) ≡ false) × (makes_invalid (event_of l k) ≡ false)
  duty_given_up = given_up l ok

  -- If some history passes a non-data error, the duty byte is 3 exactly when some history reaches it with a Dirty line (definition 6.3).
  pub duty_lost_in_trace : (k : ℕ) → k < count l → (s s' : ℕ) → HistoryTo l (pair_of l k) k s → Step (event_of l k) s s'
      → non_data_error (event_of l k) ≡ true → (duty_at l k ≡ lost) ↔ DirtyReaches l k
  duty_lost_in_trace = lost_at l ok

  -- If some history passes SnpMakeInvalid that is no non-data error, the duty byte is 4 exactly when some history reaches it with a Dirty
  -- line (definition 6.3). So for a history in which a Dirty line is discarded, the byte says so.
  pub duty_discarded_in_trace : (k : ℕ) → k < count l → (s s' : ℕ) → HistoryTo l (pair_of l k) k s → Step (event_of l k) s s'
      → makes_invalid (event_of l k) ≡ true → non_data_error (event_of l k) ≡ false → (duty_at l k ≡ discarded) ↔ DirtyReaches l k
  duty_discarded_in_trace = discarded_at l ok

  -- If the duty byte is 0, no history that passes the event gives up a Dirty line in it.
  pub duty_kept_lem : (k : ℕ) → k < count l → (s s' : ℕ) → HistoryTo l (pair_of l k) k s → Step (event_of l k) s s'
      → duty_at l k ≡ no_duty → dirty s ≡ true → dirty s' ≡ true
  duty_kept_lem = kept_dirty l ok

-- OTHER PAIRS' EVENTS AGAIN (definition 7.2): an event of another pair leaves a pair's histories as they were.
pub others_no_part : (l : Lent) (p k : ℕ) → (pair_of l k ≡ p → ⊥) → (s : ℕ) → HistoryTo l p (suc k) s ↔ HistoryTo l p k s
others_no_part l p k h s = (
  λ x. subst (λ es. History (set_in l.table p) es s) (own_kept l p k h) x,
  λ x. subst (λ es. History (set_in l.table p) es s) (sym (own_kept l p k h)) x,
)

-- If two traces have the same events of a pair and the same starting set for it, they leave it the same set, whatever else they hold.
pub same_events_same_set : (l l' : Lent) → Accepted l → Accepted l' → (p : ℕ) → p < length l.table → p < length l'.table
    → set_in l.table p ≡ set_in l'.table p → own p (trace l) ≡ own p (trace l') → set_at_end l p ≡ set_at_end l' p
same_events_same_set l l' ok ok' p h h' start events = end_set l ok p h ∙ ap₂ walk start events ∙ sym (end_set l' ok' p h')

-- Two events with the same bytes get the same verdict, duty byte and after-set, in any two traces, if their pairs start with the same
-- set and had the same events before.
pub same_events_same_bytes : (l l' : Lent) (ok : Accepted l) (ok' : Accepted l') (k k' : ℕ) → k < count l → k' < count l'
    → set_in l.table (pair_of l k) ≡ set_in l'.table (pair_of l' k')
    → own (pair_of l k) (first l k) ≡ own (pair_of l' k') (first l' k')
    → event_of l k ≡ event_of l' k'
    → (verdict_at l k ≡ verdict_at l' k') × (duty_at l k ≡ duty_at l' k') × (after_at l k ≡ after_at l' k')
same_events_same_bytes l l' ok ok' k k' h h' start events same =
    let before = ap₂ walk start events in (
      verdict_byte l ok k h ∙ ap₂ verdict same before ∙ sym (verdict_byte l' ok' k' h'),
      duty_byte_lem l ok k h ∙ ap₂ duty_byte same before ∙ sym (duty_byte_lem l' ok' k' h'),
      set_byte l ok k h ∙ ap₂ after_set same before ∙ sym (set_byte l' ok' k' h'),
    )

-- THE EXAMPLE SHEET (definition 8.11): explained and Home, explained, unexplained, not judged; {I, SC} twice, then the empty set.
pub example_as_trace : judged issue_e example
    ≡ left (outcome 0 4) (0 ∷ [])
    (explained ∷ explained ∷ unexplained ∷ not_judged ∷ [])
    (Home ∷ no_duty ∷ no_duty ∷ no_duty ∷ [])
    (33 ∷ 33 ∷ 0 ∷ 0 ∷ [])
unfolding set_of bit rows asked answered tagged permitted steps duty fault after_set verdict duty_byte lengths_fit fault_at by_events outcome_of accepts judged
example_as_trace = refl

-- THE ORDER OF THE REFUSALS (definition 4.2), in cases to which more than one row applies.
pub refusal_order : all in_order orders ≡ true
unfolding set_of bit rows asked answered tagged permitted steps duty fault after_set verdict duty_byte lengths_fit fault_at by_events outcome_of accepts judged
refusal_order = refl

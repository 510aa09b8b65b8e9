-- The theorems about one event alone. If you believe the checker, read this file, the definitions that it names, and the `ensures` of
-- `event::judge_event`, which says that the judge answers any bytes with `judged_alone issue_e` of them.
-- Assumes nothing.
use mathlib.Core.Path.{◌≡◌, refl, sym, ◌∙◌, ap, subst}
use mathlib.Core.Logic.{◌↔◌, ◌⊎◌}
use mathlib.Core.Bool.{true, false, cond, not, ◌&&◌, false≢true}
use mathlib.Core.List.{List}
use Prim.Native.Nat.{ℕ, ◌^◌, ◌<◌}
use native.Mathlib.Omega.{arith}
use borrow.Author.Tests.{eq-eqb, ne_eqb}
use lib.Dec.{eqb}
use Rattle.std.specs.Prelude.{Result, ⊤}
use lib.ListN.{length, get_or}
use Rattle.kinds.specs.Tests.{all}
use Rattle.kinds.specs.Codes.{I, UC, UD, SC, states, dirty, Resp_SC, Resp_SC_PD, NDERR, OK, op_invalid, tag_invalid, SnpClean, SnpShared, SnpCleanFwd, SnpPreferUniqueFwd}
use Rattle.kinds.specs.Answers.{SnpResp_I, SnpResp_SC, SnpRespData_SC_PD, SnpRespData_SC_Fwded_SD_PD, SnpResp_SC_Fwded_SC}
use Rattle.sets.specs.Sets.{set_of, bit, holds_dirty}
use Rattle.rows.specs.Rows.{rows}
use Rattle.rows.specs.Permitted.{asked, answered, tagged, permitted}
use Rattle.steps.specs.Steps.{Step, steps, set_after, sets_after, duty, no_duty, Home, Requester, lost}
use Rattle.steps.proofs.Stepping.{permitted_before_lem, permitted_after, in_set_step, step_in_set}
use Rattle.kinds.proofs.Lists.{at_state}
use Rattle.kinds.proofs.Refusals.{one_to_one, same_number_of}
use Rattle.event.proofs.Laws.{same_numbers}
use Rattle.kinds.specs.declared.Refusal.{Refusal}
use Rattle.kinds.specs.Refusals.{refusal_number, number_of}
use Rattle.kinds.specs.declared.Duty.{Duty}
use Rattle.kinds.specs.declared.Resp.{Resp}
use Rattle.kinds.specs.declared.FwdState.{FwdState}
use Rattle.kinds.specs.declared.RespErr.{RespErr}
use Rattle.kinds.specs.declared.PairNumber.{PairNumber}
use Rattle.event.specs.Refusals.{issue_e, fault, refusal_alone}
use Rattle.event.specs.declared.Judgment.{Judgment}
use Rattle.event.specs.Alone.{Alone, in_numbers, accepted_alone, refused_alone, judged_alone}
use Rattle.theorems.specs.Alone.{AcceptedEvent, set_from, duty_from}
use Rattle.theorems.specs.Notebook.{event, entries, right}
use Rattle.theorems.specs.Duties.{non_data_error, makes_invalid, HomeHolds, RequesterHolds, NobodyTold, DataIsDuty, SCIsKept, B60Alone, NderrFromUDIllegal}
use Rattle.theorems.proofs.Told.{law, only, only_number, other_request, exactly_one, nobody, nobody_alone, lost_alone, byte_exactly}
use Rattle.theorems.proofs.Judged.{answer_alone, by_answer, number_alone, each_at, zero_at, set_after_below, duty_of_step, duty_of_none}

-- DEMAND 1, ONE EVENT (definition 1.5, 1.8): any two outcomes that the claim of `event::judge_event` allows are equal.
pub one_outcome : (bytes : List ℕ) (r r' : Result Judgment Refusal) → in_numbers r ≡ judged_alone issue_e bytes → in_numbers r' ≡ judged_alone issue_e bytes
    → r ≡ r'
one_outcome bytes r r' h h' = same_numbers r r' (h ∙ sym h')

-- The same for every claim that gives the whole result, and for claims that give the number inside a type with nothing else in it.
pub one_result : {A : Type 0} (claimed r r' : A) → r ≡ claimed → r' ≡ claimed → r ≡ r'
one_result = only

pub one_refusal : (claimed : ℕ) (r r' : Refusal) → refusal_number r ≡ claimed → refusal_number r' ≡ claimed → r ≡ r'
one_refusal claimed r r' h h' = one_to_one (h ∙ sym h')

pub one_fault : (claimed : ℕ) (r r' : Result ⊤ Refusal) → number_of r ≡ claimed → number_of r' ≡ claimed → r ≡ r'
one_fault claimed r r' h h' = same_number_of r r' (h ∙ sym h')

pub one_duty : (claimed : ℕ) (r r' : Duty) → r.0 ≡ claimed → r'.0 ≡ claimed → r ≡ r'
one_duty = only_number (λ k. k.0) (λ n. record { 0 = n }) (λ k. refl)

pub one_resp : (claimed : ℕ) (r r' : Resp) → r.0 ≡ claimed → r'.0 ≡ claimed → r ≡ r'
one_resp = only_number (λ k. k.0) (λ n. record { 0 = n }) (λ k. refl)

pub one_fwd_state : (claimed : ℕ) (r r' : FwdState) → r.0 ≡ claimed → r'.0 ≡ claimed → r ≡ r'
one_fwd_state = only_number (λ k. k.0) (λ n. record { 0 = n }) (λ k. refl)

pub one_error : (claimed : ℕ) (r r' : RespErr) → r.0 ≡ claimed → r'.0 ≡ claimed → r ≡ r'
one_error = only_number (λ k. k.0) (λ n. record { 0 = n }) (λ k. refl)

pub one_pair_number : (claimed : ℕ) (r r' : PairNumber) → r.0 ≡ claimed → r'.0 ≡ claimed → r ≡ r'
one_pair_number = only_number (λ k. k.0) (λ n. record { 0 = n }) (λ k. refl)

-- The refusal number is the one that `refusal_alone` computes (definition 4.3).
pub number_answer : (e : List ℕ) → (judged_alone issue_e e).number ≡ refusal_alone issue_e e
number_answer e = number_alone e

-- An accepted event is answered with place 1, its seven sets and its seven duties (definition 3.1).
pub accepted_answer : (e : List ℕ) → AcceptedEvent e → judged_alone issue_e e ≡ accepted_alone e
accepted_answer e h = answer_alone e true (eq-eqb (refusal_alone issue_e e) 0 (sym (number_alone e) ∙ h))

-- A refused event is answered with its number, place 0, seven empty sets and seven duties 0 (definition 3.2).
pub refused_answer : (e : List ℕ) → (AcceptedEvent e → ⊥) → judged_alone issue_e e ≡ refused_alone (refusal_alone issue_e e)
refused_answer e h = answer_alone e false (ne_eqb (refusal_alone issue_e e) 0 (λ z. h (number_alone e ∙ z)))

-- Whatever the bytes, there are seven sets and seven duties.
pub seven_answered : (e : List ℕ) → (length (judged_alone issue_e e).sets ≡ 7) × (length (judged_alone issue_e e).duties ≡ 7)
seven_answered e = by_answer e (λ j. (length j.sets ≡ 7) × (length j.duties ≡ 7)) (refl, refl) (refl, refl)

-- Each set holds only states of the seven.
pub sets_below : (e : List ℕ) (s : ℕ) → set_from e s < 128
sets_below e s =
    by_answer e (λ j. get_or j.sets s 0 < 128)
    (each_at (λ m. m < 128) (set_after e) states (omega arith) (set_after_below e) s)
    (each_at (λ m. m < 128) (λ n. 0) states (omega arith) (λ x. omega arith) s)

-- If the event is refused, each set is empty and each duty is 0 (definition 3.2).
pub refused_empty : (e : List ℕ) → (AcceptedEvent e → ⊥) → (s : ℕ) → (set_from e s ≡ 0) × (duty_from e s ≡ no_duty)
refused_empty e h s = (
  ap (λ (j : Alone). get_or j.sets s 0) (refused_answer e h) ∙ zero_at s,
  ap (λ (j : Alone). get_or j.duties s 0) (refused_answer e h) ∙ zero_at s,
)

-- DEMAND 2, THE SETS (definition 1.6, 6.2): a state after is in the set of a state before exactly when the event is a step between them,
-- with the tag state and the state after that were seen, or any.
pub sets_exact : (e : List ℕ) → AcceptedEvent e → (s s' : ℕ) → s < 7 → s' < 7 → bit (set_from e s) s' ≡ true ↔ Step e s s'
sets_exact e h s s' k l =
    (λ b. in_set_step e s s' k l (sym answered_so ∙ b), λ p. answered_so ∙ step_in_set e s s' p)
  where
    answered_so : bit (set_from e s) s' ≡ bit (get_or (sets_after e) s 0) s'
    answered_so = ap (λ (j : Alone). bit (get_or j.sets s 0) s') (accepted_answer e h)

-- The duty for a state before is the duty byte judged from that state alone, if there is a step from it (definition 6.5).
pub duties_exact : (e : List ℕ) → AcceptedEvent e → (s s' : ℕ) → Step e s s' → duty_from e s ≡ duty e (2 ^ s)
duties_exact e h s s' p = ap (λ (j : Alone). get_or j.duties s 0) (accepted_answer e h) ∙ duty_of_step e s s' p

-- No step leaves the seven states.
pub within_states : (e : List ℕ) (t s s' : ℕ) → permitted e t s s' ≡ true → (s < 7) × (s' < 7)
within_states e t s s' h = (permitted_before_lem e t s s' h, permitted_after e t s s' h)

-- DEMAND 2, THE DUTY (definition 1.6, 6.6): in every step in which a Dirty line ends not Dirty, which is no non-data error, and whose
-- request is not SnpMakeInvalid, exactly one of Home and Requester is told that it has the duty, and the judge's duty byte says which.
pub duty_clause : (e : List ℕ) → AcceptedEvent e → (s s' : ℕ) → Step e s s' → dirty s ≡ true → dirty s' ≡ false → non_data_error e ≡ false
    → makes_invalid e ≡ false → HomeHolds e (duty_from e s) ⊎ RequesterHolds e (duty_from e s)
duty_clause e h s s' p d d' n i =
    subst (λ (x : ℕ). HomeHolds e x ⊎ RequesterHolds e x) (sym (duties_exact e h s s' p))
    (exactly_one e (dirty s) (dirty s') (law e p.tag s s' p.by_rows) d d' n i (2 ^ s))

-- The converse, again for any request but SnpMakeInvalid: no other step hands over a duty. Nobody is told, and the byte is 3 for a non-data
-- error from a Dirty state, else 0. What holds for SnpMakeInvalid is in InvalidatingTheorems.antt.
pub duty_converse : (e : List ℕ) → AcceptedEvent e → (s s' : ℕ) → Step e s s' → dirty s && not (dirty s') && not (non_data_error e) ≡ false
    → makes_invalid e ≡ false → NobodyTold e (dirty s) (duty_from e s)
duty_converse e h s s' p k i =
    subst (NobodyTold e (dirty s)) (sym (duties_exact e h s s' p))
    (nobody_alone e s (dirty s') (law e p.tag s s' p.by_rows) (permitted_before_lem e p.tag s s' p.by_rows) k i)

-- Both hold for every permitted step, with any bytes, any tag state and any set before.
pub duty_permitted : (e : List ℕ) (t s s' : ℕ) → permitted e t s s' ≡ true → dirty s ≡ true → dirty s' ≡ false → non_data_error e ≡ false
    → makes_invalid e ≡ false → (before : ℕ) → HomeHolds e (duty e before) ⊎ RequesterHolds e (duty e before)
duty_permitted e t s s' h = exactly_one e (dirty s) (dirty s') (law e t s s' h)

pub duty_permitted_converse : (e : List ℕ) (t s s' : ℕ) → permitted e t s s' ≡ true → dirty s && not (dirty s') && not (non_data_error e) ≡ false
    → makes_invalid e ≡ false → (before : ℕ) → NobodyTold e (holds_dirty before) (duty e before)
duty_permitted_converse e t s s' h k i = nobody e (dirty s) (dirty s') (law e t s s' h) k (other_request e i)

-- A non-data error loses the duty of a Dirty line, and of no other line, whatever the request (definition 6.3).
pub duty_lost : (e : List ℕ) → AcceptedEvent e → (s s' : ℕ) → Step e s s' → non_data_error e ≡ true → duty_from e s ≡ cond (dirty s) lost no_duty
duty_lost e h s s' p n =
    duties_exact e h s s' p
    ∙ lost_alone e s (dirty s') (law e p.tag s s' p.by_rows) (permitted_before_lem e p.tag s s' p.by_rows) n

-- In every step, whatever the request, the duty byte is not 0 exactly when the state before is Dirty and the state after is not.
pub duty_exactly : (e : List ℕ) → AcceptedEvent e → (s s' : ℕ) → Step e s s' → eqb (duty_from e s) no_duty ≡ not (dirty s && not (dirty s'))
duty_exactly e h s s' p =
    ap (λ (d : ℕ). eqb d no_duty) (duties_exact e h s s' p)
    ∙ byte_exactly e s (dirty s') (law e p.tag s s' p.by_rows) (permitted_before_lem e p.tag s s' p.by_rows)

-- If there is no step, the duty byte is 0 (definition 6.5).
pub duties_silent : (e : List ℕ) (s : ℕ) → s < 7 → ((s' : ℕ) → Step e s s' → ⊥) → duty_from e s ≡ no_duty
duties_silent e s k none = by_answer e (λ j. get_or j.duties s 0 ≡ no_duty) (duty_of_none e s k none) (at_state (λ n. 0) s k)

-- ENTRIES a TO n of the notebook, all in one list (definition 9.1).
pub notebook : all right entries ≡ true
unfolding set_of bit rows asked answered tagged permitted steps set_after duty fault refusal_alone judged_alone
notebook = refl

-- THE WRONG READINGS (definition 9.2): each one is refuted.
pub data_is_not_duty : DataIsDuty → ⊥
unfolding bit rows asked answered tagged permitted duty
data_is_not_duty reading =
    let e = event SnpCleanFwd 1 0 0 tag_invalid SnpRespData_SC_Fwded_SD_PD op_invalid OK in
    let wrong : ◌≡◌ {A = ℕ} Requester Home = reading e tag_invalid UD SC refl refl refl refl in
    omega arith

pub SC_is_not_kept : SCIsKept Resp_SC → ⊥
unfolding rows asked answered tagged permitted
SC_is_not_kept reading =
    let e = event SnpClean 0 0 0 tag_invalid SnpResp_SC op_invalid OK in
    let wrong : ◌≡◌ {A = ℕ} I SC = reading e tag_invalid UC I refl refl in
    omega arith

pub SC_PD_is_not_kept : SCIsKept Resp_SC_PD → ⊥
unfolding rows asked answered tagged permitted
SC_PD_is_not_kept reading =
    let e = event SnpClean 0 0 0 tag_invalid SnpRespData_SC_PD op_invalid OK in
    let wrong : ◌≡◌ {A = ℕ} I SC = reading e tag_invalid UD I refl refl in
    omega arith

pub B60_is_not_alone : B60Alone → ⊥
unfolding rows asked answered tagged permitted
B60_is_not_alone reading =
    let e = event SnpPreferUniqueFwd 0 0 0 tag_invalid SnpResp_SC_Fwded_SC op_invalid OK in
    let wrong : false ≡ true = reading e tag_invalid UC SC refl refl refl refl in
    false≢true wrong

pub NDERR_from_UD_is_legal : NderrFromUDIllegal → ⊥
unfolding rows asked answered tagged permitted
NDERR_from_UD_is_legal reading = reading (event SnpShared 0 0 0 tag_invalid SnpResp_I op_invalid NDERR) tag_invalid I refl refl

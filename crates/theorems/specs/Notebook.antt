-- Entries a to n of the notebook as data, one line per entry (definition 9.1).
use Rattle.std.specs.Prelude.{ℕ, Bool, ◌&&◌, List, [], ◌∷◌, eqb, get_or}
use Rattle.kinds.specs.Tests.{◌∈?◌}
use Rattle.kinds.specs.Codes.{I, UC, UD, SC, SD, state_not_seen, tag_invalid, tag_dirty, op_invalid, op_transfer, op_update, OK, NDERR, SnpShared, SnpClean, SnpCleanFwd, SnpPreferUniqueFwd}
use Rattle.kinds.specs.declared.Answer.{Answer}
use Rattle.kinds.specs.Answers.{wire, forward_of, forward_error, SnpResp_I, SnpResp_SC, SnpRespData_SD, SnpResp_SC_Fwded_SD_PD, SnpRespData_SC_PD_Fwded_SC, SnpResp_I_Fwded_UC, SnpResp_SC_Fwded_SC}
use Rattle.sets.specs.Sets.{set_of}
use Rattle.steps.specs.Steps.{no_duty, Home, Requester, lost}
use Rattle.event.specs.Refusals.{issue_e}
use Rattle.event.specs.Alone.{judged_alone}
use Rattle.theorems.specs.Alone.{set_from, duty_from}

-- An event from its fields: request, RetToSrc, DoNotGoToSD, excl, tag state, answer with its forward, TagOp, RespErr, state after. The error
-- field of forwarded data is as the answer has it.
abbrev pub event_to : ℕ → ℕ → ℕ → ℕ → ℕ → Answer → ℕ → ℕ → ℕ → List ℕ
event_to request ret noSD excl tag a op err stateAfter =
    request ∷
    ret ∷
    noSD ∷
    excl ∷
    tag ∷
    get_or (wire a) 0 0 ∷
    get_or (wire a) 1 0 ∷
    get_or (wire a) 2 0 ∷
    get_or (wire a) 3 0 ∷
    op ∷
    err ∷
    get_or (wire a) 4 0 ∷
    get_or (wire a) 5 0 ∷
    stateAfter ∷
    forward_error (forward_of a) ∷
    []

-- the same with a state after that was not seen
abbrev pub event : ℕ → ℕ → ℕ → ℕ → ℕ → Answer → ℕ → ℕ → List ℕ
event request ret noSD excl tag a op err = event_to request ret noSD excl tag a op err state_not_seen

-- An entry: the event, the state before, the states after, the duty.
pub record Entry : Type 0 where
  pub bytes : List ℕ
  pub before : ℕ
  pub states_after : List ℕ
  pub duty : ℕ

abbrev entry : List ℕ → ℕ → List ℕ → ℕ → Entry
entry e s after d = record { bytes = e; before = s; states_after = after; duty = d }

abbrev pub entries : List Entry
entries =
    -- a
    entry (event SnpClean 0 0 0 tag_invalid SnpResp_SC op_invalid OK) UC (I ∷ SC ∷ []) no_duty ∷
    -- b
    entry (event SnpShared 1 0 0 tag_invalid SnpResp_SC op_invalid OK) SC [] no_duty ∷
    -- c
    entry (event SnpShared 0 0 0 tag_invalid SnpRespData_SD op_invalid OK) UD (SD ∷ []) no_duty ∷
    -- d
    entry (event SnpShared 0 1 0 tag_invalid SnpRespData_SD op_invalid OK) UD [] no_duty ∷
    -- e
    entry (event SnpCleanFwd 0 0 0 tag_invalid SnpResp_SC_Fwded_SD_PD op_invalid OK) UD (I ∷ SC ∷ []) Requester ∷
    -- f
    entry (event SnpCleanFwd 0 0 0 tag_dirty SnpResp_SC_Fwded_SD_PD op_invalid OK) UD [] no_duty ∷
    -- g
    entry (event SnpCleanFwd 0 0 0 tag_dirty SnpRespData_SC_PD_Fwded_SC op_update OK) SD (I ∷ SC ∷ []) Home ∷
    -- h
    entry (event SnpCleanFwd 0 0 0 tag_dirty SnpRespData_SC_PD_Fwded_SC op_transfer OK) SD [] no_duty ∷
    -- i
    entry (event SnpPreferUniqueFwd 0 0 0 tag_invalid SnpResp_I_Fwded_UC op_invalid OK) UC (I ∷ []) no_duty ∷
    -- j
    entry (event SnpPreferUniqueFwd 0 0 1 tag_invalid SnpResp_I_Fwded_UC op_invalid OK) UC [] no_duty ∷
    -- k
    entry (event SnpPreferUniqueFwd 0 0 0 tag_invalid SnpResp_SC_Fwded_SC op_invalid OK) UC (SC ∷ []) no_duty ∷
    -- l
    entry (event SnpShared 0 0 0 tag_invalid SnpResp_I op_invalid OK) UD [] no_duty ∷
    -- m
    entry (event SnpShared 0 0 0 tag_invalid SnpResp_I op_invalid NDERR) UD (I ∷ []) lost ∷
    -- n
    entry (event SnpClean 0 0 0 tag_dirty SnpResp_I op_invalid OK) UC [] no_duty ∷
    []

-- the judge accepts the event, and answers for the state before with the entry's states after and its duty
abbrev pub right : Entry → Bool
right n =
    eqb (judged_alone issue_e n.bytes).number 0
    && eqb (judged_alone issue_e n.bytes).place 1
    && eqb (set_from n.bytes n.before) (set_of (λ s. s ∈? n.states_after))
    && eqb (duty_from n.bytes n.before) n.duty

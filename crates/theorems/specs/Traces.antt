-- The answer to a whole trace, as the theorems name it (definition 3.4).
use Rattle.std.specs.Prelude.{ℕ, ◌≡◌, Bool, true, ◌&&◌, List, [], ◌∷◌, ◌++◌, eqb, get_or}
use Rattle.kinds.specs.Codes.{I, all_states, dirty, tag_invalid, op_invalid, OK, SnpShared, SnpClean}
use Rattle.kinds.specs.Answers.{SnpResp_I, SnpRespData_SC, SnpRespData_SD, SnpRespData_SC_PD}
use Rattle.kinds.specs.Places.{pair_in, event_in}
use Rattle.event.specs.Refusals.{issue_e}
use Rattle.trace.specs.Lent.{Lent, lent}
use Rattle.trace.specs.Judged.{judged}
use Rattle.histories.specs.Histories.{HistoryTo, DutyIs}
use Rattle.theorems.specs.Notebook.{event, event_to}

-- the trace is accepted: its refusal number is 0
abbrev pub Accepted : Lent → Type 0
Accepted l = (judged issue_e l).outcome.number ≡ 0

-- the verdict of event k
abbrev pub verdict_at : Lent → ℕ → ℕ
verdict_at l k = get_or (judged issue_e l).verdicts k 0

-- the duty byte of event k
abbrev pub duty_at : Lent → ℕ → ℕ
duty_at l k = get_or (judged issue_e l).duties k 0

-- the after-set of event k
abbrev pub after_at : Lent → ℕ → ℕ
after_at l k = get_or (judged issue_e l).afters k 0

-- the set of pair p at the end
abbrev pub set_at_end : Lent → ℕ → ℕ
set_at_end l p = get_or (judged issue_e l).table p 0

-- the pair of event k
abbrev pub pair_of : Lent → ℕ → ℕ
pair_of l k = pair_in l.pairs k

-- the bytes of event k
abbrev pub event_of : Lent → ℕ → List ℕ
event_of l k = event_in l.events k

-- d is the duty byte of event k (definition 6.3), where the set before holds exactly the states in which histories reach it
abbrev pub DutySaid : Lent → ℕ → ℕ → Type 0
DutySaid l k d = DutyIs (HistoryTo l (pair_of l k) k) (event_of l k) d

-- a history reaches event k with a Dirty line
pub record DirtyReaches (l : Lent) (k : ℕ) : Type 0 where
  pub state : ℕ
  pub is_dirty : dirty state ≡ true
  pub history : HistoryTo l (pair_of l k) k state

-- The example sheet as a trace (definition 8.11): one pair, from all seven states; on the last line the state after was seen, I.
abbrev example_events : List ℕ
example_events =
    event SnpShared 0 0 0 tag_invalid SnpRespData_SC_PD op_invalid OK
    ++ event SnpShared 1 0 0 tag_invalid SnpRespData_SC op_invalid OK
    ++ event SnpClean 0 0 0 tag_invalid SnpRespData_SD op_invalid OK
    ++ event_to SnpClean 0 0 0 tag_invalid SnpResp_I op_invalid OK I

-- the buffers lent with them; the bytes 9 in the outputs have to be overwritten
abbrev pub example : Lent
example = lent example_events (0 ∷ 0 ∷ 0 ∷ 0 ∷ []) (all_states ∷ []) (9 ∷ 9 ∷ 9 ∷ 9 ∷ []) (9 ∷ 9 ∷ 9 ∷ 9 ∷ []) (9 ∷ 9 ∷ 9 ∷ 9 ∷ [])

-- Buffers to which more than one row of the refusal table applies, and the number and place that are given (definition 4.2).
pub record Order : Type 0 where
  pub lends : Lent
  pub number : ℕ
  pub place : ℕ

-- a good event, an event with a bad byte, and an event with a bad byte and a bad request
abbrev good_event : List ℕ
good_event = event SnpShared 0 0 0 tag_invalid SnpResp_I op_invalid OK

abbrev bad_byte : List ℕ
bad_byte = event SnpShared 2 0 0 tag_invalid SnpResp_I op_invalid OK

abbrev bad_both : List ℕ
bad_both = event 3 2 0 0 tag_invalid SnpResp_I op_invalid OK

-- two events on a table of two pairs
abbrev two : List ℕ → List ℕ → ℕ → ℕ → ℕ → ℕ → ℕ → ℕ → Order
two e e' p p' m m' number place =
    record { lends = lent (e ++ e') (p ∷ p' ∷ []) (m ∷ m' ∷ []) (9 ∷ 9 ∷ []) (9 ∷ 9 ∷ []) (9 ∷ 9 ∷ []); number = number; place = place }

abbrev pub orders : List Order
orders =
    -- a byte too many, a bad set, a bad event: 1
    two (9 ∷ good_event) bad_both 0 9 127 128 1 0 ∷
    -- two bad sets, and a bad pair number, byte and request in event 0: 2, at the lower pair
    two bad_both good_event 9 0 255 128 2 0 ∷
    -- only the second set is bad: 2
    two bad_both good_event 9 0 127 128 2 1 ∷
    -- a bad byte in event 0 before a bad pair number in event 1: 4
    two bad_byte good_event 0 2 127 127 4 0 ∷
    -- all three in event 1: 3
    two good_event bad_both 0 2 127 127 3 1 ∷
    -- a bad byte and a bad request in event 1: 4
    two good_event bad_both 0 1 127 127 4 1 ∷
    -- nothing bad: accepted, two events
    two good_event good_event 0 1 127 127 0 2 ∷
    []

-- the outcome is as the case says
abbrev pub in_order : Order → Bool
in_order o = eqb (judged issue_e o.lends).outcome.number o.number && eqb (judged issue_e o.lends).outcome.place o.place

-- When a trace is refused, with which number and which place, as functions that compute (definition 4.1, 4.2).
use Rattle.std.specs.Prelude.{ℕ, zero, suc, ◌%◌, Bool, cond, not, ◌&&◌, List, eqb, leb, ltb, length}
use Rattle.kinds.specs.Codes.{all_states}
use Rattle.kinds.specs.Places.{event_length, most_events, most_pairs, set_in, pair_in, event_in}
use Rattle.event.specs.Refusals.{Issue, fault}
use Rattle.trace.specs.Lent.{Lent, Outcome, count}

-- the outcome with this refusal number and this place
abbrev pub outcome : ℕ → ℕ → Outcome
outcome number place = record { number = number; place = place }

-- whole events, not too many events or pairs, and the other buffers n long
unfoldable pub lengths_fit : Lent → Bool
lengths_fit l =
    eqb (length l.events % event_length) 0
    && leb (count l) most_events
    && leb (length l.table) most_pairs
    && eqb (length l.pairs) (count l)
    && eqb (length l.verdicts) (count l)
    && eqb (length l.duties) (count l)
    && eqb (length l.afters) (count l)

-- the first of the n numbers from k on that passes the test; k + n if none does
abbrev pub first_from : (ℕ → Bool) → ℕ → ℕ → ℕ
first_from p k zero = k
first_from p k (suc n) = cond (p k) k (first_from p (suc k) n)

-- a set above 127; the empty set is allowed (definition 4.4)
abbrev pub is_bad_set : ℕ → Bool
is_bad_set states = ltb all_states states

-- pair p has a bad set
abbrev pub bad_set_at : List ℕ → ℕ → Bool
bad_set_at table p = is_bad_set (set_in table p)

-- 3 for a pair number that is not below the table's length, then 4 or 5 for the event's bytes, else 0
unfoldable pub fault_at : Issue → List ℕ → List ℕ → List ℕ → ℕ → ℕ
fault_at issue events pairs table k = cond (ltb (pair_in pairs k) (length table)) (fault issue (event_in events k)) 3

-- event k is refused
abbrev pub bad_event : Issue → List ℕ → List ℕ → List ℕ → ℕ → Bool
bad_event issue events pairs table k = not (eqb (fault_at issue events pairs table k) 0)

-- the lowest pair with a bad set; the number of pairs if there is none
abbrev pub lowest_bad_set : List ℕ → ℕ
lowest_bad_set table = first_from (bad_set_at table) 0 (length table)

-- the first event that is refused; the number of events if there is none
abbrev pub first_bad_event : Issue → List ℕ → List ℕ → List ℕ → ℕ
first_bad_event issue events pairs table = first_from (bad_event issue events pairs table) 0 (length pairs)

-- the outcome of the events: the first one that is refused, or accepted with place n
unfoldable pub by_events : Issue → List ℕ → List ℕ → List ℕ → Outcome
by_events issue events pairs table =
    let k = first_bad_event issue events pairs table in
    cond (ltb k (length pairs)) (outcome (fault_at issue events pairs table k) k) (outcome 0 (length pairs))

-- the outcome: 1 first, then 2 over the whole table, then event by event (definition 4.2)
unfoldable pub outcome_of : Issue → Lent → Outcome
outcome_of issue l =
    cond (lengths_fit l)
    (cond (ltb (lowest_bad_set l.table) (length l.table))
    (outcome 2 (lowest_bad_set l.table))
    (by_events issue l.events l.pairs l.table))
    (outcome 1 0)

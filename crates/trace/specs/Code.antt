-- What private functions compute. No public claim names this file.
use Rattle.std.specs.Prelude.{ℕ, ◌+◌, ◌*◌, ◌<◌, ◌≤◌, ◌≡◌, false, List, length}
use Rattle.kinds.specs.Places.{event_length, most_events, set_in, pair_in, event_in}
use Rattle.event.specs.Refusals.{issue_e, fault}
use Rattle.verdicts.specs.Verdicts.{after_set, verdict, duty_byte, finding}
use Rattle.verdicts.specs.declared.Finding.{Finding}
use Rattle.trace.specs.Refusals.{bad_set_at}
use Rattle.trace.specs.Events.{event_at, events_from, moved, run, outputs}

-- the first p sets of the table are good
pub record GoodBefore (table : List ℕ) (p : ℕ) : Type 0 where
  pub within : p ≤ length table
  pub good : (q : ℕ) → q < p → bad_set_at table q ≡ false

-- the bytes of event k are all in the buffer
abbrev pub Whole : List ℕ → ℕ → Type 0
Whole events k = k * event_length + event_length ≤ length events

-- there are not too many events, and the bytes of each are all in the buffer
pub record WholeEvents (events pairs : List ℕ) : Type 0 where
  pub few : length pairs ≤ most_events
  pub whole : length pairs * event_length ≤ length events

-- event k is not refused: its bytes are all there, the table has its pair, and its bytes have no fault
pub record Good (events pairs table : List ℕ) (k : ℕ) : Type 0 where
  pub whole : Whole events k
  pub has_pair : pair_in pairs k < length table
  pub no_fault : fault issue_e (event_in events k) ≡ 0

-- no event is refused, and the three output buffers have one byte for each
pub record Ready (events pairs table verdicts duties afters : List ℕ) : Type 0 where
  pub few : length pairs ≤ most_events
  pub verdicts_fit : length verdicts ≡ length pairs
  pub duties_fit : length duties ≡ length pairs
  pub afters_fit : length afters ≡ length pairs
  pub good : (k : ℕ) → k < length pairs → Good events pairs table k

-- event k judged: what is found, and the table after it
pub record OnTable (events pairs : List ℕ) (k : ℕ) (table : List ℕ) (found : Finding) (table' : List ℕ) : Type 0 where
  pub is_found : found ≡ finding (event_in events k) (set_in table (pair_in pairs k))
  pub in_table : table' ≡ moved table (event_at events pairs k)

-- the four buffers after all events
pub record AllJudged (events pairs table table' verdicts' duties' afters' : List ℕ) : Type 0 where
  pub in_table : table' ≡ run table (events_from events pairs 0 (length pairs))
  pub in_verdicts : verdicts' ≡ outputs verdict table (events_from events pairs 0 (length pairs))
  pub in_duties : duties' ≡ outputs duty_byte table (events_from events pairs 0 (length pairs))
  pub in_afters : afters' ≡ outputs after_set table (events_from events pairs 0 (length pairs))

-- The refusal table, row by row (definition 4.1), and its order (4.2).
use Rattle.std.specs.Prelude.{ℕ, ◌%◌, ◌<◌, ◌≤◌, ◌≡◌, true, length}
use Rattle.kinds.specs.Tests.{◌∈?◌}
use Rattle.kinds.specs.Codes.{all_states}
use Rattle.kinds.specs.Places.{event_length, most_events, most_pairs, set_in, pair_in, event_in}
use Rattle.rows.specs.Event.{request_of}
use Rattle.event.specs.Refusals.{Issue, below}
use Rattle.trace.specs.Lent.{Lent, count}

-- row 1 does not apply: whole events, not too many events or pairs, and the other buffers n long
pub record Fits (l : Lent) : Type 0 where
  pub whole : length l.events % event_length ≡ 0
  pub few_events : count l ≤ most_events
  pub few_pairs : length l.table ≤ most_pairs
  pub pairs_fit : length l.pairs ≡ count l
  pub verdicts_fit : length l.verdicts ≡ count l
  pub duties_fit : length l.duties ≡ count l
  pub afters_fit : length l.afters ≡ count l

-- row 2 does not apply to pair p: its set is at most 127
abbrev pub SetGood : Lent → ℕ → Type 0
SetGood l p = set_in l.table p ≤ all_states

-- row 3 does not apply to event k: its pair number is below the table's length
abbrev pub PairGood : Lent → ℕ → Type 0
PairGood l k = pair_in l.pairs k < length l.table

-- row 4 does not apply to event k: each byte from 1 to 14 is in its range
abbrev pub BytesGood : Issue → Lent → ℕ → Type 0
BytesGood issue l k = below (event_in l.events k) 1 issue.limits ≡ true

-- row 5 does not apply to event k: its request is one of the ten
abbrev pub RequestGood : Issue → Lent → ℕ → Type 0
RequestGood issue l k = request_of (event_in l.events k) ∈? issue.requests ≡ true

-- none of rows 3, 4 and 5 applies to event k
pub record EventGood (issue : Issue) (l : Lent) (k : ℕ) : Type 0 where
  pub pair_good : PairGood l k
  pub bytes_good : BytesGood issue l k
  pub request_good : RequestGood issue l k

-- no row applies to the lengths, to a set, or to an event before k
pub record GoodSoFar (issue : Issue) (l : Lent) (k : ℕ) : Type 0 where
  pub fits : Fits l
  pub sets_good : (p : ℕ) → p < length l.table → SetGood l p
  pub events_good : (j : ℕ) → j < k → EventGood issue l j

-- THE TABLE: each number with its place, and exactly when it is given. (`A → ⊥` says that A does not hold.)
pub data Given (issue : Issue) (l : Lent) : ℕ → ℕ → Type 0 where
  accepted : GoodSoFar issue l (count l) → Given issue l 0 (count l)
  bad_lengths : (Fits l → ⊥) → Given issue l 1 0
  bad_set : {p : ℕ} → Fits l → ((q : ℕ) → q < p → SetGood l q) → p < length l.table → (SetGood l p → ⊥) → Given issue l 2 p
  bad_pair : {k : ℕ} → GoodSoFar issue l k → k < count l → (PairGood l k → ⊥) → Given issue l 3 k
  bad_byte : {k : ℕ} → GoodSoFar issue l k → k < count l → PairGood l k → (BytesGood issue l k → ⊥) → Given issue l 4 k
  bad_request : {k : ℕ} → GoodSoFar issue l k → k < count l → PairGood l k → BytesGood issue l k → (RequestGood issue l k → ⊥) → Given issue l 5 k

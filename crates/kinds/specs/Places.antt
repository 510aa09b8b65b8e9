-- The sizes of the lent buffers, and where a pair's set, an event's pair and an event's bytes stand in them (definition 3.3).
use Rattle.std.specs.Prelude.{ℕ, ◌*◌, List, get_or, take, drop}

-- the length of an event in bytes
abbrev pub event_length : ℕ
event_length = 15

-- the most events of a trace
abbrev pub most_events : ℕ
most_events = 4096

-- the most pairs of a table of sets; a sheet has exactly as many (definition 8.5)
abbrev pub most_pairs : ℕ
most_pairs = 65536

-- the highest pair number on a sheet
abbrev pub highest_pair : ℕ
highest_pair = 65535

-- the set of a pair in the table of sets; the empty set if the table does not have the pair
abbrev pub set_in : List ℕ → ℕ → ℕ
set_in table pair = get_or table pair 0

-- the pair of event k; pair 0 past the end
abbrev pub pair_in : List ℕ → ℕ → ℕ
pair_in pairs k = get_or pairs k 0

-- the 15 bytes of event k, from offset 15k
abbrev pub event_in : List ℕ → ℕ → List ℕ
event_in events k = take event_length (drop (k * event_length) events)

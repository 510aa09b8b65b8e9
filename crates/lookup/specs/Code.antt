-- What is looked up for an event, and what it says. That it says what the rows permit is `says_so` in proofs/Says.antt.
use Rattle.std.specs.Prelude.{ℕ, ◌+◌, ◌*◌, ◌/◌, ◌%◌, ◌^◌, cond, List, [], ◌∷◌, map, get_or, eqb}
use Rattle.std.specs.Int.Bits.{bit_and}
use Rattle.kinds.specs.Tests.{◌∈?◌}
use Rattle.kinds.specs.Codes.{states, state_not_seen}
use Rattle.sets.specs.Sets.{set_of, bit}
use Rattle.words.specs.Words.{half}
use Rattle.rows.specs.Event.{request_of, state_after_of, forwarded_err_of, seen}
use Rattle.steps.specs.Steps.{no_duty, lost, discarded}
use Rattle.lookup.specs.Table.{factor, slots, starts, choices, entries}

-- the slot of a packed answer: bits 24 to 31 of its product with the factor, counted from 256 on
abbrev pub slot_of : ℕ → ℕ
slot_of answer = answer % 2 ^ 32 * factor / 2 ^ 24 % 256 + 256

-- the kind of a packed answer, by what its slot has
abbrev pub kind_in : ℕ → ℕ → ℕ
kind_in slot answer = cond (eqb (slot % 2 ^ 32) answer) (slot / 2 ^ 32) 0

-- the kind of a packed answer; 0 if no row has it
unfoldable pub kind_of : ℕ → ℕ
kind_of answer = kind_in (get_or slots (slot_of answer) 0) answer

-- what brings the flags of a snoop together in bits 24 to 28
abbrev pub gather : ℕ
gather = 2 ^ 3 + 2 ^ 10 + 2 ^ 17 + 2 ^ 24

-- the context, from the flags of the snoop: RetToSrc, DoNotGoToSD, excl and tag state, the lowest first
abbrev pub context_of : ℕ → ℕ
context_of flags = flags % 2 ^ 32 * gather / 2 ^ 24 % 32

-- an effect, from the entry and which of its sets of states before holds
abbrev pub effect_in : ℕ → ℕ → ℕ
effect_in entry choice = entry / 2 ^ (choice * 8) % 256 + entry / 2 ^ 32 * 256

-- the entry for a request and a kind of answer
abbrev pub entry_of : ℕ → ℕ → ℕ
entry_of request kind = get_or entries ((get_or starts (request % 32) 0 + kind) % 512) 0

-- which of the three sets of states before holds for a kind of answer, by the flags of the snoop
abbrev pub choice_of : ℕ → ℕ → ℕ
choice_of kind flags = get_or choices kind 0 / 2 ^ (context_of flags * 2) % 4

-- the effect of a kind of answer
abbrev pub effect_by : ℕ → ℕ → ℕ → ℕ
effect_by request flags kind = effect_in (entry_of request kind) (choice_of kind flags)

-- the effect, by request, flags of the snoop and packed answer
unfoldable pub looked_up : ℕ → ℕ → ℕ → ℕ
looked_up request flags answer = effect_by request flags (kind_of answer % 32)

-- the answer's nine bytes packed into 32 bits: the first four, the next four five bits higher, and the error field of the forwarded data one
-- bit higher, where no field in range meets another
unfoldable pub packed : List ℕ → ℕ
packed e = half e 5 % 2 ^ 32 + half e 9 % 2 ^ 32 * 32 + forwarded_err_of e * 2

-- the effect of an event
unfoldable pub effect_of : List ℕ → ℕ
effect_of e = looked_up (request_of e) (half e 1) (packed e)

-- Of an effect, a byte each: the states before from which the event is a step, the states after, and the duty.
abbrev pub from : ℕ → ℕ
from n = n % 256

abbrev pub to : ℕ → ℕ
to n = n / 256 % 256

abbrev pub told : ℕ → ℕ
told n = n / 65536 % 256

-- the duty from a set without a Dirty state: nothing is lost or discarded
abbrev pub without_dirty : ℕ → ℕ
without_dirty duty = cond (duty ∈? (lost ∷ discarded ∷ [])) no_duty duty

-- an effect spread over the seven states before: its states after that are among those seen, from each state that it has
unfoldable pub spread : ℕ → ℕ → List ℕ
spread n among = map (λ s. cond (bit (from n) s) (bit_and (to n) among) 0) states

-- the states after that the event may have, as a set
abbrev pub seen_after : List ℕ → ℕ
seen_after e = set_of (seen state_not_seen (state_after_of e % 8))

-- for each of the seven states before, the set of states after
unfoldable pub looked_sets : List ℕ → List ℕ
looked_sets e = spread (effect_of e) (seen_after e)

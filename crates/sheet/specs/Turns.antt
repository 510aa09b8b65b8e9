-- A run turn by turn: what `begin` and `turn` leave, whatever is lent, and what the program writes with them (definition 8.9).
use Rattle.std.specs.Prelude.{ℕ, ◌+◌, ◌≡◌, Bool, true, false, not, ◌&&◌, ◌||◌, List, [], ◌++◌, eqb, ltb, length, take, drop, replicate}
use Rattle.kinds.specs.Codes.{all_states}
use Rattle.lines.specs.Seen.{too_long}
use Rattle.replies.specs.Laid.{laid, lay}
use Rattle.replies.specs.Replies.{header_line}
use Rattle.sheet.specs.declared.Carried.{Carried}
use Rattle.sheet.specs.declared.Turned.{Turned}
use Rattle.sheet.specs.Pieces.{Held, held, eaten}

-- with this many bytes held, the next line can be judged, whatever follows
abbrev pub enough : ℕ
enough = too_long + 1

-- a read is wanted: the input has not ended, and too few bytes are held
abbrev pub wanted : Carried → Bool
wanted c = not c.ended && ltb c.held enough

-- the run is over: a refusal ended it, or the input has ended, nothing is held, and at least one line was taken
abbrev pub is_over : Carried → Bool
is_over c = not c.going || (c.ended && (eqb c.held 0 && ltb 0 c.lines))

-- the result of a turn that keeps c and has put `put` bytes into the output buffer
abbrev pub answer_with : Carried → ℕ → Turned
answer_with c put = record { carried = c; put = put; wants = wanted c; over = is_over c }

-- what `begin` leaves: its result, and the two lent buffers
pub record Begun : Type 0 where
  pub answer : Turned
  pub table : List ℕ
  pub out : List ℕ

abbrev pub begun_with : Turned → List ℕ → List ℕ → Begun
begun_with answer table out = record { answer = answer; table = table; out = out }

-- nothing is read yet
abbrev pub nothing_yet : Carried
nothing_yet = record { held = 0; lines = 0; going = true; ended = false }

-- THE WHOLE ANSWER OF `begin`: every pair has the set of all seven states, and the output's header is written
unfoldable pub begun : List ℕ → List ℕ → Begun
begun table out =
    begun_with (answer_with nothing_yet (lay (laid 0 out) header_line).at) (replicate (length table) all_states) (lay (laid 0 out) header_line).out

-- what `turn` leaves: its result, and the three lent buffers
pub record TurnLeft : Type 0 where
  pub answer : Turned
  pub piece : List ℕ
  pub table : List ℕ
  pub out : List ℕ

abbrev pub turn_left : Turned → List ℕ → List ℕ → List ℕ → TurnLeft
turn_left answer piece table out = record { answer = answer; piece = piece; table = table; out = out }

-- some bytes at the front of a buffer, with the rest of the buffer unchanged
abbrev pub in_front : List ℕ → List ℕ → List ℕ
in_front s buffer = s ++ drop (length s) buffer

-- the input has ended: it had ended before, or a read was wanted and brought nothing
abbrev pub ended_by : Carried → ℕ → Bool
ended_by c got = c.ended || (wanted c && eqb got 0)

-- what is kept of a run between two turns
abbrev pub carried_of : Bool → Held → Carried
carried_of ended h = record { held = length h.rest; lines = h.lines; going = h.going; ended = ended }

-- what a turn leaves if it ends with this run
abbrev pub turn_left_by : Bool → List ℕ → List ℕ → Held → TurnLeft
turn_left_by ended piece out h = turn_left (answer_with (carried_of ended h) (length h.text)) (in_front h.rest piece) h.table (in_front h.text out)

-- THE WHOLE ANSWER OF `turn`, after `got` bytes arrived behind those held: all held lines are judged, as far as they are known and fit
unfoldable pub turned : Carried → ℕ → List ℕ → List ℕ → List ℕ → TurnLeft
turned c got piece table out =
    turn_left_by (ended_by c got) piece out (eaten (ended_by c got) (length out) (held (take (c.held + got) piece) c.lines table c.going))

-- `Turns a piece table out input written`: after a call with result a that left these buffers, the program writes `written` for this input
pub data Turns : Turned → List ℕ → List ℕ → List ℕ → List ℕ → List ℕ → Type 0 where
  -- the run is over: the output buffer is written, and nothing more
  last : {a : Turned} {piece table out input : List ℕ} → a.over ≡ true → Turns a piece table out input (take a.put out)
  -- the run is not over: the output buffer is written, bytes arrive behind those held, and `turn` is called; bytes arrive only if a read is
  -- wanted, and a wanted read brings none only at the end of the input
  more : {a : Turned} {piece table out input written : List ℕ} (arrived piece' : List ℕ) (r : TurnLeft) → a.over ≡ false
      → take (a.carried.held + length arrived) piece' ≡ take a.carried.held piece ++ arrived
      → (a.wants ≡ false → arrived ≡ [])
      → (a.wants ≡ true → arrived ≡ [] → input ≡ [])
      → r ≡ turned a.carried (length arrived) piece' table out
      → Turns r.answer r.piece r.table r.out input written
      → Turns a piece table out (arrived ++ input) (take a.put out ++ written)

-- after such a call, with this input to come, there are turns to the end of the run
pub record SomeTurns (a : Turned) (piece table out input : List ℕ) : Type 0 where
  pub written : List ℕ
  pub turns : Turns a piece table out input written

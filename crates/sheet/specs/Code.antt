-- What private functions compute. No public claim names this file.
use Rattle.std.specs.Prelude.{ℕ, ◌+◌, ◌-◌, ◌≤◌, ◌<◌, ◌≡◌, Bool, true, false, List, ◌++◌, Option, Some, None, Result, Ok, Err, ltb, length, take, drop}
use Rattle.kinds.specs.declared.Refusal.{Refusal}
use Rattle.kinds.specs.Refusals.{refusal_number}
use Rattle.lines.specs.Seen.{longest, too_long, reach}
use Rattle.parser.specs.declared.Line.{Line}
use Rattle.parser.specs.Parsed.{in_numbers, parsed}
use Rattle.first_line.specs.First.{first_line}
use Rattle.sheet.specs.declared.Next.{Next}
use Rattle.sheet.specs.declared.Eaten.{Eaten}
use Rattle.sheet.specs.Sheet.{Told, refuse}
use Rattle.replies.specs.Replies.{room}
use Rattle.sheet.specs.Pieces.{Held, held, eaten, taken, sure}

-- a text is in the buffer at the offset, `next` is the offset behind it, and every other byte is as it was
pub record Writes (text out : List ℕ) (at next : ℕ) (out' : List ℕ) : Type 0 where
  pub at_so : next ≡ at + length text
  pub out_so : out' ≡ take at out ++ text ++ drop (at + length text) out
  pub fits_so : at + length text ≤ length out

-- after a line the run goes on: its output is written, and the table is the one after the line
pub record GoesOn (t : Told) (out : List ℕ) (at next : ℕ) (out' table' : List ℕ) : Type 0 where
  pub goes_so : t.goes ≡ true
  pub writes_so : Writes t.text out at next out'
  pub table_so : table' ≡ t.table

-- a line is refused, with k lines before it: nothing is written yet
pub record Refuses (number k : ℕ) (t : Told) (out table out' table' : List ℕ) : Type 0 where
  pub told_so : t ≡ refuse number k table
  pub out_so : out' ≡ out
  pub table_so : table' ≡ table

-- what judging a line leaves, with k lines before it
abbrev pub Judged : ℕ → List ℕ → Told → List ℕ → ℕ → Result ℕ Refusal → List ℕ → List ℕ → Type 0
Judged k table t out at (Ok next) out' table' = GoesOn t out at next out' table'
Judged k table t out at (Err refusal) out' table' = Refuses (refusal_number refusal) k t out table out' table'

-- what a line says that has so many lines before it, unless it is line 1 or too long
abbrev pub SaidBy : ℕ → List ℕ → Result Line Refusal → Type 0
SaidBy lines line said = 0 < lines → length line ≤ longest → in_numbers said ≡ parsed line

-- there is room for the output of a line
abbrev pub Roomy : List ℕ → ℕ → Type 0
Roomy out at = at + room ≤ length out

-- the line that starts at an offset of a piece: enough of it is known, where it ends, where the next one starts, and the line parsed, unless it
-- is line 1
pub record IsNext (ended : Bool) (lines : ℕ) (piece : List ℕ) (start : ℕ) (next : Next) : Type 0 where
  pub sure_so : sure ended lines (drop start piece) ≡ true
  pub end_so : next.end ≡ start + reach too_long (drop start piece)
  pub start_so : next.start ≡ start + taken (drop start piece)
  pub line_so : in_numbers next.line ≡ (first_line (ltb 0 lines) ended (drop start piece)).line

-- that line, if enough of it is known
abbrev pub NextIn : Bool → ℕ → List ℕ → ℕ → Option Next → Type 0
NextIn ended lines piece start None = sure ended lines (drop start piece) ≡ false
NextIn ended lines piece start (Some next) = IsNext ended lines piece start next

-- what `eat` leaves: its result, and the two buffers that it may write
pub record EatLeft : Type 0 where
  pub answer : Eaten
  pub table : List ℕ
  pub out : List ℕ

abbrev pub eat_left : Eaten → List ℕ → List ℕ → EatLeft
eat_left answer table out = record { answer = answer; table = table; out = out }

-- what `eat` leaves if it ends with this run
abbrev pub eat_left_of : List ℕ → List ℕ → Held → EatLeft
eat_left_of piece out h =
    eat_left (record { taken = length piece - length h.rest; put = length h.text; lines = h.lines; going = h.going }) h.table
    (h.text ++ drop (length h.text) out)

-- the whole answer of `eat`
unfoldable pub ate : Bool → List ℕ → ℕ → Bool → List ℕ → List ℕ → EatLeft
ate ended piece lines going table out = eat_left_of piece out (eaten ended (length out) (held piece lines table going))

-- `count` bytes from an offset, moved to the front of the piece
abbrev pub moved_down : List ℕ → ℕ → ℕ → List ℕ
moved_down piece start count = take count (drop start piece) ++ drop count piece

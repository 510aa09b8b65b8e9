-- A sheet that arrives in pieces: what is done with the bytes at hand, line by line (definition 8.9).
use Rattle.std.specs.Prelude.{ℕ, zero, suc, ◌+◌, Bool, cond, ◌&&◌, ◌||◌, List, [], ◌++◌, eqb, leb, ltb, length, take, drop}
use Rattle.lines.specs.Lines.{crlf, lines_of}
use Rattle.lines.specs.Seen.{too_long, reach}
use Rattle.replies.specs.Replies.{room}
use Rattle.sheet.specs.Sheet.{Told, on_line, answers}

-- a run so far: the bytes held and not taken yet, the lines taken, the table of sets, the output so far, and whether the run goes on
pub record Held : Type 0 where
  pub rest : List ℕ
  pub lines : ℕ
  pub table : List ℕ
  pub text : List ℕ
  pub going : Bool

-- a run that holds some bytes and has an empty output
abbrev pub held : List ℕ → ℕ → List ℕ → Bool → Held
held rest lines table going = record { rest = rest; lines = lines; table = table; text = []; going = going }

-- the next line, up to too_long bytes of it
abbrev pub next_line : List ℕ → List ℕ
next_line rest = take (reach too_long rest) rest

-- the CR LF of the next line is there
unfoldable pub whole : List ℕ → Bool
whole rest = crlf (drop (reach too_long rest) rest)

-- the number of bytes that the next line takes, its CR LF included
unfoldable pub taken : List ℕ → ℕ
taken rest = reach too_long rest + cond (whole rest) 2 0

-- enough of the next line is known: its CR LF, that it is too long, or that the input has ended; no input counts as an empty line 1
unfoldable pub sure : Bool → ℕ → List ℕ → Bool
sure ended lines rest = whole rest || (ltb too_long (length rest) || (ended && (ltb 0 (length rest) || eqb lines 0)))

-- a line can be taken: the run goes on, there is room for its output, and enough of it is known
unfoldable pub ready : Bool → ℕ → Held → Bool
ready ended space h = h.going && (leb (length h.text + room) space && sure ended h.lines h.rest)

-- the run after the next line
abbrev pub after_line : Held → Told → Held
after_line h t = record {
  rest = drop (taken h.rest) h.rest;
  lines = cond t.goes (h.lines + 1) h.lines;
  table = t.table;
  text = h.text ++ t.text;
  going = t.goes;
}

-- one bite takes the next line if it is ready, and else does nothing
unfoldable pub bite : Bool → ℕ → Held → Held
bite ended space h = cond (ready ended space h) (after_line h (on_line h.lines h.table (next_line h.rest))) h

-- a function applied n times
abbrev pub times : ℕ → (Held → Held) → Held → Held
times zero f h = h
times (suc n) f h = times n f (f h)

-- all bites that can do anything: each takes a byte or ends the run
unfoldable pub eaten : Bool → ℕ → Held → Held
eaten ended space h = times (suc (length h.rest)) (bite ended space) h

-- the output still to come, with these bytes still to come
unfoldable pub to_come : Held → List ℕ → List ℕ
to_come h more = cond h.going (answers h.lines h.table (lines_of (h.rest ++ more))) []

-- the whole output of a run: so far, and still to come
unfoldable pub total : Held → List ℕ → List ℕ
total h more = h.text ++ to_come h more

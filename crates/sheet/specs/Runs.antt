-- A run of the program: it reads pieces, judges held lines into a buffer, and writes that out, in any order and sizes (definition 8.9).
use Rattle.std.specs.Prelude.{ℕ, ◌<◌, ◌≡◌, true, false, List, [], ◌++◌}
use Rattle.sheet.specs.Sheet.{start_table}
use Rattle.sheet.specs.Pieces.{Held, eaten}

-- the run with its output buffer empty
abbrev pub emptied : Held → Held
emptied h = record { rest = h.rest; lines = h.lines; table = h.table; text = []; going = h.going }

-- the run with one more piece held
abbrev pub with_piece : Held → List ℕ → Held
with_piece h piece = record { rest = h.rest ++ piece; lines = h.lines; table = h.table; text = h.text; going = h.going }

-- `Run h input out`: a run that holds h, with this input to come, writes out
pub data Run : Held → List ℕ → List ℕ → Type 0 where
  -- a piece of the input arrives
  reads : {h : Held} {input out : List ℕ} (piece : List ℕ) → Run (with_piece h piece) input out → Run h (piece ++ input) out
  -- held lines are judged into a buffer of some size, and the buffer is written out
  eats : {h : Held} {input out : List ℕ} (space : ℕ) → Run (eaten false space (emptied h)) input out → Run h input ((eaten false space (emptied h)).text ++ out)
  -- the same after the end of the input
  ends : {h : Held} {out : List ℕ} (space : ℕ) → Run (eaten true space (emptied h)) [] out → Run h [] ((eaten true space (emptied h)).text ++ out)
  -- a refusal has ended the run
  refused : {h : Held} {input : List ℕ} → h.going ≡ false → Run h input []
  -- the input has ended, and all its lines are taken
  done : {h : Held} → h.rest ≡ [] → 0 < h.lines → Run h [] []

-- there is a run that holds h, with this input to come
pub record SomeRun (h : Held) (input : List ℕ) : Type 0 where
  pub out : List ℕ
  pub run : Run h input out

-- the start of a run: nothing is read yet
abbrev pub start : Held
start = record { rest = []; lines = 0; table = start_table; text = []; going = true }

-- THE BENCH SHEET: the whole output for the whole input (definition 8).
use Rattle.std.specs.Prelude.{ℕ, ◌+◌, ◌-◌, Bool, true, false, cond, List, [], ◌∷◌, ◌++◌, eqb, ltb, length, replicate}
use Rattle.kinds.specs.Tests.{same}
use Rattle.kinds.specs.Codes.{all_states}
use Rattle.kinds.specs.Places.{most_pairs, set_in}
use Rattle.verdicts.specs.Verdicts.{finding}
use Rattle.trace.specs.Events.{moved}
use Rattle.text.specs.Text.{bytes}
use Rattle.lines.specs.Lines.{lines_of}
pub use Rattle.lines.specs.Seen.{longest}
use Rattle.parser.specs.Parsed.{Parsed, parsed}
use Rattle.replies.specs.Replies.{header_line, answer_line, refused_line}

-- what a line does: its output, the table of sets after it, and whether the run goes on
pub record Told : Type 0 where
  pub text : List ℕ
  pub table : List ℕ
  pub goes : Bool

-- the three together
abbrev pub told : List ℕ → List ℕ → Bool → Told
told text table goes = record { text = text; table = table; goes = goes }

-- a refusal ends the run; k lines come before the refused line (definition 8.7)
abbrev pub refuse : ℕ → ℕ → List ℕ → Told
refuse number k table = told (refused_line number (k + 1)) table false

-- the header of the input (definition 8.2)
unfoldable pub header : List ℕ
header = bytes "pair,request,RetToSrc,DoNotGoToSD,excl,tag,response,TagOp,RespErr,forward,final,fwdErr"

-- the most lines of a sheet (definition 8.7)
abbrev pub most_lines : ℕ
most_lines = 1000001

-- line 1: the header, or refusal 6 (definition 8.7)
abbrev pub on_header : List ℕ → List ℕ → Told
on_header table line = cond (same line header) (told [] table true) (refuse 6 0 table)

-- a parsed line after the header: its refusal, or its event judged on the set of its pair; events are numbered from 0 (definition 8.6)
abbrev pub on_parsed : ℕ → List ℕ → Parsed → Told
on_parsed k table e =
    cond (eqb e.number 0)
    (told (answer_line (k - 1) (finding e.event (set_in table e.pair))) (moved table (record { pair = e.pair; bytes = e.event })) true)
    (refuse e.number k table)

-- a line with k lines before it: on line 1 only 6; on any other line 7, then 8, then 3 (definition 8.8)
unfoldable pub on_line : ℕ → List ℕ → List ℕ → Told
on_line k table line =
    cond (eqb k 0) (on_header table line)
    (cond (ltb most_lines (k + 1)) (refuse 7 k table) (cond (ltb longest (length line)) (refuse 7 k table) (on_parsed k table (parsed line))))

-- the output for some lines, with k lines before them; an input without lines is refused with 6 (definition 8.8)
abbrev pub answers : ℕ → List ℕ → List (List ℕ) → List ℕ
answers k table [] = cond (eqb k 0) (refused_line 6 1) []
answers k table (line ∷ others) =
    (on_line k table line).text ++ cond (on_line k table line).goes (answers (k + 1) (on_line k table line).table others) []

-- every pair starts with the set of all seven states (definition 8.5)
unfoldable pub start_table : List ℕ
start_table = replicate most_pairs all_states

-- THE WHOLE OUTPUT, for any input
abbrev pub sheet_out : List ℕ → List ℕ
sheet_out input = header_line ++ answers 0 start_table (lines_of input)

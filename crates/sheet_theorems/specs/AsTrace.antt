-- The lines of a sheet as one trace, and what the judge of a trace leaves as the sheet's output.
use Rattle.std.specs.Prelude.{ℕ, ◌+◌, List, [], ◌∷◌, ◌++◌}
use Rattle.trace.specs.Events.{TraceEvent}
use Rattle.trace.specs.Lent.{Lent, lent}
use Rattle.replies.specs.Replies.{answer_line}
use Rattle.sheet.specs.Sheet.{start_table}
use Rattle.sheet_theorems.specs.Good.{events_of}

-- the bytes of the events, one event after another
abbrev pub bytes_of : List TraceEvent → List ℕ
bytes_of [] = []
bytes_of (x ∷ xs) = x.bytes ++ bytes_of xs

-- the pairs of the events
abbrev pub pairs_of : List TraceEvent → List ℕ
pairs_of [] = []
pairs_of (x ∷ xs) = x.pair ∷ pairs_of xs

-- the lent buffers: the lines' events and pairs, 65,536 pairs with all seven states each, and three output buffers
abbrev pub as_trace : List (List ℕ) → List ℕ → List ℕ → List ℕ → Lent
as_trace lines verdicts duties afters = lent (bytes_of (events_of lines)) (pairs_of (events_of lines)) start_table verdicts duties afters

-- the output lines made from a trace's verdicts, duty bytes and after-sets, from event n on
abbrev pub spelled : ℕ → List ℕ → List ℕ → List ℕ → List ℕ
spelled n [] duties afters = []
spelled n (v ∷ verdicts) [] afters = []
spelled n (v ∷ verdicts) (d ∷ duties) [] = []
spelled n (v ∷ verdicts) (d ∷ duties) (a ∷ afters) =
    answer_line n (record { after = a; verdict = record { 0 = v }; duty = record { 0 = d } }) ++ spelled (n + 1) verdicts duties afters

-- How much of the next line can be seen in the bytes at hand.
use Rattle.std.specs.Prelude.{ℕ, zero, suc, ◌+◌, cond, List, [], ◌∷◌, drop}
use Rattle.lines.specs.Lines.{crlf}

-- the most bytes that a line may have before its CR LF (definition 8.7)
abbrev pub longest : ℕ
longest = 160

-- a line with this many bytes is too long, whatever follows
abbrev pub too_long : ℕ
too_long = longest + 1

-- the number of bytes before the first CR LF; n if there are more, and all if there is no CR LF
abbrev pub reach : ℕ → List ℕ → ℕ
reach zero s = 0
reach (suc n) [] = 0
reach (suc n) (x ∷ s) = cond (crlf (x ∷ s)) 0 (suc (reach n s))

-- the offset at which the line that starts at `start` ends, searched up to too_long bytes
unfoldable pub line_end : List ℕ → ℕ → ℕ
line_end s start = start + reach too_long (drop start s)

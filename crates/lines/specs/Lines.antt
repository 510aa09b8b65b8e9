-- The lines of a text (definition 8.1): CR LF ends a line, either one alone is an ordinary byte, and the last CR LF may be absent.
use Rattle.std.specs.Prelude.{ℕ, Bool, false, cond, ◌&&◌, List, [], ◌∷◌, eqb}
use Rattle.text.specs.Text.{CR, LF, on_first}

-- the bytes begin with CR LF
abbrev pub crlf : List ℕ → Bool
crlf [] = false
crlf (x ∷ []) = false
crlf (x ∷ y ∷ s) = eqb x CR && eqb y LF

-- the lines, without their CR LF; a final CR LF starts no further line
abbrev pub lines_of : List ℕ → List (List ℕ)
lines_of [] = []
lines_of (x ∷ []) = (x ∷ []) ∷ []
lines_of (x ∷ y ∷ s) = cond (crlf (x ∷ y ∷ s)) ([] ∷ lines_of s) (on_first x (lines_of (y ∷ s)))

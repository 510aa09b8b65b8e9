-- The fields of a line, separated by commas, and where a field ends (definition 8.3).
use Rattle.std.specs.Prelude.{ℕ, ◌+◌, cond, List, [], ◌∷◌, eqb, leb, length, drop}
use Rattle.text.specs.Text.{comma, on_first}

-- the bytes before the first comma; all bytes if there is none
abbrev pub field : List ℕ → List ℕ
field [] = []
field (x ∷ s) = cond (eqb x comma) [] (x ∷ field s)

-- the fields of a line, at least one
abbrev pub fields_of : List ℕ → List (List ℕ)
fields_of [] = [] ∷ []
fields_of (x ∷ s) = cond (eqb x comma) ([] ∷ fields_of s) (on_first x (fields_of s))

-- the fields from an offset on; none past the end of the line
unfoldable pub fields_from : List ℕ → ℕ → List (List ℕ)
fields_from line at = cond (leb at (length line)) (fields_of (drop at line)) []

-- the offset at which the field that starts at `at` ends: at the next comma, at the end of the line, or at `at` itself past the end
unfoldable pub field_end : List ℕ → ℕ → ℕ
field_end line at = at + length (field (drop at line))

-- Text as bytes, and the bytes that separate fields and end lines (definition 8.1, 8.3).
use Rattle.std.specs.Prelude.{ℕ, List, [], ◌∷◌}
use Prim.Native.Char.{code}
use Prim.Native.String.{String, [] as empty, ◌∷◌ as ◌then◌}

-- the bytes of a text, as ASCII codes
abbrev pub bytes : String → List ℕ
bytes empty = []
bytes (c then s) = code c ∷ bytes s

-- separates two fields
abbrev pub comma : ℕ
comma = 44

-- CR and LF together end a line
abbrev pub CR : ℕ
CR = 13

abbrev pub LF : ℕ
LF = 10

abbrev pub eol : List ℕ
eol = CR ∷ LF ∷ []

-- a byte put in front of the first of some texts; alone where there is none
abbrev pub on_first : ℕ → List (List ℕ) → List (List ℕ)
on_first x [] = (x ∷ []) ∷ []
on_first x (t ∷ ts) = (x ∷ t) ∷ ts

-- Writing texts into a buffer, one after another.
use Rattle.std.specs.Prelude.{ℕ, ◌+◌, cond, List, [], ◌∷◌, ◌++◌, leb, length, take, drop}

-- a buffer that is being written: the offset of the next byte, and the bytes
pub record Laid : Type 0 where
  pub at : ℕ
  pub out : List ℕ

-- offset and bytes together
abbrev pub laid : ℕ → List ℕ → Laid
laid at out = record { at = at; out = out }

-- a text written at the offset: the bytes before it and behind it stay; if it does not fit, nothing changes
unfoldable pub lay : Laid → List ℕ → Laid
lay l s =
    cond (leb (l.at + length s) (length l.out))
    (laid (l.at + length s) (take l.at l.out ++ s ++ drop (l.at + length s) l.out))
    l

-- texts written one after another
abbrev pub lay_all : Laid → List (List ℕ) → Laid
lay_all l [] = l
lay_all l (s ∷ ss) = lay_all (lay l s) ss

-- texts joined into one
abbrev pub concat : List (List ℕ) → List ℕ
concat [] = []
concat (s ∷ ss) = s ++ concat ss

-- Several bytes as one number, the first byte lowest.
use Rattle.std.specs.Prelude.{ℕ, ◌+◌, ◌*◌, List, [], ◌∷◌, get_or}

-- the four bytes from an offset on; a byte past the end is 0
unfoldable pub half : List ℕ → ℕ → ℕ
half b at = get_or b at 0 + get_or b (at + 1) 0 * 256 + get_or b (at + 2) 0 * 65536 + get_or b (at + 3) 0 * 16777216

-- the eight bytes from an offset on
unfoldable pub word : List ℕ → ℕ → ℕ
word b at = half b at + half b (at + 4) * 4294967296

-- all bytes of a list
abbrev pub word_of : List ℕ → ℕ
word_of [] = 0
word_of (b ∷ bs) = word_of bs * 256 + b

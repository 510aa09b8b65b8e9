-- How answers follow each other in a list: ascending byte by byte (definition 11.3).
use Rattle.std.specs.Prelude.{ℕ, Bool, true, false, ◌&&◌, ◌||◌, List, [], ◌∷◌, eqb, ltb}
use Rattle.kinds.specs.Tests.{all}

-- the first of two lists of bytes comes before the second: where they differ first, its byte is the lower one
abbrev pub comes_before : List ℕ → List ℕ → Bool
comes_before [] ys = false
comes_before (x ∷ xs) [] = false
comes_before (x ∷ xs) (y ∷ ys) = ltb x y || (eqb x y && comes_before xs ys)

-- each of the lists comes before all that follow it
abbrev pub ascending : List (List ℕ) → Bool
ascending [] = true
ascending (l ∷ ls) = all (comes_before l) ls && ascending ls

-- Tests on numbers and lists: what the definition says with words such as "one of" and "the same".
-- How to read these files: `f x y` is f of x and y. A definition is a line with its type and a line with its value. The words before the
-- name (abbrev, unfoldable, pub) concern the checker only. `a ∷ b ∷ []` is the list of a and b. `cond t a b` is a if t is true, else b.
-- `λ x. ..` is the function of x. `&&`, `||` and `not` are and, or and not. `r.field` is a field of r.
use Rattle.std.specs.Prelude.{ℕ, Bool, true, false, ◌&&◌, ◌||◌, List, [], ◌∷◌, eqb}

-- some element of the list passes the test
abbrev pub any {ℓ} : {A : Type ℓ} → (A → Bool) → List A → Bool
any p [] = false
any p (x ∷ xs) = p x || any p xs

-- every element of the list passes the test
abbrev pub all {ℓ} : {A : Type ℓ} → (A → Bool) → List A → Bool
all p [] = true
all p (x ∷ xs) = p x && all p xs

infix 40 ◌∈?◌
-- the number is in the list
abbrev pub ◌∈?◌ : ℕ → List ℕ → Bool
n ∈? ns = any (eqb n) ns

-- the two lists are the same, number by number
abbrev pub same : List ℕ → List ℕ → Bool
same [] [] = true
same [] (y ∷ ys) = false
same (x ∷ xs) [] = false
same (x ∷ xs) (y ∷ ys) = eqb x y && same xs ys

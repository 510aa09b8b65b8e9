-- What private functions compute. No public claim names this file.
use Rattle.std.specs.Prelude.{ℕ, zero, suc, cond, List, [], ◌∷◌, eqb}
use Rattle.text.specs.Text.{CR}

-- the number of bytes before the first CR; n if there are more, and all if there is no CR
abbrev pub before_cr : ℕ → List ℕ → ℕ
before_cr zero s = 0
before_cr (suc n) [] = 0
before_cr (suc n) (x ∷ s) = cond (eqb x CR) 0 (suc (before_cr n s))

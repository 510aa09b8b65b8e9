-- What private functions compute. No public claim names this file.
use Rattle.std.specs.Prelude.{ℕ, cond, List, [], ◌∷◌, Option, Some, None, map}
use Rattle.std.specs.Borrow.{Bor}
use Rattle.kinds.specs.Tests.{same, all}
use Rattle.names.specs.Names.{Named, is_digit, read_decimal}

-- a table's names with their codes
abbrev pub as_names : List (Bor (List ℕ) × ℕ) → List Named
as_names = map (λ entry. record { name = entry.0.now; code = entry.1 })

-- the code of the name that equals the field, if there is one
abbrev pub code_in : List Named → List ℕ → Option ℕ
code_in [] field = None
code_in (n ∷ ns) field = cond (same field n.name) (Some n.code) (code_in ns field)

-- the number that digits stand for, read on from v, if all are digits
abbrev pub number_in : ℕ → List ℕ → Option ℕ
number_in v field = cond (all is_digit field) (Some (read_decimal v field)) None

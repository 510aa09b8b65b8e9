-- What the private functions say that take fields by matching names in place. No public claim names this file.
use Rattle.std.specs.Prelude.{Option, IfSome, ℕ, ◌+◌, ◌^◌, ◌≤◌, ◌<◌, ◌≡◌, Bool, true, not, ◌&&◌, List, [], ◌∷◌, ◌++◌, eqb, length, take, drop}
use Rattle.kinds.specs.Tests.{all}
use Rattle.text.specs.Text.{comma, CR, eol}
use Rattle.names.specs.Names.{most_digits, is_digit, read_decimal}
use Rattle.parser.specs.declared.Taken.{Taken}
use Rattle.parser.specs.Parsed.{known, parsed}
use Rattle.first_line.specs.declared.in_place.Digits.{Digits}
use Rattle.first_line.specs.First.{First}

-- the number of bytes that are matched together
abbrev pub word_length : ℕ
word_length = 8

-- these bytes stand in the text at an offset, and `next` is the offset behind them
pub record Passed (bytes text : List ℕ) (at next : ℕ) : Type 0 where
  pub here : take (length bytes) (drop at text) ≡ bytes
  pub next_so : next ≡ at + length bytes

-- they stand there, and an offset is the one behind them; or there is none
pub record Behind (bytes text : List ℕ) (at : ℕ) (r : Option ℕ) : Type 0 where
  pub passed : IfSome r (Passed bytes text at)

-- a field that ends with these bytes is taken by this code
pub record Ended (bytes : List ℕ) (code : ℕ) (text : List ℕ) (at : ℕ) (r : Taken) : Type 0 where
  pub stands : Passed bytes text at r.next
  pub code_so : r.code ≡ code

-- such a field is taken, or none is
pub record Ends (bytes : List ℕ) (code : ℕ) (text : List ℕ) (at : ℕ) (r : Option Taken) : Type 0 where
  pub ended : IfSome r (Ended bytes code text at)

-- neither a comma nor CR: a field does not end here, nor does a line
abbrev pub plain : ℕ → Bool
plain b = not (eqb b comma) && not (eqb b CR)

-- behind the front of a field stands the rest of it, with the mark behind it, and the column knows the field by this code
pub record Met (front : List ℕ) (column : List ℕ → ℕ) (mark text : List ℕ) (at : ℕ) (r : Taken) : Type 0 where
  pub rest : List ℕ
  pub stands : Passed (rest ++ mark) text at r.next
  pub plainly : all plain rest ≡ true
  pub code_so : column (front ++ rest) ≡ r.code
  pub known_so : known r.code ≡ true

-- such a field is taken, or none is
pub record Takes (front : List ℕ) (column : List ℕ → ℕ) (mark text : List ℕ) (at : ℕ) (r : Option Taken) : Type 0 where
  pub met : IfSome r (Met front column mark text at)

-- the digits at the offset, and their number
pub record DigitsAt (text : List ℕ) (at : ℕ) (r : Digits) : Type 0 where
  pub few : r.count ≤ most_digits
  pub small : r.value < 10 ^ r.count
  pub digits_so : all is_digit (take r.count (drop at text)) ≡ true
  pub value_so : r.value ≡ read_decimal 0 (take r.count (drop at text))

-- a field for each column from the offset on: each but the last with its comma, the last with CR LF
pub data MetAll : List (List ℕ → ℕ) → List ℕ → ℕ → List ℕ → ℕ → Type 0 where
  last : {column : List ℕ → ℕ} {text : List ℕ} {at : ℕ} {r : Taken} → Met [] column eol text at r → MetAll (column ∷ []) text at (r.code ∷ []) r.next
  more : {column : List ℕ → ℕ} {others : List (List ℕ → ℕ)} {text : List ℕ} {at : ℕ} {r : Taken} {codes : List ℕ} {end : ℕ}
      → Met [] column (comma ∷ []) text at r → MetAll others text r.next codes end → MetAll (column ∷ others) text at (r.code ∷ codes) end

-- not CR: a line does not end here
abbrev pub no_cr : ℕ → Bool
no_cr b = not (eqb b CR)

-- the text begins with a line and its CR LF, and r is this line
pub record Leads (text : List ℕ) (r : First) : Type 0 where
  pub line : List ℕ
  pub rest : List ℕ
  pub starts_so : text ≡ line ++ (eol ++ rest)
  pub no_cr : all no_cr line ≡ true
  pub r_so : r ≡ record { line = parsed line; end = length line; whole = true }

-- The refusals with their numbers, and the number of an answer: 0 if it is accepted (definition 4.1, 8.7, 11.5).
use Rattle.std.specs.Prelude.{ℕ, Result, Ok, Err}
use Rattle.kinds.specs.declared.Refusal.{Refusal}
use Rattle.kinds.specs.declared.Refusal.TheVariants.{Lengths, Set, Pair, Range, Request, Header, Line, Fields, Room}

abbrev pub refusal_number : Refusal → ℕ
refusal_number Lengths = 1
refusal_number Set = 2
refusal_number Pair = 3
refusal_number Range = 4
refusal_number Request = 5
refusal_number Header = 6
refusal_number Line = 7
refusal_number Fields = 8
refusal_number Room = 9

-- 0 for an answer that is accepted, else its refusal's number
abbrev pub number_of : {A : Type 0} → Result A Refusal → ℕ
number_of (Ok value) = 0
number_of (Err refusal) = refusal_number refusal

-- The number of a call is the row of the table that is given, both ways; and what is left then.
-- Assumes nothing.
use mathlib.Core.Path.{◌≡◌, refl, sym, ◌∙◌, ap, subst}
use mathlib.Core.Bool.{Bool, true, false, cond}
use mathlib.Core.List.{List}
use Prim.Native.Nat.{ℕ, ◌*◌, ◌%◌, ◌<◌, ◌≤◌}
use native.Mathlib.Omega.{arith}
use borrow.Author.Tests.{leb-true, leb-false}
use lib.Dec.{eqb, leb}
use lib.ListN.{length}
use Rattle.kinds.specs.Tests.{all, ◌∈?◌}
use Rattle.rows.specs.Event.{request_of}
use Rattle.event.specs.Refusals.{issue_e, below}
use Rattle.answers.specs.declared.Question.{Question}
use Rattle.answers.specs.Answers.{question_bytes, answers_to}
use Rattle.answers.specs.Listed.{answer_length, most_answers, asking, fault_of, ListLeft, accepted_list, refused_list, listed}
use Rattle.answers.specs.Given.{Good, Given, bad_byte, bad_request, short_room, accepted}
use Rattle.answers.specs.Table.{spans}
use Rattle.answers.specs.Code.{span_of}
use Rattle.answers.proofs.Laws.{fault_tests}
use Rattle.answers.proofs.Lists.{questions, question_at, every_question}
use Rattle.answers.proofs.Whole.{list_length, left_fault, left_short, left_accepted}

-- a good question is not refused with 4 or 5
pub good_fault : (q : Question) → Good issue_e q → fault_of issue_e q ≡ 0
good_fault q g = fault_tests q true true g.in_range g.known

-- what is left: the answers where the number is 0, else the room as it was
pub leaves : {q : Question} {room : List ℕ} {n : ℕ} → Given issue_e q room n
    → listed issue_e q room ≡ cond (eqb n 0) (accepted_list (answers_to issue_e q) room) (refused_list n room)
leaves {q} {room} (bad_byte h) =
    let four : fault_of issue_e q ≡ 4 = fault_tests q false (request_of (question_bytes q) ∈? issue_e.requests) h refl in
    left_fault q room (λ z. absurd_four (sym four ∙ z)) ∙ ap (λ (n : ℕ). refused_list n room) four
  where
    absurd_four : ◌≡◌ {A = ℕ} 4 0 → ⊥
    absurd_four e = omega arith
leaves {q} {room} (bad_request h k) =
    let five : fault_of issue_e q ≡ 5 = fault_tests q true false h k in
    left_fault q room (λ z. absurd_five (sym five ∙ z)) ∙ ap (λ (n : ℕ). refused_list n room) five
  where
    absurd_five : ◌≡◌ {A = ℕ} 5 0 → ⊥
    absurd_five e = omega arith
leaves {q} {room} (short_room g l) = left_short q room (good_fault q g) l
leaves {q} {room} (accepted g l) = left_accepted q room (good_fault q g) l

-- the number that is left is the row's
pub gives : {q : Question} {room : List ℕ} {n : ℕ} → Given issue_e q room n → (listed issue_e q room).result.number ≡ n
gives (bad_byte h) = ap (λ (l : ListLeft). l.result.number) (leaves (bad_byte h))
gives (bad_request h k) = ap (λ (l : ListLeft). l.result.number) (leaves (bad_request h k))
gives (short_room g l) = ap (λ (l : ListLeft). l.result.number) (leaves (short_room g l))
gives (accepted g l) = ap (λ (l : ListLeft). l.result.number) (leaves (accepted g l))

-- every call has a row
record SomeRow (q : Question) (room : List ℕ) : Type 0 where
  number : ℕ
  row : Given issue_e q room number

some_row : (q : Question) (room : List ℕ) → SomeRow q room
some_row q room =
    go (below (question_bytes q) 1 (asking issue_e).limits) (request_of (question_bytes q) ∈? issue_e.requests)
    (leb (answer_length * length (answers_to issue_e q)) (length room)) refl refl refl
  where
    go : (b r e : Bool) → below (question_bytes q) 1 (asking issue_e).limits ≡ b → request_of (question_bytes q) ∈? issue_e.requests ≡ r
        → leb (answer_length * length (answers_to issue_e q)) (length room) ≡ e → SomeRow q room
    go false r e hb hr he = record { number = 4; row = bad_byte hb }
    go true false e hb hr he = record { number = 5; row = bad_request hb hr }
    go true true true hb hr he = record { number = 0; row = accepted (record { in_range = hb; known = hr }) (leb-true _ _ he) }
    go true true false hb hr he = record { number = 9; row = short_room (record { in_range = hb; known = hr }) (leb-false _ _ he) }

pub given : (q : Question) (room : List ℕ) → Given issue_e q room (listed issue_e q room).result.number
given q room = let s = some_row q room in subst (Given issue_e q room) (sym (gives s.row)) s.row

-- no list is longer than `most_answers`
short : Question → Bool
short q = leb (span_of q % 64) most_answers

all_short : all (λ b. short (question_at b)) questions ≡ true
unfolding short questions span_of spans
all_short = refl

pub most : (q : Question) → Good issue_e q → length (answers_to issue_e q) ≤ most_answers
unfolding short
most q g =
    subst (λ (n : ℕ). n ≤ most_answers) (sym (list_length q (good_fault q g)))
    (leb-true (span_of q % 64) most_answers (every_question short all_short q (good_fault q g)))

-- whatever is asked and lent: the number is small, the place is 0, and the count is at most `most_answers`
pub record Small (l : ListLeft) : Type 0 where
  pub number : l.result.number < 256
  pub place : l.result.place ≡ 0
  pub count : l.result.count ≤ most_answers

row_small : {q : Question} {room : List ℕ} {n : ℕ} → Given issue_e q room n → Small (listed issue_e q room)
row_small {q} {room} (bad_byte h) = subst Small (sym (leaves (bad_byte h))) (record { number = omega arith; place = refl; count = omega arith })
row_small {q} {room} (bad_request h k) = subst Small (sym (leaves (bad_request h k))) (record { number = omega arith; place = refl; count = omega arith })
row_small {q} {room} (short_room g l) = subst Small (sym (leaves (short_room g l))) (record { number = omega arith; place = refl; count = omega arith })
row_small {q} {room} (accepted g l) = subst Small (sym (leaves (accepted g l))) (record { number = omega arith; place = refl; count = most q g })

pub small : (q : Question) (room : List ℕ) → Small (listed issue_e q room)
small q room = row_small (given q room)

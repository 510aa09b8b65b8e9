-- The whole answer to a question, whatever is asked and lent: number, place, count, and every byte of the room (definition 11.4, 11.5).
use Rattle.std.specs.Prelude.{ℕ, ◌*◌, cond, List, [], ◌∷◌, ◌++◌, Result, Ok, Err, eqb, leb, length, take, drop}
use Rattle.kinds.specs.declared.Refusal.{Refusal}
use Rattle.kinds.specs.Refusals.{refusal_number}
use Rattle.event.specs.Refusals.{Issue, fault}
use Rattle.answers.specs.declared.Question.{Question}
use Rattle.answers.specs.Answers.{question_bytes, answers_to}

-- the length of an answer in bytes
abbrev pub answer_length : ℕ
answer_length = 10

-- the most answers of a list
abbrev pub most_answers : ℕ
most_answers = 57

-- what the bytes of a question may be: RetToSrc, DoNotGoToSD and excl as in an event, a tag state that was seen, one of the seven states
abbrev pub asking : Issue → Issue
asking issue = record { limits = take 3 issue.limits ++ (3 ∷ 7 ∷ []); requests = issue.requests }

-- 4 for a byte outside its range, then 5 for a request that is not judged, else 0
abbrev pub fault_of : Issue → Question → ℕ
fault_of issue q = fault (asking issue) (question_bytes q)

-- the lists, one after another
abbrev pub joined : List (List ℕ) → List ℕ
joined [] = []
joined (l ∷ ls) = l ++ joined ls

-- the result of a call: a refusal number, its place, and the number of answers that were put into the room (definition 11.4)
pub record Listed : Type 0 where
  pub number : ℕ
  pub place : ℕ
  pub count : ℕ

-- the result, and the room as it is left
pub record ListLeft : Type 0 where
  pub result : Listed
  pub room : List ℕ

abbrev pub list_left : Listed → List ℕ → ListLeft
list_left result room = record { result = result; room = room }

-- a result: number, place, count
abbrev pub result : ℕ → ℕ → ℕ → Listed
result number place count = record { number = number; place = place; count = count }

-- THE CALL'S RESULT IN NUMBERS: of an accepted question the count of its answers, of a refused one the refusal's number; the place is 0.
-- No two results have the same numbers.
abbrev pub in_numbers : Result ℕ Refusal → Listed
in_numbers (Ok count) = result 0 0 count
in_numbers (Err refusal) = result (refusal_number refusal) 0 0

-- an accepted question: the answers stand at the front of the room, and the bytes behind them are as they were
abbrev pub accepted_list : List (List ℕ) → List ℕ → ListLeft
accepted_list answers room = list_left (result 0 0 (length answers)) (joined answers ++ drop (answer_length * length answers) room)

-- a refused question: place 0, count 0, and the room as it was
abbrev pub refused_list : ℕ → List ℕ → ListLeft
refused_list number room = list_left (result number 0 0) room

-- 9 if the answers don't fit into the room
abbrev pub listed_in : List (List ℕ) → List ℕ → ListLeft
listed_in answers room = cond (leb (answer_length * length answers) (length room)) (accepted_list answers room) (refused_list 9 room)

-- THE WHOLE ANSWER: what a call leaves, accepted or refused; 4, then 5, then 9
unfoldable pub listed : Issue → Question → List ℕ → ListLeft
listed issue q room = cond (eqb (fault_of issue q) 0) (listed_in (answers_to issue q) room) (refused_list (fault_of issue q) room)

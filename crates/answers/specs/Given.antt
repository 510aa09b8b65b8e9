-- The refusals of a question, a constructor for each row of the table (definition 11.5).
use Rattle.std.specs.Prelude.{ℕ, ◌*◌, ◌<◌, ◌≤◌, ◌≡◌, true, false, List, length}
use Rattle.kinds.specs.Tests.{◌∈?◌}
use Rattle.rows.specs.Event.{request_of}
use Rattle.event.specs.Refusals.{Issue, below}
use Rattle.answers.specs.declared.Question.{Question}
use Rattle.answers.specs.Answers.{question_bytes, answers_to}
use Rattle.answers.specs.Listed.{answer_length, asking}

-- the bytes of the question are in range, and its request is judged
pub record Good (issue : Issue) (q : Question) : Type 0 where
  pub in_range : below (question_bytes q) 1 (asking issue).limits ≡ true
  pub known : request_of (question_bytes q) ∈? issue.requests ≡ true

-- the number that a question gets with a room
pub data Given (issue : Issue) (q : Question) (room : List ℕ) : ℕ → Type 0 where
  -- 4: a byte from RetToSrc to the state before is outside its range
  bad_byte : below (question_bytes q) 1 (asking issue).limits ≡ false → Given issue q room 4
  -- 5: all are in range, and the request is none of the ten
  bad_request : below (question_bytes q) 1 (asking issue).limits ≡ true → request_of (question_bytes q) ∈? issue.requests ≡ false → Given issue q room 5
  -- 9: the question is good, and ten times the number of answers exceeds the room
  short_room : Good issue q → length room < answer_length * length (answers_to issue q) → Given issue q room 9
  -- 0: the question is good, and the answers fit
  accepted : Good issue q → answer_length * length (answers_to issue q) ≤ length room → Given issue q room 0

-- Every answer that a cache could have given: the permitted ones, each once, ascending byte by byte (definition 11.1 to 11.3).
use Rattle.std.specs.Prelude.{ℕ, zero, suc, Bool, cond, List, [], ◌∷◌, ◌++◌, map, drop, set, take}
use Rattle.event.specs.Refusals.{Issue}
use Rattle.rows.specs.Event.{state_after_of}
use Rattle.rows.specs.Permitted.{permitted}
use Rattle.answers.specs.declared.Question.{Question}

-- a question from its six bytes
abbrev pub question : ℕ → ℕ → ℕ → ℕ → ℕ → ℕ → Question
question request ret noSD excl tag before =
    record {
      request = record { 0 = request };
      ret_to_src = ret;
      do_not_go_to_sd = noSD;
      excl = excl;
      tag = record { 0 = tag };
      before = record { 0 = before };
    }

-- the six bytes of a question: bytes 0 to 4 of an event, and the state before
abbrev pub question_bytes : Question → List ℕ
question_bytes q = q.request.0 ∷ q.ret_to_src ∷ q.do_not_go_to_sd ∷ q.excl ∷ q.tag.0 ∷ q.before.0 ∷ []

-- the event that a question and an answer make: bytes 0 to 4 are the question's, bytes 5 to 14 are the answer
abbrev pub event_with : Question → List ℕ → List ℕ
event_with q a = take 5 (question_bytes q) ++ a

-- the answer is permitted: with the question's tag state, from its state before to the answer's state after
unfoldable pub permits : Question → List ℕ → Bool
permits q a = permitted (event_with q a) q.tag.0 q.before.0 (state_after_of (event_with q a))

-- the limits of an answer's bytes: those of event bytes 5 to 14, but the state after is one of the seven
abbrev pub answer_limits : Issue → List ℕ
answer_limits issue = set (drop 4 issue.limits) 8 7

-- n numbers from k on, ascending
abbrev pub numbers_from : ℕ → ℕ → List ℕ
numbers_from k zero = []
numbers_from k (suc n) = k ∷ numbers_from (suc k) n

-- each of the numbers in front of each of the lists
abbrev pub in_front : List ℕ → List (List ℕ) → List (List ℕ)
in_front [] ls = []
in_front (x ∷ xs) ls = map (λ l. x ∷ l) ls ++ in_front xs ls

-- every list that takes one number of each choice
abbrev pub choices : List (List ℕ) → List (List ℕ)
choices [] = [] ∷ []
choices (c ∷ cs) = in_front c (choices cs)

-- all bytes below the limits, ascending byte by byte
unfoldable pub all_below : List ℕ → List (List ℕ)
all_below limits = choices (map (numbers_from 0) limits)

-- those of the lists that pass the test
abbrev pub keep : (List ℕ → Bool) → List (List ℕ) → List (List ℕ)
keep p [] = []
keep p (l ∷ ls) = cond (p l) (l ∷ keep p ls) (keep p ls)

-- EVERY PERMITTED ANSWER to a question
unfoldable pub answers_to : Issue → Question → List (List ℕ)
answers_to issue q = keep (permits q) (all_below (answer_limits issue))

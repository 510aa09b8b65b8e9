-- The list of permitted answers, as the theorems name it (definition 11).
use Rattle.std.specs.Prelude.{ℕ, ◌≡◌, Bool, true, not, ◌&&◌, List, [], ◌∷◌, eqb, length, get_or}
use Rattle.kinds.specs.Tests.{any, same, ◌∈?◌}
use Rattle.kinds.specs.Codes.{I, UD, SD, tag_invalid, tag_dirty, op_invalid, NDERR, SnpCleanFwd}
use Rattle.kinds.specs.declared.Answer.{Answer}
use Rattle.kinds.specs.Answers.{wire, forward_of, forward_error, SnpResp_I}
use Rattle.event.specs.Refusals.{issue_e, below}
use Rattle.answers.specs.declared.Question.{Question}
use Rattle.answers.specs.Answers.{question, answer_limits, answers_to}
use Rattle.answers.specs.Listed.{answer_length}

-- ten bytes, each in the range of its event byte, the state after one of the seven
pub record InRange (a : List ℕ) : Type 0 where
  pub ten : length a ≡ answer_length
  pub each : below a 0 (answer_limits issue_e) ≡ true

-- the answer is in the list
abbrev pub is_listed : Question → List ℕ → Bool
is_listed q a = any (same a) (answers_to issue_e q)

-- ten bytes from an answer with its forward, TagOp, RespErr and state after
abbrev pub ten_bytes : Answer → ℕ → ℕ → ℕ → List ℕ
ten_bytes w op err stateAfter =
    get_or (wire w) 0 0 ∷ get_or (wire w) 1 0 ∷ get_or (wire w) 2 0 ∷ get_or (wire w) 3 0 ∷ op ∷ err ∷ get_or (wire w) 4 0 ∷ get_or (wire w) 5 0 ∷ stateAfter
    ∷ forward_error (forward_of w) ∷ []

-- the answer of NDERR: SnpResp_I, TagOp Invalid, state after I (definition 5.11)
abbrev pub nderr_answer : List ℕ
nderr_answer = ten_bytes SnpResp_I op_invalid NDERR I

-- Dirty tags with a state that has none: they exist only with UD and SD (definition 5.8)
abbrev pub no_such_tags : Question → Bool
no_such_tags q = eqb q.tag.0 tag_dirty && not (q.before.0 ∈? (UD ∷ SD ∷ []))

-- a question with the longest list: SnpCleanFwd with RetToSrc 1 to a line in UD, without tags
abbrev pub longest_question : Question
longest_question = question SnpCleanFwd 1 0 0 tag_invalid UD

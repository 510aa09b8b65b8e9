-- The code's table lists exactly the permitted answers: one fact, computed for every question in range.
-- Assumes nothing.
use mathlib.Core.Path.{◌≡◌, refl, sym, ◌∙◌, ap}
use mathlib.Core.Bool.{Bool, true, false, cond, ◌&&◌}
use mathlib.Core.List.{List, [], ◌∷◌, map}
use Prim.Native.Nat.{ℕ, zero, suc, ◌*◌, ◌/◌, ◌%◌, ◌<◌}
use native.Mathlib.Nat.{mod-lt}
use native.Mathlib.Omega.{arith}
use lib.Dec.{eqb, ltb}
use lib.ListN.{length, get_or, take, drop}
use Rattle.kinds.specs.Tests.{any, all, same, ◌∈?◌}
use Rattle.kinds.specs.Codes.{RSP, DAT, OK, DERR}
use Rattle.kinds.proofs.Lists.{one_of, and_left, and_right, and_both}
use Rattle.rows.specs.Event.{byte}
use Rattle.rows.specs.Rows.{rows}
use Rattle.rows.specs.Permitted.{asked}
use Rattle.steps.proofs.Passing.{all_get_d}
use Rattle.event.specs.Refusals.{issue_e, below, fault}
use Rattle.answers.specs.declared.Question.{Question}
use Rattle.answers.specs.Answers.{question, question_bytes, answer_limits, permits, numbers_from, choices, all_below, answers_to}
use Rattle.answers.specs.Ascending.{ascending}
use Rattle.answers.specs.Listed.{answer_length, asking, fault_of}
use Rattle.answers.specs.Table.{spans, numbers, answers, first_on_dat}
use Rattle.answers.specs.Code.{span_of, ten_of, with_derr, answer_at, answers_in}
use Rattle.answers.proofs.Ascending.{all_member, same_members}
use Rattle.answers.proofs.Choices.{choices_members, chosen_below, all_below-members, all_below-ascending, keep_members, keep_ascending}
use Rattle.answers.proofs.OfRows.{row_choices, row_asked, answers_of, rows_members}
use Rattle.answers.proofs.Sorted.{order, insert, sorted, alike, alike_equal, sorted_members}

-- the six bytes of every question in range
unfoldable pub questions : List (List ℕ)
questions = choices ((asking issue_e).requests ∷ map (numbers_from 0) (asking issue_e).limits)

-- the question with these six bytes
abbrev pub question_at : List ℕ → Question
question_at b = question (byte b 0) (byte b 1) (byte b 2) (byte b 3) (byte b 4) (byte b 5)

-- a question that is not refused with 4 or 5 is one of them
in_range_lem : (b r : Bool) → ◌≡◌ {A = ℕ} (cond b (cond r 0 5) 4) 0 → (b ≡ true) × (r ≡ true)
in_range_lem true true h = (refl, refl)
in_range_lem true false h = absurd (omega arith)
in_range_lem false r h = absurd (omega arith)

asked_question : (q : Question) → fault_of issue_e q ≡ 0 → any (same (question_bytes q)) questions ≡ true
unfolding questions fault
asked_question q h =
    let k = in_range_lem (below (question_bytes q) 1 (asking issue_e).limits) (q.request.0 ∈? (asking issue_e).requests) h in
    choices_members ((asking issue_e).requests ∷ map (numbers_from 0) (asking issue_e).limits) (question_bytes q)
    ∙ and_both k.1 (chosen_below (asking issue_e).limits (question_bytes q) 1 ∙ k.0)

-- a test that is computed for every question in range holds for each that is not refused with 4 or 5
pub every_question : (p : Question → Bool) → all (λ b. p (question_at b)) questions ≡ true → (q : Question) → fault_of issue_e q ≡ 0 → p q ≡ true
every_question p h q k = all_member (λ b. p (question_at b)) questions (question_bytes q) h (asked_question q k)

-- the table's list ascends, and has the same answers as the rows
right_list : Question → Bool
right_list q = ascending (answers_in (span_of q)) && alike (answers_in (span_of q)) (sorted (answers_of q rows))

-- THE COMPUTED FACT
all_right : all (λ b. right_list (question_at b)) questions ≡ true
unfolding right_list questions rows asked row_choices row_asked answers_of order insert sorted alike spans numbers span_of answer_at answers_in
all_right = refl

-- every answer of the table is in range, on either channel and with either error field
in_range : ℕ → ℕ → ℕ → Bool
in_range w channel error = below (ten_of channel w error) 0 (answer_limits issue_e)

word_in_range : ℕ → Bool
word_in_range w = all (λ channel. all (in_range w channel) (OK ∷ DERR ∷ [])) (RSP ∷ DAT ∷ [])

words_in_range : all word_in_range answers ≡ true
unfolding word_in_range in_range
words_in_range = refl

zero_in_range : word_in_range 0 ≡ true
unfolding word_in_range in_range
zero_in_range = refl

-- the channel and the error field that a number stands for
on_either : (b : Bool) (m w : ℕ) → m < 2 → word_in_range w ≡ true → in_range w (cond b RSP DAT) (m * DERR) ≡ true
unfolding word_in_range
on_either b m w l h = error m l (one_of (λ channel. all (in_range w channel) (OK ∷ DERR ∷ [])) (cond b RSP DAT) (RSP ∷ DAT ∷ []) (channel b) h)
  where
    channel : (t : Bool) → cond t RSP DAT ∈? (RSP ∷ DAT ∷ []) ≡ true
    channel true = refl
    channel false = refl

    error : (n : ℕ) → n < 2 → all (in_range w (cond b RSP DAT)) (OK ∷ DERR ∷ []) ≡ true → in_range w (cond b RSP DAT) (n * DERR) ≡ true
    error zero k r = one_of (in_range w (cond b RSP DAT)) OK (OK ∷ DERR ∷ []) refl r
    error (suc zero) k r = one_of (in_range w (cond b RSP DAT)) DERR (OK ∷ DERR ∷ []) refl r
    error (suc (suc n)) k r = absurd (omega arith)

all_in_range : (ns : List ℕ) → all (λ a. below a 0 (answer_limits issue_e)) (map answer_at ns) ≡ true
unfolding answer_at in_range
all_in_range [] = refl
all_in_range (n ∷ ns) =
    and_both
    (on_either (ltb (n % with_derr) first_on_dat) (n / with_derr % 2) (get_or answers (n % with_derr) 0) (mod-lt (n / with_derr) (omega arith))
    (all_get_d word_in_range answers (n % with_derr) zero_in_range words_in_range))
    (all_in_range ns)

-- a test that follows from the other two
added_test : (n p b : Bool) → (n && p ≡ true → b ≡ true) → n && p ≡ p && (n && b)
added_test true true b h = sym (h refl)
added_test true false b h = refl
added_test false true b h = refl
added_test false false b h = refl

pub answers_ascend : (q : Question) → ascending (answers_to issue_e q) ≡ true
unfolding answers_to
answers_ascend q = keep_ascending (permits q) (all_below (answer_limits issue_e)) (all_below-ascending (answer_limits issue_e))

pub answers_members : (q : Question) (a : List ℕ) → any (same a) (answers_to issue_e q) ≡ permits q a && (eqb (length a) answer_length && below a 0 (answer_limits issue_e))
unfolding answers_to
answers_members q a = keep_members (permits q) (all_below (answer_limits issue_e)) a ∙ ap (λ (b : Bool). permits q a && b) (all_below-members (answer_limits issue_e) a)

-- the list of a question in the table is the list of all permitted answers
pub table_right : (q : Question) → fault_of issue_e q ≡ 0 → answers_in (span_of q) ≡ answers_to issue_e q
unfolding right_list answers_in
table_right q h = same_members (answers_in (span_of q)) (answers_to issue_e q) ascends (answers_ascend q) members
  where
    right : ascending (answers_in (span_of q)) && alike (answers_in (span_of q)) (sorted (answers_of q rows)) ≡ true
    right = every_question right_list all_right q h

    ascends : ascending (answers_in (span_of q)) ≡ true
    ascends = and_left (ascending (answers_in (span_of q))) (alike (answers_in (span_of q)) (sorted (answers_of q rows))) right

    of_rows : (a : List ℕ) → any (same a) (answers_in (span_of q)) ≡ eqb (length a) answer_length && permits q a
    of_rows a =
        ap (any (same a)) (alike_equal (answers_in (span_of q)) (sorted (answers_of q rows)) (and_right (ascending (answers_in (span_of q))) (alike (answers_in (span_of q)) (sorted (answers_of q rows))) right))
        ∙ sorted_members a (answers_of q rows)
        ∙ rows_members q a

    members : (a : List ℕ) → any (same a) (answers_in (span_of q)) ≡ any (same a) (answers_to issue_e q)
    members a =
        of_rows a
        ∙ added_test (eqb (length a) answer_length) (permits q a) (below a 0 (answer_limits issue_e))
        (λ k. all_member (λ x. below x 0 (answer_limits issue_e)) (answers_in (span_of q)) a (all_in_range (take (span_of q % 64) (drop (span_of q / 64) numbers))) (of_rows a ∙ k))
        ∙ sym (answers_members q a)

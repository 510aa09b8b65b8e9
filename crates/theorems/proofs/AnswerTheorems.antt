-- The theorems about the list of permitted answers. If you believe the checker, read this file, the definitions that it names, and the
-- `ensures` of `answers::list_answers`, which says that whatever is asked and lent, the result and the room afterwards are `listed issue_e`
-- of it.
-- Assumes nothing.
use mathlib.Core.Path.{◌≡◌, refl, sym, ◌∙◌, ap, subst}
use mathlib.Core.Logic.{◌↔◌}
use mathlib.Core.Bool.{Bool, true, false, cond, ◌&&◌, false≢true}
use mathlib.Core.List.{List, []}
use Prim.Native.Nat.{ℕ, ◌*◌, ◌<◌, ◌≤◌}
use native.Mathlib.Omega.{arith}
use borrow.Author.Tests.{eqb-true, eq-eqb, ne_eqb}
use lib.Dec.{eqb}
use lib.ListN.{length, get_or}
-- the definitions that the theorems name
use Rattle.std.specs.Prelude.{Result}
use Rattle.kinds.specs.declared.Refusal.{Refusal}
use Rattle.sets.specs.Sets.{bit}
use Rattle.rows.specs.Event.{byte}
use Rattle.rows.specs.Permitted.{permitted}
use Rattle.event.specs.Refusals.{issue_e, below}
use Rattle.answers.specs.declared.Question.{Question}
use Rattle.answers.specs.Answers.{event_with, permits, answer_limits, answers_to}
use Rattle.answers.specs.Ascending.{comes_before, ascending}
use Rattle.answers.specs.Listed.{answer_length, most_answers, ListLeft, in_numbers, list_left, accepted_list, refused_list, listed}
use Rattle.answers.specs.Given.{Good, Given, short_room}
use Rattle.theorems.specs.Alone.{set_from}
use Rattle.theorems.specs.Listing.{InRange, is_listed, nderr_answer, no_such_tags, longest_question}
-- their proofs
use Rattle.kinds.proofs.Lists.{and_left, and_right, and_both}
use Rattle.answers.specs.Table.{spans}
use Rattle.answers.specs.Code.{span_of}
use Rattle.answers.proofs.Laws.{same_numbers}
use Rattle.answers.proofs.Ascending.{not_itself, ascending_at}
use Rattle.answers.proofs.Lists.{answers_members, answers_ascend}
use Rattle.answers.proofs.Whole.{list_length}
use Rattle.answers.proofs.Given.{good_fault, leaves, gives, given, most, small}
use Rattle.theorems.proofs.Theorems.{sets_exact}
use Rattle.theorems.proofs.Listing.{event_accepted, before_below, tag_below, after_below, step_permitted, permitted_step, nderr_test, no_length}

-- ONE OUTCOME (definition 1.8): any two outcomes that the claim allows are equal, in the result and in every byte of the room.
pub one_list : (q : Question) (room : List ℕ) (r r' : Result ℕ Refusal) (m m' : List ℕ) → list_left (in_numbers r) m ≡ listed issue_e q room
    → list_left (in_numbers r') m' ≡ listed issue_e q room → (r ≡ r') × (m ≡ m')
one_list q room r r' m m' h h' =
    let same = h ∙ sym h' in (same_numbers r r' (ap (λ (l : ListLeft). l.result) same), ap (λ (l : ListLeft). l.room) same)

-- THE LIST (definition 11.2): ten bytes are in it exactly when they are in range and the rows permit them: as the event that the question
-- and they make, with the question's tag state, from its state before to their last byte.
pub listed_exactly : (q : Question) (a : List ℕ)
    → is_listed q a ≡ true ↔ (InRange a × (permitted (event_with q a) q.tag.0 q.before.0 (byte a 8) ≡ true))
unfolding permits
listed_exactly q a =
    let ten = eqb (length a) answer_length in
    let each = below a 0 (answer_limits issue_e) in (
      λ h.
          let k = sym (answers_members q a) ∙ h in
          let in_range_lem = and_right (permits q a) (ten && each) k in
          (record { ten = eqb-true (length a) answer_length (and_left ten each in_range_lem); each = and_right ten each in_range_lem }, and_left (permits q a) (ten && each) k),
      λ p. answers_members q a ∙ and_both p.1 (and_both (eq-eqb (length a) answer_length p.0.ten) p.0.each),
    )

-- THE ORDER (definition 11.3): the list ascends byte by byte, so each answer stands once.
pub list_ascends : (q : Question) → ascending (answers_to issue_e q) ≡ true
list_ascends = answers_ascend

pub each_once : (q : Question) (i j : ℕ) → i < j → j < length (answers_to issue_e q) → get_or (answers_to issue_e q) i [] ≡ get_or (answers_to issue_e q) j [] → ⊥
each_once q i j l b e =
    false≢true
    (sym (not_itself (get_or (answers_to issue_e q) j []))
    ∙ subst (λ (x : List ℕ). comes_before x (get_or (answers_to issue_e q) j []) ≡ true) e (ascending_at (answers_to issue_e q) (answers_ascend q) i j l b))

-- LISTED EXACTLY WHEN JUDGED PERMITTED (definition 11.2): for a good question, `judge_event` of the question and ten bytes in range has
-- their state after in its set for the state before exactly when the list has them.
pub listed_when_judged : (q : Question) → Good issue_e q → (a : List ℕ) → InRange a
    → bit (set_from (event_with q a) q.before.0) (byte a 8) ≡ true ↔ is_listed q a ≡ true
listed_when_judged q g a r =
    let judged = sets_exact (event_with q a) (event_accepted q g a r) q.before.0 (byte a 8) (before_below q g a r) (after_below q g a r) in (
      λ h. (listed_exactly q a).1 (r, step_permitted q a (tag_below q g a r) (judged.0 h)),
      λ h. judged.1 (permitted_step q a (tag_below q g a r) ((listed_exactly q a).0 h).1),
    )

-- NDERR (definition 11.3): its answer is in every list but those for Dirty tags with a state that has none, and those are empty.
pub nderr_listed : (q : Question) → Good issue_e q → no_such_tags q ≡ false → is_listed q nderr_answer ≡ true
nderr_listed q g h = sym (ap (λ (b : Bool). cond b (eqb (length (answers_to issue_e q)) 0) (is_listed q nderr_answer)) h) ∙ nderr_test q g

pub no_tags_no_answers : (q : Question) → Good issue_e q → no_such_tags q ≡ true → answers_to issue_e q ≡ []
no_tags_no_answers q g h =
    no_length (answers_to issue_e q) (sym (ap (λ (b : Bool). cond b (eqb (length (answers_to issue_e q)) 0) (is_listed q nderr_answer)) h) ∙ nderr_test q g)

-- THE LONGEST LIST (definition 11.6): no list has more than 57 answers, and one has so many.
pub at_most : (q : Question) → Good issue_e q → length (answers_to issue_e q) ≤ most_answers
at_most = most

pub longest_good : Good issue_e longest_question
longest_good = record { in_range = refl; known = refl }

pub longest : length (answers_to issue_e longest_question) ≡ most_answers
unfolding span_of spans
longest = list_length longest_question (good_fault longest_question longest_good)

-- So 9 is never met with a room of 570 bytes.
pub room_enough : (q : Question) (room : List ℕ) → answer_length * most_answers ≤ length room → Given issue_e q room 9 → ⊥
room_enough q room h (short_room g l) = omega (arith, most q g)

-- THE REFUSALS (definition 11.5): the number is given exactly when its row applies, and every call has a row.
pub list_refusals : (q : Question) (room : List ℕ) (n : ℕ) → (listed issue_e q room).result.number ≡ n ↔ Given issue_e q room n
list_refusals q room n = (λ h. subst (Given issue_e q room) h (given q room), λ g. gives g)

pub some_list_row : (q : Question) (room : List ℕ) → Given issue_e q room (listed issue_e q room).result.number
some_list_row = given

-- The place is always 0 (definition 11.4).
pub place_is_0 : (q : Question) (room : List ℕ) → (listed issue_e q room).result.place ≡ 0
place_is_0 q room = (small q room).place

-- An accepted call has the answers at the front of the room, and leaves the bytes behind them (definition 11.4).
pub accepted_list_lem : (q : Question) (room : List ℕ) → Given issue_e q room 0 → listed issue_e q room ≡ accepted_list (answers_to issue_e q) room
accepted_list_lem q room g = leaves g

-- A refused call has the count 0 and leaves the room as it was (definition 11.5).
pub refused_list_lem : (q : Question) (room : List ℕ) (n : ℕ) → Given issue_e q room n → (n ≡ 0 → ⊥) → listed issue_e q room ≡ refused_list n room
refused_list_lem q room n g h = leaves g ∙ ap (λ (b : Bool). cond b (accepted_list (answers_to issue_e q) room) (refused_list n room)) (ne_eqb n 0 h)

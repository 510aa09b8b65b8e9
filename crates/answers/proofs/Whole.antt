-- What a call of `list_answers` leaves, refused and accepted.
-- Assumes nothing.
use mathlib.Core.Path.{◌≡◌, refl, sym, ◌∙◌, ap, ap₂, subst}
use mathlib.Core.Bool.{Bool, true, cond, ◌&&◌}
use mathlib.Core.List.{List, ◌++◌, map}
use Prim.Native.Nat.{ℕ, ◌+◌, ◌*◌, ◌/◌, ◌%◌, ◌<◌, ◌≤◌}
use native.Mathlib.Omega.{arith}
use borrow.Author.Tests.{eq-eqb, ne_eqb, le-leb, lt-leb, leb-true, ltb-true}
use lib.Dec.{leb, ltb}
use lib.ListN.{length, get_or, take, drop, length-map}
use Rattle.std.specs.Prelude.{Ok, Err}
use Rattle.kinds.specs.Tests.{all}
use Rattle.kinds.specs.declared.Refusal.{Refusal}
use Rattle.kinds.specs.declared.Refusal.TheVariants.{Room}
use Rattle.kinds.specs.Refusals.{refusal_number}
use Rattle.kinds.proofs.Refusals.{not_accepted}
use Rattle.kinds.proofs.Lists.{and_left, and_right}
use Rattle.event.specs.Refusals.{issue_e}
use Rattle.answers.specs.declared.Question.{Question}
use Rattle.answers.specs.Answers.{answers_to}
use Rattle.answers.specs.Listed.{answer_length, fault_of, joined, in_numbers, list_left, result, accepted_list, refused_list, listed_in, listed}
use Rattle.answers.specs.declared.table.TheConstants.{LISTS, SPANS}
use Rattle.answers.specs.Table.{spans, numbers, number_count}
use Rattle.answers.specs.Code.{context_of, list_at, span_of, answer_at, answers_at, answers_in}
use Rattle.answers.proofs.Lists.{questions, question_at, every_question, table_right}
use Rattle.answers.proofs.Laws.{list_there, numbers_length, answers_length}

-- the context of a question lies within the lists, its list within the spans
in_tables_lem : Question → Bool
in_tables_lem q = ltb (context_of q) (length LISTS) && ltb (list_at (context_of q)) (length SPANS)

all_in_tables : all (λ b. in_tables_lem (question_at b)) questions ≡ true
unfolding in_tables_lem questions
all_in_tables = refl

in_tables : (q : Question) → fault_of issue_e q ≡ 0 → in_tables_lem q ≡ true
in_tables = every_question in_tables_lem all_in_tables

pub in_lists : (q : Question) → fault_of issue_e q ≡ 0 → context_of q < length LISTS
unfolding in_tables_lem
in_lists q h = ltb-true _ _ (and_left (ltb (context_of q) (length LISTS)) (ltb (list_at (context_of q)) (length SPANS)) (in_tables q h))

-- the list of a context, found in the code's array
pub list_found : (q : Question) → fault_of issue_e q ≡ 0 → (n : ℕ) → n ≡ context_of q → get_or LISTS n 0 ≡ list_at (context_of q)
list_found q h n e = ap (λ (k : ℕ). get_or LISTS k 0) e ∙ list_there (context_of q) (in_lists q h)

pub in_spans : (q : Question) → fault_of issue_e q ≡ 0 → (n : ℕ) → n ≡ context_of q → get_or LISTS n 0 < length SPANS
unfolding in_tables_lem
in_spans q h n e =
    subst (λ (k : ℕ). k < length SPANS) (sym (list_found q h n e))
    (ltb-true _ _ (and_right (ltb (context_of q) (length LISTS)) (ltb (list_at (context_of q)) (length SPANS)) (in_tables q h)))

-- a span lies within the numbers
span_fits_lem : Question → Bool
span_fits_lem q = leb ((span_of q / 64) + (span_of q % 64)) (length numbers)

all_fit : all (λ b. span_fits_lem (question_at b)) questions ≡ true
unfolding span_fits_lem questions span_of spans numbers
all_fit = refl

pub span_fits : (q : Question) → fault_of issue_e q ≡ 0 → (span_of q / 64) + (span_of q % 64) ≤ length numbers
unfolding span_fits_lem
span_fits q h =
    leb-true ((span_of q / 64) + (span_of q % 64)) (length numbers) (every_question span_fits_lem all_fit q h)

-- the number of answers is told by the span
pub list_length : (q : Question) → fault_of issue_e q ≡ 0 → length (answers_to issue_e q) ≡ (span_of q % 64)
unfolding answers_in
list_length q h = ap length (sym (table_right q h)) ∙ answers_length (span_of q / 64) (span_of q % 64) (span_fits q h)

-- what is left, by whether the question is refused with 4 or 5, and by whether the room is enough
pub left_fault : (q : Question) (room : List ℕ) → (fault_of issue_e q ≡ 0 → ⊥) → listed issue_e q room ≡ refused_list (fault_of issue_e q) room
unfolding listed
left_fault q room h = ap (λ (b : Bool). cond b (listed_in (answers_to issue_e q) room) (refused_list (fault_of issue_e q) room)) (ne_eqb (fault_of issue_e q) 0 h)

left_listed : (q : Question) (room : List ℕ) → fault_of issue_e q ≡ 0 → listed issue_e q room ≡ listed_in (answers_to issue_e q) room
unfolding listed
left_listed q room h = ap (λ (b : Bool). cond b (listed_in (answers_to issue_e q) room) (refused_list (fault_of issue_e q) room)) (eq-eqb (fault_of issue_e q) 0 h)

pub left_short : (q : Question) (room : List ℕ) → fault_of issue_e q ≡ 0 → length room < answer_length * length (answers_to issue_e q) → listed issue_e q room ≡ refused_list 9 room
left_short q room h l =
    left_listed q room h
    ∙ ap (λ (b : Bool). cond b (accepted_list (answers_to issue_e q) room) (refused_list 9 room)) (lt-leb (answer_length * length (answers_to issue_e q)) (length room) l)

pub left_accepted : (q : Question) (room : List ℕ) → fault_of issue_e q ≡ 0 → answer_length * length (answers_to issue_e q) ≤ length room
    → listed issue_e q room ≡ accepted_list (answers_to issue_e q) room
left_accepted q room h l =
    left_listed q room h
    ∙ ap (λ (b : Bool). cond b (accepted_list (answers_to issue_e q) room) (refused_list 9 room)) (le-leb (answer_length * length (answers_to issue_e q)) (length room) l)

-- the three ways out of `list_answers`
pub refused_question : (q : Question) (room : List ℕ) (r : Refusal) → refusal_number r ≡ fault_of issue_e q → list_left (in_numbers (Err r)) room ≡ listed issue_e q room
refused_question q room r h = ap (λ (n : ℕ). list_left (result n 0 0) room) h ∙ sym (left_fault q room (λ z. not_accepted r (h ∙ z)))

module _ (q : Question) (room : List ℕ) (start count : ℕ) (ok : fault_of issue_e q ≡ 0) (s : start ≡ span_of q / 64) (c : count ≡ span_of q % 64) where
  counted : length (answers_to issue_e q) ≡ count
  counted = list_length q ok ∙ sym c

  pub short_room : length room < count * answer_length → list_left (in_numbers (Err Room)) room ≡ listed issue_e q room
  short_room l = sym (left_short q room ok (omega (arith, counted)))

  pub fitting : start + count ≤ number_count
  fitting = omega (arith, s, c, span_fits q ok, numbers_length)

  pub accepted_question : (ns room' : List ℕ) → count * answer_length ≤ length room → ns ≡ take count (drop start numbers)
      → room' ≡ joined (map answer_at ns) ++ drop (answer_length * length ns) room → list_left (in_numbers (Ok count)) room' ≡ listed issue_e q room
  unfolding answers_in
  accepted_question ns room' l n put =
      let these : map answer_at ns ≡ answers_to issue_e q = ap (map answer_at) n ∙ ap₂ answers_at s c ∙ table_right q ok in
      let many : length ns ≡ length (answers_to issue_e q) = sym (length-map ns answer_at) ∙ ap length these in
      ap₂ (λ (m : ℕ) (x : List ℕ). list_left (result 0 0 m) x) (sym counted) put
      ∙ ap₂ (λ (ls : List (List ℕ)) (m : ℕ). list_left (result 0 0 (length (answers_to issue_e q))) (joined ls ++ drop (answer_length * m) room)) these many
      ∙ sym (left_accepted q room ok (omega (arith, counted)))

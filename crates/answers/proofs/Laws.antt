-- Laws about the code of `list_answers`, over plain variables.
-- Assumes nothing.
use mathlib.Core.Path.{◌≡◌, refl, sym, ◌∙◌, ap, ap₂}
use mathlib.Core.Bool.{Bool, true, false, cond}
use mathlib.Core.List.{List, [], ◌∷◌, ◌++◌, map, append_assoc, append-nil}
use Prim.Native.Nat.{ℕ, zero, suc, ◌+◌, ◌*◌, ◌/◌, ◌%◌, ◌<◌, ◌≤◌}
use native.Mathlib.Nat.{le_of_suc-le-suc}
use native.Mathlib.Numerals.{add-one}
use native.Mathlib.Omega.{arith}
use borrow.Author.Tests.{eqb-true, ltb-true}
use mir.Val.{bool_byte}
use denote.Enum.Declared.{tag_of}
use lib.Dec.{eqb, ltb}
use lib.ListN.{length, get_or, take, drop, set, length-append, length-drop, length-map}
use lib.Seq.{take-suc, take_at, drop-append-add, drop-drop, length-take-le}
use Rattle.std.proofs.lemmas.List.{set-append_right}
use Rattle.std.proofs.lemmas.List.Elements.{All-take, All-drop}
use Rattle.std.specs.List.{All}
use Rattle.kinds.specs.Tests.{all, same, ◌∈?◌}
use Rattle.kinds.specs.Codes.{RSP, DAT, OK, DERR}
use Rattle.kinds.specs.declared.Refusal.{Refusal}
use Rattle.kinds.specs.declared.RespErr.{RespErr}
use Rattle.kinds.proofs.Refusals.{one_to_one, not_accepted}
use Rattle.std.specs.Prelude.{Result, Ok, Err}
use Rattle.kinds.proofs.Lists.{and_left, and_right, each_below, same_equal}
use Rattle.rows.specs.Event.{request_of}
use Rattle.event.specs.Refusals.{issue_e, below, fault}
use Rattle.answers.specs.declared.Question.{Question}
use Rattle.answers.specs.Answers.{question_bytes}
use Rattle.answers.specs.declared.table.TheConstants.{LISTS, SPANS, NUMBERS, ANSWERS}
use Rattle.answers.specs.Table.{spans, numbers, answers, number_count, answer_count, first_on_dat}
use Rattle.answers.specs.Listed.{answer_length, asking, fault_of, joined, Listed, in_numbers}
use Rattle.answers.specs.Code.{list_at, ten_of, with_derr, IsAnswer, answer_at, answers_at}
use Rattle.answers.specs.declared.Tables.{Tables}
use Rattle.answers.specs.declared.Tables.TheVariants.{B46, B57, B59, B59WithB60, Unique, CleanInvalid, MakeInvalid}
use Rattle.answers.specs.contracts.Tables.{the_type}

-- the tables of a question are one of seven
pub few_tables : (t : Tables) → tag_of the_type t < 7
few_tables B46 = omega arith
few_tables B57 = omega arith
few_tables B59 = omega arith
few_tables B59WithB60 = omega arith
few_tables Unique = omega arith
few_tables CleanInvalid = omega arith
few_tables MakeInvalid = omega arith

-- a truth value is one of two
pub bit_below : (b : Bool) → bool_byte b < 2
bit_below true = omega arith
bit_below false = omega arith

-- the error field that a number stands for
pub error_by : (n : ℕ) (e : RespErr) → n < 256 → e ≡ cond (ltb n with_derr) (record { 0 = OK }) (record { 0 = DERR }) → e.0 ≡ n / with_derr % 2 * DERR
error_by n e l h = go (ltb n with_derr) h ∙ eqb-true _ _ (each_below (λ (k : ℕ). eqb (cond (ltb k with_derr) OK DERR) (k / with_derr % 2 * DERR)) 256 refl n l)
  where
    go : (b : Bool) → e ≡ cond b (record { 0 = OK }) (record { 0 = DERR }) → e.0 ≡ cond b OK DERR
    go true k = ap (λ (x : RespErr). x.0) k
    go false k = ap (λ (x : RespErr). x.0) k

-- a byte behind nine
pub nine_and_one : (front slot : List ℕ) (x : ℕ) → length front ≡ 9 → length slot ≡ 10 → set (front ++ drop 9 slot) 9 x ≡ front ++ (x ∷ [])
nine_and_one front slot x h k =
    set-append_right front (drop 9 slot) 9 9 x h (omega arith) ∙ ap (λ (l : List ℕ). front ++ l) (only (drop 9 slot) (length-drop 9 slot ∙ omega arith))
  where
    only : (l : List ℕ) → length l ≡ 1 → set l 0 x ≡ x ∷ []
    only [] e = absurd (omega arith)
    only (y ∷ []) e = refl
    only (y ∷ z ∷ l) e = absurd (omega arith)

-- lists joined, with one more behind them
joined_snoc : (ls : List (List ℕ)) (l : List ℕ) → joined (ls ++ (l ∷ [])) ≡ joined ls ++ l
joined_snoc [] l = append-nil l
joined_snoc (m ∷ ls) l = ap (λ (x : List ℕ). m ++ x) (joined_snoc ls l) ∙ sym (append_assoc m (joined ls) l)

map_snoc : (f : ℕ → List ℕ) (ns : List ℕ) (n : ℕ) → map f (ns ++ (n ∷ [])) ≡ map f ns ++ (f n ∷ [])
map_snoc f [] n = refl
map_snoc f (m ∷ ns) n = ap (λ (x : List (List ℕ)). f m ∷ x) (map_snoc f ns n)

-- THE CODE'S ARRAYS ARE THE LISTS OF THE DEFINITIONS, each computed: its lists of contexts,
pub list_there : (n : ℕ) → n < length LISTS → get_or LISTS n 0 ≡ list_at n
list_there n h = eqb-true _ _ (each_below (λ (k : ℕ). eqb (get_or LISTS k 0) (list_at k)) (length LISTS) refl n h)

-- its spans, in two numbers,
pub start_there : (n : ℕ) → n < length SPANS → (get_or SPANS n (0, 0)).0 ≡ get_or spans n 0 / 64
unfolding spans
start_there n h = eqb-true _ _ (each_below (λ (k : ℕ). eqb ((get_or SPANS k (0, 0)).0) (get_or spans k 0 / 64)) (length SPANS) refl n h)

pub count_there : (n : ℕ) → n < length SPANS → (get_or SPANS n (0, 0)).1 ≡ get_or spans n 0 % 64
unfolding spans
count_there n h = eqb-true _ _ (each_below (λ (k : ℕ). eqb ((get_or SPANS k (0, 0)).1) (get_or spans k 0 % 64)) (length SPANS) refl n h)

-- its numbers,
pub numbers_there : NUMBERS ≡ numbers
unfolding numbers
numbers_there = refl

pub numbers_length : length numbers ≡ number_count
unfolding numbers
numbers_length = refl

-- and its answers, with any error field behind them
nine_of : ℕ → List ℕ
nine_of n = take 9 (ten_of (cond (ltb n first_on_dat) RSP DAT) (get_or answers n 0) 0)

pub answer_there : (n : ℕ) → n < answer_count → (error : ℕ) → get_or ANSWERS n [] ++ (error ∷ []) ≡ ten_of (cond (ltb n first_on_dat) RSP DAT) (get_or answers n 0) error
unfolding nine_of
answer_there n h error =
    ap (λ (l : List ℕ). l ++ (error ∷ [])) (same_equal _ _ (each_below (λ (k : ℕ). same (get_or ANSWERS k []) (nine_of k)) answer_count refl n h))

-- the numbers of the table are those of answers
is_answer : ℕ → Bool
is_answer n = ltb (n % with_derr) answer_count

all_answers : (ns : List ℕ) → all is_answer ns ≡ true → All IsAnswer ns
unfolding is_answer
all_answers [] h k d l = absurd (omega arith)
all_answers (n ∷ ns) h zero d l = ltb-true _ _ (and_left (is_answer n) (all is_answer ns) h)
all_answers (n ∷ ns) h (suc k) d l = all_answers ns (and_right (is_answer n) (all is_answer ns) h) k d (le_of_suc-le-suc l)

pub numbers_of_answers : (start count : ℕ) → All IsAnswer (take count (drop start numbers))
unfolding is_answer numbers
numbers_of_answers start count = All-take IsAnswer count (drop start numbers) (All-drop IsAnswer start numbers (all_answers numbers refl))

-- answers joined have ten bytes each
joined_length : (ns : List ℕ) → length (joined (map answer_at ns)) ≡ answer_length * length ns
unfolding answer_at
joined_length [] = refl
joined_length (n ∷ ns) = length-append (answer_at n) (joined (map answer_at ns)) ∙ omega (arith, joined_length ns)

-- answers at numbers that are there
pub answers_length : (start count : ℕ) → start + count ≤ length numbers → length (answers_at start count) ≡ count
answers_length start count h =
    length-map (take count (drop start numbers)) answer_at ∙ length-take-le count (drop start numbers) (omega (arith, length-drop start numbers))

-- one answer more
answers_next : (ns : List ℕ) (k : ℕ) → k < length ns → joined (map answer_at (take (k + 1) ns)) ≡ joined (map answer_at (take k ns)) ++ answer_at (get_or ns k 0)
answers_next ns k h =
    ap (λ (xs : List ℕ). joined (map answer_at xs)) (ap (λ (n : ℕ). take n ns) (add-one k) ∙ take-suc ns k 0 h)
    ∙ ap joined (map_snoc answer_at (take k ns) (get_or ns k 0))
    ∙ joined_snoc (map answer_at (take k ns)) (answer_at (get_or ns k 0))

-- the loop of `put_answers`, after k answers and after one more
pub putting_next : (ns room₀ room slot : List ℕ) (k n : ℕ) → answer_length * length ns ≤ length room₀ → k < length ns → n ≡ answer_length
    → room ≡ joined (map answer_at (take k ns)) ++ drop (answer_length * k) room₀ → slot ≡ answer_at (get_or ns k 0)
    → take (k * answer_length) room ++ (slot ++ drop n (drop (k * answer_length) room)) ≡ joined (map answer_at (take (k + 1) ns)) ++ drop (answer_length * (k + 1)) room₀
putting_next ns room₀ room slot k n h l e p s =
    sym (append_assoc (take (k * answer_length) room) slot (drop n (drop (k * answer_length) room)))
    ∙ ap₂ (λ (x y : List ℕ). x ++ slot ++ y) front back
    ∙ ap (λ (x : List ℕ). joined (map answer_at (take k ns)) ++ x ++ drop (answer_length * (k + 1)) room₀) s
    ∙ ap (λ (x : List ℕ). x ++ drop (answer_length * (k + 1)) room₀) (sym (answers_next ns k l))
  where
    long : length (joined (map answer_at (take k ns))) ≡ k * answer_length
    long = joined_length (take k ns) ∙ omega (arith, length-take-le k ns (omega arith))

    front : take (k * answer_length) room ≡ joined (map answer_at (take k ns))
    front = ap (take (k * answer_length)) p ∙ take_at (joined (map answer_at (take k ns))) (drop (answer_length * k) room₀) (k * answer_length) long

    back : drop n (drop (k * answer_length) room) ≡ drop (answer_length * (k + 1)) room₀
    back =
        let behind : k * answer_length ≡ length (joined (map answer_at (take k ns))) + 0 = omega (arith, long) in
        let further : answer_length * k + n ≡ answer_length * (k + 1) = omega arith in
        ap (drop n)
        (ap₂ drop behind p ∙ drop-append-add (joined (map answer_at (take k ns))) (drop (answer_length * k) room₀) 0)
        ∙ drop-drop n (answer_length * k) room₀
        ∙ ap (λ (m : ℕ). drop m room₀) further

-- the refusal by the two tests of a question
pub fault_tests : (q : Question) (b r : Bool) → below (question_bytes q) 1 (asking issue_e).limits ≡ b → request_of (question_bytes q) ∈? issue_e.requests ≡ r
    → fault_of issue_e q ≡ cond b (cond r 0 5) 4
unfolding fault
fault_tests q b r hb hr = ap₂ (λ (x y : Bool). cond x (cond y 0 5) 4) hb hr

-- NO TWO RESULTS HAVE THE SAME NUMBERS.
pub same_numbers : (r s : Result ℕ Refusal) → in_numbers r ≡ in_numbers s → r ≡ s
same_numbers (Ok n) (Ok m) h = ap (λ (l : Listed). Ok l.count) h
same_numbers (Ok n) (Err s) h = absurd (not_accepted s (sym (ap (λ (l : Listed). l.number) h)))
same_numbers (Err r) (Ok m) h = absurd (not_accepted r (ap (λ (l : Listed). l.number) h))
same_numbers (Err r) (Err s) h = ap (λ (x : Refusal). Err x) (one_to_one (ap (λ (l : Listed). l.number) h))

-- Laws about writing lines into a buffer: the parts of a line make the line, a line is at most so long, and a buffer with room holds it
-- afterwards. Assumes nothing.
use mathlib.Core.Path.{◌≡◌, refl, sym, ◌∙◌, ap}
use mathlib.Core.Bool.{Bool, true, false, cond}
use mathlib.Core.List.{List, [], ◌∷◌, ◌++◌, append_assoc, append-nil}
use Prim.Native.Nat.{ℕ, ◌+◌, ◌%◌, ◌^◌, ◌≤◌, ◌<◌}
use native.Mathlib.Nat.{le_trans, le_of_eq, add-le-add}
use native.Mathlib.Omega.{arith}
use borrow.Author.Tests.{leb-true}
use lib.Dec.{eqb, leb}
use lib.ListN.{length, take, drop, length-append}
use Rattle.kinds.specs.Tests.{all}
use Rattle.kinds.specs.Codes.{I, UC, UCE, UD, UDP, SC, SD}
use Rattle.kinds.proofs.Lists.{and_left, and_right}
use Rattle.sets.specs.Sets.{bit}
use Rattle.verdicts.specs.declared.Finding.{Finding}
use Rattle.text.specs.Text.{bytes, comma, eol}
use Rattle.replies.specs.Laid.{laid, lay, lay_all, concat}
use Rattle.replies.specs.Replies.{room, space, decimal_text, Word, word_for, verdict_names, duty_names, verdict_text, duty_text}
use Rattle.replies.specs.Replies.{states_text, header_line, answer_line, refused_line, state_text, states_texts, answer_texts, refusal_texts}
use Rattle.replies.specs.Code.{explained_text}
pub use Rattle.replies.proofs.Laying.{lay_fits, lay_short, lay_nothing, lay_lay, lay_all_lem, lay_all_append, length_in, length_lay}
pub use Rattle.replies.proofs.Decimal.{decimal_one, decimal_small, decimal_step, decimal_short}
pub use Rattle.replies.proofs.States.{concat_states}

-- two lists of texts joined
concat_append : (ss ts : List (List ℕ)) → concat (ss ++ ts) ≡ concat ss ++ concat ts
concat_append [] ts = refl
concat_append (s ∷ ss) ts = ap (λ (r : List ℕ). s ++ r) (concat_append ss ts) ∙ sym (append_assoc s (concat ss) (concat ts))

-- the five parts of an output line, joined
parts_of_five : (c n v d t e : List ℕ) → n ++ (c ++ v ++ c ++ (d ++ c ++ (t ++ (e ++ [])))) ≡ n ++ (c ++ v) ++ (c ++ d) ++ (c ++ t) ++ e
parts_of_five c n v d t e = simp (append_assoc, append-nil)

-- the parts of an event's output line make the line
pub concat_answer : (k : ℕ) (found : Finding) → concat (answer_texts k found) ≡ answer_line k found
unfolding answer_texts answer_line
concat_answer k found =
    ap (λ (r : List ℕ). decimal_text k ++ ((comma ∷ verdict_text found.verdict.0 ++ comma ∷ []) ++ ((duty_text found.duty.0 ++ comma ∷ []) ++ r)))
    (concat_append (states_texts found.after) (eol ∷ [])
    ∙ ap (λ (r : List ℕ). r ++ (eol ++ [])) (concat_states found.after))
    ∙ parts_of_five (comma ∷ []) (decimal_text k) (verdict_text found.verdict.0) (duty_text found.duty.0) (states_text found.after) eol

parts_of_three : (n l e : List ℕ) → bytes "refused," ++ (n ++ ((comma ∷ []) ++ (l ++ (e ++ [])))) ≡ bytes "refused" ++ comma ∷ n ++ comma ∷ l ++ e
parts_of_three n l e = simp (append_assoc, append-nil)

-- the parts of a refusal's line make the line
pub concat_refusal : (number line : ℕ) → concat (refusal_texts number line) ≡ refused_line number line
unfolding refusal_texts refused_line
concat_refusal number line = parts_of_three (decimal_text number) (decimal_text line) eol

-- How long a line can be.

length_cond : (b : Bool) (s t : List ℕ) (n : ℕ) → length s ≤ n → length t ≤ n → length (cond b s t) ≤ n
length_cond true s t n h k = h
length_cond false s t n h k = k

-- no word is longer than the longest one, or than `unknown`
word_short : (n : ℕ) (ws : List Word) (code : ℕ) → all (λ (w : Word). leb (length w.text) n) ws ≡ true → 7 ≤ n → length (word_for ws code) ≤ n
word_short n [] code h k = k
word_short n (w ∷ ws) code h k =
    length_cond (eqb code w.code) w.text (word_for ws code) n (leb-true (length w.text) n (and_left _ (all (λ (x : Word). leb (length x.text) n) ws) h))
    (word_short n ws code (and_right (leb (length w.text) n) _ h) k)

verdict_short : (v : ℕ) → length (verdict_text v) ≤ 11
unfolding verdict_text
verdict_short v = word_short 11 verdict_names v refl (omega arith)

duty_short : (d : ℕ) → length (duty_text d) ≤ 9
unfolding duty_text
duty_short d = word_short 9 duty_names d refl (omega arith)

-- verdict and duty of an explained event
pub explained_short : (d : ℕ) → length (explained_text d) ≤ 21
unfolding verdict_text
explained_short d =
    omega (arith, length-append (duty_text d) (comma ∷ []), duty_short d)

state_short : (m n : ℕ) (name : List ℕ) → length (state_text m n name) ≤ 1 + length name
state_short m n name =
    length_cond (bit m n) (cond (eqb (m % 2 ^ n) 0) name (space ∷ name)) [] (1 + length name)
    (length_cond (eqb (m % 2 ^ n) 0) name (space ∷ name) (1 + length name) (omega arith) (omega arith)) (omega arith)

length_seven : (a b c d e f g : List ℕ) → length (a ++ (b ++ (c ++ (d ++ (e ++ (f ++ (g ++ [])))))))
    ≡ length a + length b + length c + length d + length e + length f + length g
length_seven a b c d e f g = simp (append-nil, length-append) (omega arith)

states_in_parts : (m : ℕ) → length (concat (states_texts m)) ≤ 22
unfolding states_texts
states_in_parts m =
    let e : length (concat (states_texts m)) ≡ length (state_text m I (bytes "I")) + length (state_text m UC (bytes "UC"))
    + length (state_text m UCE (bytes "UCE")) + length (state_text m UD (bytes "UD")) + length (state_text m UDP (bytes "UDP"))
    + length (state_text m SC (bytes "SC")) + length (state_text m SD (bytes "SD")) =
    length_seven (state_text m I (bytes "I")) (state_text m UC (bytes "UC")) (state_text m UCE (bytes "UCE")) (state_text m UD (bytes "UD"))
    (state_text m UDP (bytes "UDP")) (state_text m SC (bytes "SC")) (state_text m SD (bytes "SD")) in
    le_trans (le_of_eq e)
    (add-le-add (add-le-add (add-le-add (add-le-add (add-le-add (add-le-add
    (state_short m I (bytes "I")) (state_short m UC (bytes "UC"))) (state_short m UCE (bytes "UCE"))) (state_short m UD (bytes "UD")))
    (state_short m UDP (bytes "UDP"))) (state_short m SC (bytes "SC"))) (state_short m SD (bytes "SD")))

states_short : (m : ℕ) → length (states_text m) ≤ 22
states_short m = omega (arith, states_in_parts m, ap length (concat_states m))

length_five : (n v d t e : List ℕ) → length (n ++ v ++ d ++ t ++ e) ≡ length n + length v + length d + length t + length e
length_five n v d t e = simp length-append

-- the output line of an event below ten million fits into `room` bytes
pub answer_short : (k : ℕ) (found : Finding) → k < 10 ^ 7 → length (answer_line k found) ≤ room
unfolding answer_line
answer_short k found h =
    let v : length (verdict_text found.verdict.0) ≤ 11 = verdict_short found.verdict.0 in
    let d : length (duty_text found.duty.0) ≤ 9 = duty_short found.duty.0 in
    let t : length (states_text found.after) ≤ 22 = states_short found.after in
    let n : length (decimal_text k) ≤ 7 = decimal_short 6 k h in
    le_trans
    (le_of_eq
    (length_five (decimal_text k) (comma ∷ verdict_text found.verdict.0) (comma ∷ duty_text found.duty.0) (comma ∷ states_text found.after) eol))
    (omega arith)

length_four : (r n l e : List ℕ) → length (r ++ n ++ l ++ e) ≡ length r + length n + length l + length e
length_four r n l e = simp length-append

-- a refusal of a line below ten thousand million fits too
pub refusal_short : (number line : ℕ) → number < 256 → line < 10 ^ 10 → length (refused_line number line) ≤ room
unfolding refused_line
refusal_short number line h k =
    let n : length (decimal_text number) ≤ 3 = decimal_short 2 number (omega arith) in
    let l : length (decimal_text line) ≤ 10 = decimal_short 9 line k in
    le_trans (le_of_eq (length_four (bytes "refused") (comma ∷ decimal_text number) (comma ∷ decimal_text line) eol)) (omega arith)

-- What a buffer with room holds after a line is written.

-- parts written where there is room for the whole text
parts_laid : (at : ℕ) (out : List ℕ) (ss : List (List ℕ)) (s : List ℕ) → concat ss ≡ s → at + length s ≤ length out
    → lay_all (laid at out) ss ≡ laid (at + length s) (take at out ++ s ++ drop (at + length s) out)
parts_laid at out ss s e h =
    lay_all_lem (laid at out) ss (omega (arith, ap length e)) ∙ ap (lay (laid at out)) e ∙ lay_fits (laid at out) s h

-- after an output line of an event
pub answer_laid : (at k : ℕ) (out : List ℕ) (found : Finding) → at + room ≤ length out → k < 10 ^ 7
    → lay_all (laid at out) (answer_texts k found)
    ≡ laid (at + length (answer_line k found)) (take at out ++ answer_line k found ++ drop (at + length (answer_line k found)) out)
answer_laid at k out found roomy h =
    parts_laid at out (answer_texts k found) (answer_line k found) (concat_answer k found) (omega (arith, answer_short k found h))

-- after the line of a refusal
pub refusal_laid : (at number line : ℕ) (out : List ℕ) → at + room ≤ length out → number < 256 → line < 10 ^ 10
    → lay_all (laid at out) (refusal_texts number line)
    ≡ laid (at + length (refused_line number line)) (take at out ++ refused_line number line ++ drop (at + length (refused_line number line)) out)
refusal_laid at number line out roomy h k =
    parts_laid at out (refusal_texts number line) (refused_line number line) (concat_refusal number line) (omega (arith, refusal_short number line h k))

header_length : length header_line ≡ 27
unfolding header_line
header_length = refl

-- after the header
pub header_laid : (at : ℕ) (out : List ℕ) → at + room ≤ length out
    → lay (laid at out) header_line ≡ laid (at + length header_line) (take at out ++ header_line ++ drop (at + length header_line) out)
header_laid at out roomy = lay_fits (laid at out) header_line (omega (arith, header_length))

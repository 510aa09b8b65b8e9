-- Laws about a pair number that is read in place, digit by digit, and about a flag.
-- Assumes nothing.
use Rattle.std.proofs.Common.{Some}
use mathlib.Core.Path.{◌≡◌, refl, sym, ◌∙◌, ap, ap₂, subst}
use mathlib.Core.Bool.{Bool, true, false, not, cond, ◌&&◌, ◌||◌}
use mathlib.Core.List.{List, [], ◌∷◌, ◌++◌}
use Prim.Native.Nat.{ℕ, suc, ◌+◌, ◌-◌, ◌*◌, ◌^◌, ◌≤◌, ◌<◌}
use native.Mathlib.Nat.{add-zero, pow-suc, pow-le-pow_right}
use native.Mathlib.Numerals.{add-one}
use native.Mathlib.Omega.{arith}
use borrow.Author.Tests.{not-false, leb-true, lt-ltb, le-leb, eqb-true, eqb-false, ne_eqb}
use lib.Dec.{eqb, ltb, leb}
use lib.ListN.{length, get_or, take, drop, length-drop, length-append}
use lib.Seq.{take-suc, get_or-drop, length-take-le, get_or-take}
use Rattle.kinds.specs.Tests.{all}
use Rattle.kinds.proofs.Lists.{and_left, and_right, and_both, neither, all_append}
use Rattle.text.specs.Text.{comma, CR}
use Rattle.names.specs.Names.{unknown, most_digits, is_digit, read_decimal, pair_of}
use Rattle.names.proofs.Laws.{pair_digits}
use Rattle.first_line.specs.declared.in_place.Digits.{Digits}
use Rattle.parser.specs.Parsed.{known}
use Rattle.first_line.specs.InPlace.{word_length, Passed, plain, Takes, DigitsAt}

-- the number of some digits and one more
read_snoc : (v : ℕ) (s : List ℕ) (d : ℕ) → read_decimal v (s ++ (d ∷ [])) ≡ read_decimal v s * 10 + (d - 48)
unfolding read_decimal
read_snoc v [] d = refl
read_snoc v (x ∷ s) d = read_snoc (v * 10 + (x - 48)) s d

-- `value` is the number of the first `count` bytes at the offset, which are digits
abbrev pub Reading : List ℕ → ℕ → ℕ → ℕ → Type 0
Reading text at value count = DigitsAt text at (record { count = count; value = value })

pub reading_start : (text : List ℕ) (at : ℕ) → Reading text at 0 0
unfolding read_decimal
reading_start text at = record { few = omega arith; small = omega arith; digits_so = refl; value_so = refl }

one_more : (p v d : ℕ) → v < p → d ≤ 57 → v * 10 + (d - 48) < p * 10
one_more p v d h k = omega arith

pub reading_next : {text : List ℕ} {at value count : ℕ} → Reading text at value count → count < most_digits → at + word_length ≤ length text
    → is_digit (get_or text (at + count) 0) ≡ true → Reading text at (value * 10 + (get_or text (at + count) 0 - 48)) (count + 1)
reading_next {text} {at} {value} {count} r h room t =
    let d : ℕ = get_or text (at + count) 0 in
    let s : List ℕ = drop at text in
    let more : take (count + 1) s ≡ take count s ++ (d ∷ []) =
    ap (λ (k : ℕ). take k s) (add-one count) ∙ take-suc s count 0 (subst (λ (n : ℕ). count < n) (sym (length-drop at text)) (omega arith))
    ∙ ap (λ (x : ℕ). take count s ++ (x ∷ [])) (get_or-drop at text count 0) in
    record {
      few = omega arith;
      small = rw (add-one, pow-suc) (one_more (10 ^ count) value d r.small (leb-true d 57 (and_right (leb 48 d) (leb d 57) t)));
      digits_so = ap (all is_digit) more ∙ all_append is_digit (take count s) (d ∷ []) ∙ and_both r.digits_so (and_both t refl);
      value_so = ap (λ (v : ℕ). v * 10 + (d - 48)) r.value_so ∙ sym (ap (read_decimal 0) more ∙ read_snoc 0 (take count s) d);
    }

-- a digit is neither a comma nor CR
digit_plain : (d : ℕ) → is_digit d ≡ true → plain d ≡ true
digit_plain d h =
    let low : 48 ≤ d = leb-true 48 d (and_left (leb 48 d) (leb d 57) h) in
    and_both (ap not (ne_eqb d comma (λ e. omega arith))) (ap not (ne_eqb d CR (λ e. omega arith)))

digits_plain : (s : List ℕ) → all is_digit s ≡ true → all plain s ≡ true
digits_plain [] h = refl
digits_plain (d ∷ s) h = and_both (digit_plain d (and_left (is_digit d) (all is_digit s) h)) (digits_plain s (and_right (is_digit d) (all is_digit s) h))

-- so many bytes, and a comma behind them
front_then : (text : List ℕ) (at count : ℕ) → at + count < length text → get_or text (at + count) 0 ≡ comma
    → Passed (take count (drop at text) ++ (comma ∷ [])) text at (at + count + 1)
front_then text at count h e =
    let s : List ℕ = drop at text in
    let long : length s ≡ length text - at = length-drop at text in
    let front : length (take count s) ≡ count = length-take-le count s (omega arith) in
    let n : length (take count s ++ (comma ∷ [])) ≡ suc count = length-append (take count s) (comma ∷ []) ∙ omega arith in
    record {
      here = ap (λ (k : ℕ). take k s) n ∙ take-suc s count 0 (omega arith) ∙ ap (λ (x : ℕ). take count s ++ (x ∷ [])) (get_or-drop at text count 0 ∙ e);
      next_so = omega arith;
    }

-- a pair number of at most five digits is not the sentinel
pair_known : (count value : ℕ) → count ≤ most_digits → value < 10 ^ count → known value ≡ true
pair_known count value few small =
    ap not (ne_eqb value unknown (λ e. omega (arith, pow-le-pow_right {n = 10} (omega arith) few)))

-- the field of a pair: its digits, then a comma, and no leading zero
pub pair_met : (text : List ℕ) (at : ℕ) (found : Digits) → DigitsAt text at found → at + word_length ≤ length text
    → eqb found.count 0 || not (eqb (get_or text (at + found.count) 0) comma) ≡ false
    → eqb (get_or text at 0) 48 && ltb 1 found.count ≡ false
    → Takes [] pair_of (comma ∷ []) text at (Some (record { code = found.value; next = at + found.count + 1 }))
pair_met text at found d room h z =
    let count : ℕ = found.count in
    let s : List ℕ = drop at text in
    let field : List ℕ = take count s in
    let few : count ≤ 5 = d.few in
    let none = neither (eqb count 0) (not (eqb (get_or text (at + count) 0) comma)) h in
    let ends : get_or text (at + count) 0 ≡ comma =
    eqb-true (get_or text (at + count) 0) comma (not-false (eqb (get_or text (at + count) 0) comma) none.1) in
    let pos : 0 < count = omega (arith, eqb-false count 0 none.0) in
    let long : length s ≡ length text - at = length-drop at text in
    let front : length field ≡ count = length-take-le count s (omega arith) in
    let start : get_or field 0 0 ≡ get_or text at 0 = get_or-take count s 0 0 pos ∙ get_or-drop at text 0 0 ∙ ap (λ (i : ℕ). get_or text i 0) (add-zero at) in
    record {
      met = record {
        rest = field;
        stands = front_then text at count (omega arith) ends;
        plainly = digits_plain field d.digits_so;
        code_so =
            sym (pair_digits field
            (ap not (and_both (lt-ltb 0 (length field) (omega arith)) (le-leb (length field) most_digits (omega arith))))
            (ap₂ (λ (x n : ℕ). eqb x 48 && ltb 1 n) start front ∙ z)
            (d.value_so ∙ ap (λ (b : Bool). cond b (read_decimal 0 field) unknown) (sym d.digits_so)));
        known_so = pair_known count found.value d.few d.small;
      };
    }

-- Laws about bytes matched in place, and the fields that are made of them.
-- Assumes nothing.
use Rattle.std.proofs.Common.{Option, None, Some, MatchOption, IfSome}
use mathlib.Core.Path.{◌≡◌, refl, sym, ◌∙◌, ap, ap₂, subst}
use mathlib.Core.Bool.{Bool, true, ◌&&◌}
use mathlib.Core.List.{List, [], ◌∷◌, ◌++◌, append_assoc}
use Prim.Native.Nat.{ℕ, zero, suc, ◌+◌, ◌-◌, ◌*◌, ◌/◌, ◌%◌, ◌^◌, ◌≤◌, ◌<◌}
use native.Mathlib.Nat.{pow-suc, pow-le-pow_right, mod-eq_of_lt, one-mul, mul-suc}
use lib.Pow.{pow-add, pow-lt}
use native.Mathlib.Omega.{arith}
use borrow.Author.Tests.{leb-true, eqb-true}
use mir.Syntax.{w8}
use mir.Val.{Fits}
use lib.Arith.{mod-mul}
use lib.Dec.{eqb, leb}
use lib.ListN.{length, get_or, take, drop, length-append}
use lib.Seq.{drop-cons, drop-drop, take-add}
use Rattle.kinds.specs.Tests.{all, same}
use Rattle.kinds.proofs.Lists.{and_left, and_right, and_both, all_append, same_equal}
use Rattle.words.specs.Words.{word, word_of}
use Rattle.words.proofs.Laws.{bytes_from, word_of_lem, word_last}
use Rattle.parser.specs.declared.Taken.{Taken}
use Rattle.parser.specs.Parsed.{known}
use Rattle.first_line.specs.InPlace.{word_length, Passed, Behind, Ends, plain, Takes}

-- BYTES AND NUMBERS

-- enough bytes are at hand
pub roomy : (at len : ℕ) → true ≡ leb (at + word_length) len → at + word_length ≤ len
roomy at len e = leb-true (at + word_length) len (sym e)

-- a number modulo a power of 256, by its bits
pub shifted : (w n : ℕ) → n < 8 → w % (1 * 2 ^ (8 * n) % 2 ^ 64) ≡ w % 256 ^ n
shifted w n h = ap (λ (m : ℕ). w % m) (rw one-mul (mod-eq_of_lt small) ∙ bits n)
  where
    bits : (k : ℕ) → 2 ^ (8 * k) ≡ 256 ^ k
    bits zero = refl
    bits (suc k) = ap (λ (m : ℕ). 2 ^ m) (mul-suc 8 k) ∙ pow-add 2 (8 * k) 8 ∙ ap (λ (m : ℕ). m * 256) (bits k) ∙ sym (pow-suc 256 k)

    small : 2 ^ (8 * n) < 2 ^ 64
    small = pow-lt {j = 64} (omega arith)

-- a word has no more than eight bytes
pub whole_word : (w n : ℕ) → w < 2 ^ 64 → 8 ≤ n → w ≡ w % 256 ^ n
whole_word w n h k = sym (mod-eq_of_lt (omega (arith, pow-le-pow_right {n = 256} (omega arith) k)))

power_pos : (k : ℕ) → 0 < 256 ^ k
power_pos zero = omega arith
power_pos (suc k) = subst (λ (n : ℕ). 0 < n) (sym (pow-suc 256 k)) (omega (arith, power_pos k))

-- the first bytes of a text are those of a number's
same_bytes : (b : List ℕ) → ((i : ℕ) → get_or b i 0 < 256) → (p : List ℕ) → ((i : ℕ) → get_or p i 0 < 256) → (at n : ℕ) → length p ≤ n
    → word_of (bytes_from b at n) % 256 ^ length p ≡ word_of p → at + length p ≤ length b → take (length p) (drop at b) ≡ p
same_bytes b bytes [] small at n l e k = refl
same_bytes b bytes (x ∷ p) small at zero l e k = absurd (omega arith)
same_bytes b bytes (x ∷ p) small at (suc n) l e k =
    let y : ℕ = get_or b at 0 in
    let rest : ℕ = word_of (bytes_from b (suc at) n) in
    let parted = split rest y (256 ^ length p) (word_of p) x (power_pos (length p)) (bytes at) (small 0)
    (ap (λ (m : ℕ). (rest * 256 + y) % m) (sym (pow-suc 256 (length p))) ∙ e) in
    ap (take (suc (length p))) (drop-cons b at 0 (omega arith))
    ∙ ap₂ ◌∷◌ parted.1 (same_bytes b bytes p (λ i. small (suc i)) (suc at) n (omega arith) parted.0 (omega arith))
  where
    split : (r y m q x : ℕ) → 0 < m → y < 256 → x < 256 → (r * 256 + y) % (m * 256) ≡ q * 256 + x → (r % m ≡ q) × (y ≡ x)
    split r y m q x pos h k e =
        let n : ℕ = r * 256 + y in
        let high : n / 256 ≡ r = omega arith in
        let low : n % 256 ≡ y = omega arith in
        let f : r % m * 256 + y ≡ q * 256 + x =
        ap₂ (λ (a b : ℕ). a % m * 256 + b) (sym high) (sym low) ∙ sym (mod-mul n pos (omega arith)) ∙ e in
        (omega arith, omega arith)

-- the test of `behind`
pub matched : (text name : List ℕ) {at w v f : ℕ} → ((i : ℕ) → Fits w8 (get_or text i 0)) → ((i : ℕ) → Fits w8 (get_or name i 0))
    → length name ≤ word_length → at + word_length ≤ length text → w ≡ word text at → f ≡ w % 256 ^ length name → v ≡ word name 0 → f ≡ v
    → Behind name text at (Some (at + length name))
matched text name {at} {w} {v} {f} bytes small k room h g m t = record {
  passed = record {
    here = same_bytes text (λ i. (bytes i).fits) name (λ i. (small i).fits) at 8 k
        (ap (λ (x : ℕ). x % 256 ^ length name) (sym (word_of_lem text at) ∙ sym h) ∙ sym g ∙ t ∙ m ∙ sym (word_last name 0 (omega arith)))
        (omega arith);
    next_so = refl;
  };
}

-- a second part stands right behind a first
pub passed_both : {p q text : List ℕ} {at next end : ℕ} → Passed p text at next → Passed q text next end → Passed (p ++ q) text at end
passed_both {p} {q} {text} {at} {next} {end} a b = record {
  here =
      ap (λ (k : ℕ). take k (drop at text)) (length-append p q)
      ∙ take-add (length p) (length q) (drop at text)
      ∙ ap₂ ◌++◌ a.here (ap (take (length q)) (drop-drop (length p) at text ∙ ap (λ (k : ℕ). drop k text) (sym a.next_so)) ∙ b.here);
  next_so = let n : length (p ++ q) ≡ length p + length q = length-append p q in omega (arith, a.next_so, b.next_so);
}

-- A FIELD

-- behind a front, a column knows the rest of a field by this code; the mark stands behind it, and no comma or CR is in it
abbrev pub names : List ℕ → (List ℕ → ℕ) → List ℕ → List ℕ → ℕ → Bool
names front column mark name code =
    let rest : List ℕ = take (length name - length mark) name in
    same (rest ++ mark) name && (all plain rest && (eqb (column (front ++ rest)) code && known code))

-- one whose name ends there
pub took_end : {front mark text name : List ℕ} {column : List ℕ → ℕ} {at code : ℕ} {r : Option Taken} → Ends name code text at r
    → names front column mark name code ≡ true → Takes front column mark text at r
took_end {r = None} e h = record { met = tt }
took_end {front} {mark} {text} {name} {column} {at} {code} {r = Some t} e h =
    let rest : List ℕ = take (length name - length mark) name in
    let known_so : Bool = eqb (column (front ++ rest)) code && known code in
    let h₁ = and_right (same (rest ++ mark) name) (all plain rest && known_so) h in
    let h₂ = and_right (all plain rest) known_so h₁ in
    record {
      met = record {
        rest = rest;
        stands =
            subst (λ (s : List ℕ). Passed s text at t.next)
            (sym (same_equal (rest ++ mark) name (and_left (same (rest ++ mark) name) (all plain rest && known_so) h))) e.ended.stands;
        plainly = and_left (all plain rest) known_so h₁;
        code_so = eqb-true (column (front ++ rest)) code (and_left (eqb (column (front ++ rest)) code) (known code) h₂) ∙ sym e.ended.code_so;
        known_so = ap known e.ended.code_so ∙ and_right (eqb (column (front ++ rest)) code) (known code) h₂;
      };
    }

-- a part of a field stands there, and the rest of the field is taken behind it
pub took_rest : {front part further mark text : List ℕ} {column : List ℕ → ℕ} {at next : ℕ} {b : Option ℕ} {r : Option Taken} → Behind part text at b → b ≡ Some next
    → Takes further column mark text next r → same (front ++ part) further && all plain part ≡ true → Takes front column mark text at r
took_rest {r = None} p e m h = record { met = tt }
took_rest {front} {part} {further} {mark} {text} {column} {at} {next} {b} {r = Some t} p e m h = record {
  met = record {
    rest = part ++ m.met.rest;
    stands = subst (λ (s : List ℕ). Passed s text at t.next) (sym (append_assoc part m.met.rest mark)) (passed_both (subst (λ (o : Option ℕ). IfSome o (Passed part text at)) e p.passed) m.met.stands);
    plainly = all_append plain part m.met.rest ∙ and_both (and_right (same (front ++ part) further) (all plain part) h) m.met.plainly;
    code_so =
        ap column (sym (append_assoc front part m.met.rest)
        ∙ ap (λ (s : List ℕ). s ++ m.met.rest) (same_equal (front ++ part) further (and_left (same (front ++ part) further) (all plain part) h)))
        ∙ m.met.code_so;
    known_so = m.met.known_so;
  };
}

-- two parts stand there, and a field ends with them
pub ends_both : {p q text : List ℕ} {code at next : ℕ} {b : Option ℕ} {r : Option Taken} → Behind p text at b → b ≡ Some next
    → Ends q code text next r → Ends (p ++ q) code text at r
ends_both {r = None} p e m = record { ended = tt }
ends_both {p} {q} {text} {at = at} {r = Some t} b e m = record {
  ended = record {
    stands = passed_both (subst (λ (o : Option ℕ). IfSome o (Passed p text at)) e b.passed) m.ended.stands;
    code_so = m.ended.code_so;
  };
}

-- one of two, the first that is taken
pub took_either : {front mark text : List ℕ} {column : List ℕ → ℕ} {at : ℕ} {r s : Option Taken} {P : Type 0}
    → Takes front column mark text at r → MatchOption r P (λ (t : Taken). s ≡ Some t) → (P → Takes front column mark text at s)
    → Takes front column mark text at s
took_either {front} {mark} {text} {column} {at} {r = Some t} a m b = subst (Takes front column mark text at) (sym m) a
took_either {r = None} a m b = b m

-- the laws by which a field is taken
pub ruleset fields = (took_end, took_rest, took_either)

-- Laws about the end of a line: where CR and CR LF stand, and where the search for them stops.
-- Assumes nothing.
use mathlib.Core.Path.{◌≡◌, refl, sym, ◌∙◌, ap, ap₂, subst}
use mathlib.Core.Bool.{Bool, true, false, cond, not, ◌&&◌}
use mathlib.Core.List.{List, [], ◌∷◌}
use Prim.Native.Nat.{ℕ, zero, suc, ◌+◌, ◌-◌, ◌≤◌, ◌<◌, min}
use native.Mathlib.Nat.{add-zero, zero-add, add_assoc, add-suc, suc-add, sub-zero, suc-min-suc, zero-min, min-zero}
use native.Mathlib.Numerals.{add-one}
use native.Mathlib.Omega.{arith}
use borrow.Author.Tests.{ltb-false}
use lib.ListN.{length, take, drop, drop_of_length-le, length-drop}
use lib.Seq.{drop-cons, drop-drop}
use lib.Dec.{eqb, ltb}
use Rattle.std.specs.Prelude.{Option, Some, None}
use Rattle.std.specs.Option.{unwrap_or}
use Rattle.std.specs.List.{position, position_or_len}
use Rattle.std.proofs.lemmas.List.Sums.{prefix_len-le-length}
use Rattle.text.specs.Text.{CR, LF}
use Rattle.lines.specs.Lines.{crlf}
use Rattle.lines.specs.Seen.{too_long, reach, line_end}
use Rattle.lines.specs.Code.{before_cr}

-- bytes that do not begin with CR do not begin with CR LF
pub first_CR : (x : ℕ) (s : List ℕ) → eqb x CR ≡ false → crlf (x ∷ s) ≡ false
first_CR x [] h = refl
first_CR x (y ∷ s) h = ap (λ b. b && eqb y LF) h

-- a place before the last leaves one byte more to look at than the next place
one_left : (last at : ℕ) → at < last → last - at ≡ suc (last - (at + 1))
one_left last at h = omega (arith, h)

-- what is counted from the next place on, and one more, is counted from this place on
one_on : (count : ℕ → ℕ) (at : ℕ) → at + suc (count (suc at)) ≡ at + 1 + count (at + 1)
one_on count at = add-suc at (count (suc at)) ∙ sym (suc-add at (count (suc at))) ∙ ap (λ n. n + count n) (sym (add-one at))

-- a byte is CR
abbrev pub is_CR : ℕ → Bool
is_CR b = eqb b CR

-- as many bytes stand before the first CR as a search passes
before_upto : (n : ℕ) (s : List ℕ) → before_cr n s ≡ position_or_len is_CR (take n s)
before_upto zero s = refl
before_upto (suc n) [] = refl
before_upto (suc n) (x ∷ s) = go (eqb x CR) (before_upto n s)
  where
    go : (b : Bool) → before_cr n s ≡ position_or_len is_CR (take n s) → cond b 0 (suc (before_cr n s)) ≡ cond (not b) (1 + position_or_len is_CR (take n s)) 0
    go true h = refl
    go false h = omega (arith, h)

-- they are where the search stops, else all
pub found_CR : (n : ℕ) (s : List ℕ) (r : Option ℕ) → r ≡ position is_CR (take n s) → unwrap_or r (length (take n s)) ≡ before_cr n s
found_CR n s r e = ap (λ (f : Option ℕ). unwrap_or f (length (take n s))) e ∙ go (ltb p (length (take n s))) refl ∙ sym (before_upto n s)
  where
    p : ℕ
    p = position_or_len is_CR (take n s)

    go : (b : Bool) → ltb p (length (take n s)) ≡ b → unwrap_or (cond b (Some p) None) (length (take n s)) ≡ p
    go true h = refl
    go false h = omega (arith, ltb-false p (length (take n s)) h, prefix_len-le-length (λ (b : ℕ). not (is_CR b)) (take n s))

before_most : (n : ℕ) (s : List ℕ) → before_cr n s ≤ n
before_most zero s = omega arith
before_most (suc n) [] = omega arith
before_most (suc n) (x ∷ s) = go (eqb x CR) (before_most n s)
  where
    go : (b : Bool) → before_cr n s ≤ n → cond b 0 (suc (before_cr n s)) ≤ suc n
    go true h = omega arith
    go false h = omega (arith, h)

-- where CR stands at once, the search begins at once
at_once : (n : ℕ) (s : List ℕ) → reach (suc n) s ≡ 0 + reach (suc n - 0) s
at_once n s = sym (zero-add (reach (suc n - 0) s) ∙ ap (λ m. reach m s) (sub-zero (suc n)))

-- no CR LF begins before the next CR
reach_past : (n : ℕ) (s : List ℕ) → reach n s ≡ before_cr n s + reach (n - before_cr n s) (drop (before_cr n s) s)
reach_past zero s = refl
reach_past (suc n) [] = at_once n []
reach_past (suc n) (x ∷ s) = go (eqb x CR) refl (reach_past n s)
  where
    k : ℕ
    k = before_cr n s

    gap : suc n - suc k ≡ n - k
    gap = omega arith

    go : (b : Bool) → eqb x CR ≡ b → reach n s ≡ k + reach (n - k) (drop k s)
        → reach (suc n) (x ∷ s) ≡ cond b 0 (suc k) + reach (suc n - cond b 0 (suc k)) (drop (cond b 0 (suc k)) (x ∷ s))
    go true e h = at_once n (x ∷ s)
    go false e h =
        ap (λ c. cond c 0 (suc (reach n s))) (first_CR x s e) ∙ ap suc h ∙ sym (suc-add k (reach (n - k) (drop k s)))
        ∙ ap (λ m. suc k + reach m (drop k s)) (sym gap)

-- searching no further than the end finds the same
reach_min : (n : ℕ) (s : List ℕ) → reach n s ≡ reach (min (length s) n) s
reach_min zero s = sym (ap (λ k. reach k s) (min-zero (length s)))
reach_min (suc n) [] = sym (ap (λ k. reach k []) (zero-min (suc n)))
reach_min (suc n) (x ∷ s) = ap (λ k. cond (crlf (x ∷ s)) 0 (suc k)) (reach_min n s) ∙ sym (ap (λ k. reach k (x ∷ s)) (suc-min-suc (length s) n))

-- the line has been searched up to `at`, and no CR LF was found
pub record Looked (s : List ℕ) (start last at : ℕ) : Type 0 where
  pub so : line_end s start ≡ at + reach (last - at) (drop at s)
  pub below : at ≤ last
  pub inside : last ≤ length s

pub looked_start : (s : List ℕ) (start last : ℕ) → start < length s → last ≡ start + min (length (drop start s)) too_long → Looked s start last start
unfolding line_end
looked_start s start last h e = record {
  so = ap (λ k. start + k) (reach_min too_long (drop start s) ∙ ap (λ k. reach k (drop start s)) gap);
  below = subst (λ n. start ≤ n) (sym e) (omega arith);
  inside = subst (λ n. n ≤ length s) (sym e) (subst (λ n. start + min n too_long ≤ length s) (sym (length-drop start s)) (omega (arith, h)));
}
  where
    gap : min (length (drop start s)) too_long ≡ last - start
    gap = subst (λ n. min (length (drop start s)) too_long ≡ n - start) (sym e) (omega arith)

one_more : (n : ℕ) (s : List ℕ) (at : ℕ) → at < length s → crlf (drop at s) ≡ false → reach (suc n) (drop at s) ≡ suc (reach n (drop (suc at) s))
one_more n s at h f =
    ap (reach (suc n)) (drop-cons s at 0 h)
    ∙ ap (λ b. cond b 0 (suc (reach n (drop (suc at) s)))) (sym (ap crlf (drop-cons s at 0 h)) ∙ f)

pub looked_next : {s : List ℕ} {start last at : ℕ} → Looked s start last at → at < last → crlf (drop at s) ≡ false → Looked s start last (at + 1)
looked_next {s} {start} {last} {at} l h f = record {
  so = l.so ∙ ap (λ n. at + reach n (drop at s)) (one_left last at h) ∙ ap (λ n. at + n) (one_more (last - (at + 1)) s at (omega (arith, h, l.inside)) f)
      ∙ one_on (λ n. reach (last - (at + 1)) (drop n s)) at;
  below = omega (arith, h);
  inside = l.inside;
}

-- the search goes on at the next CR
pub looked_on : {s : List ℕ} {start last at next : ℕ} → Looked s start last at → next ≡ at + before_cr (last - at) (drop at s) → Looked s start last next
looked_on {s} {start} {last} {at} {next} l e = record {
  so = l.so ∙ ap (λ n. at + n) (reach_past (last - at) (drop at s)) ∙ sym (add_assoc at k (reach (last - at - k) (drop k (drop at s))))
      ∙ ap₂ (λ (m : ℕ) (t : List ℕ). at + k + reach m t) gap (drop-drop k at s)
      ∙ ap (λ n. n + reach (last - n) (drop n s)) (sym e);
  below = omega (arith, e, before_most (last - at) (drop at s), l.below);
  inside = l.inside;
}
  where
    k : ℕ
    k = before_cr (last - at) (drop at s)

    gap : last - at - k ≡ last - (at + k)
    gap = omega arith

pub past_end : (s : List ℕ) (start : ℕ) → length s ≤ start → start ≡ line_end s start
unfolding line_end
past_end s start h = sym (ap (λ r. start + reach too_long r) (drop_of_length-le s h) ∙ add-zero start)

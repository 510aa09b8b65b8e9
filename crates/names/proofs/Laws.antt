-- Laws about the names, over plain variables: two lists compared side by side, a column name by name, and digits one by one.
-- Assumes nothing.
use mathlib.Core.Path.{◌≡◌, refl, sym, ◌∙◌, ap}
use mathlib.Core.Bool.{Bool, true, false, cond, not, ◌&&◌, true≢false, and-false}
use mathlib.Core.List.{List, [], ◌∷◌}
use Rattle.std.specs.Prelude.{Some, None}
use Prim.Native.Nat.{ℕ, suc, ◌+◌, ◌-◌, ◌*◌, ◌^◌, ◌<◌, ◌≤◌}
use native.Mathlib.Numerals.{add-one}
use native.Mathlib.Nat.{pow-suc}
use native.Mathlib.Omega.{arith}
use borrow.Author.Tests.{ne_eqb, le-leb, lt-ltb, ltb-true}
use lib.Dec.{eqb, leb, ltb}
use lib.ListN.{length, get_or, drop, drop_of_length-le}
use lib.Seq.{drop-cons}
use Rattle.kinds.specs.Tests.{same, all}
use Rattle.kinds.proofs.Lists.{and_left, and_right, and_both}
use Rattle.names.specs.Names.{Named, unknown, known_as, code_of, most_digits, is_digit, leading_zero, is_pair, read_decimal, pair_of}
use Rattle.names.proofs.Names.{few_digits}
use Rattle.names.specs.Code.{code_in, number_in}

-- where every code is below the sentinel, a code is found exactly when it is known
pub found_known : (ns : List Named) (f : List ℕ) → all (λ (n : Named). ltb n.code unknown) ns ≡ true → code_in ns f ≡ known_as (code_of ns f)
unfolding code_of
found_known [] f h = refl
found_known (n ∷ ns) f h =
    go (same f n.name) (ltb-true n.code unknown (and_left (ltb n.code unknown) others h)) (found_known ns f (and_right (ltb n.code unknown) others h))
  where
    others : Bool
    others = all (λ (m : Named). ltb m.code unknown) ns

    go : (b : Bool) → n.code < unknown → code_in ns f ≡ known_as (code_of ns f) → cond b (Some n.code) (code_in ns f) ≡ known_as (cond b n.code (code_of ns f))
    go true low rest = sym (ap (λ (b : Bool). cond b None (Some n.code)) (ne_eqb n.code unknown (λ e. omega (arith, low, e))))
    go false low rest = rest

-- the field is the first name, or the later names decide
module _ (n : Named) (ns : List Named) (f : List ℕ) {t : Bool} (e : t ≡ same f n.name) where
  pub first_known : t ≡ true → ltb n.code unknown ≡ true → Some n.code ≡ known_as (code_of (n ∷ ns) f)
  unfolding code_of
  first_known h low =
      sym (ap (λ (b : Bool). known_as (cond b n.code (code_of ns f))) (sym e ∙ h)
      ∙ ap (λ (b : Bool). cond b None (Some n.code)) (ne_eqb n.code unknown (λ k. omega (arith, ltb-true n.code unknown low, k))))

  pub others_known : t ≡ false → known_as (code_of ns f) ≡ known_as (code_of (n ∷ ns) f)
  unfolding code_of
  others_known h = sym (ap (λ (b : Bool). known_as (cond b n.code (code_of ns f))) (sym e ∙ h))

-- the first i of at most five digits stand for v
pub record Read (f : List ℕ) (v i : ℕ) : Type 0 where
  pub small : v < 10 ^ i
  pub rest : number_in v (drop i f) ≡ number_in 0 f

-- one more digit keeps a number below the next power of ten
one_more : (p v d : ℕ) → v < p → d ≤ 57 → v * 10 + (d - 48) < p * 10
one_more p v d h k = omega arith

module _ {f : List ℕ} {v i : ℕ} (r : Read f v i) where
  digits_ahead : i < length f → number_in v (drop i f) ≡ number_in v (get_or f i 0 ∷ drop (suc i) f)
  digits_ahead h = ap (number_in v) (drop-cons f i 0 h)

  pub read_next : i < length f → 48 ≤ get_or f i 0 → get_or f i 0 ≤ 57 → Read f (v * 10 + (get_or f i 0 - 48)) (i + 1)
  unfolding read_decimal
  read_next h low high = record {
    small = rw (add-one, pow-suc) (one_more (10 ^ i) v (get_or f i 0) r.small high);
    rest =
        ap (λ (k : ℕ). number_in (v * 10 + (get_or f i 0 - 48)) (drop k f)) (add-one i)
        ∙ sym
        (digits_ahead h
        ∙ ap (λ (b : Bool). cond (b && all is_digit (drop (suc i) f)) (Some (read_decimal (v * 10 + (get_or f i 0 - 48)) (drop (suc i) f))) None)
        (and_both (le-leb 48 (get_or f i 0) low) (le-leb (get_or f i 0) 57 high)))
        ∙ r.rest;
  }

  pub read_end : length f ≤ i → Some v ≡ number_in 0 f
  unfolding read_decimal
  read_end h = sym (ap (number_in v) (drop_of_length-le f {i = i} h)) ∙ r.rest

-- the four tests of a pair's field: only digits (a), at least one (b), at most five (c), a leading zero (z)
good_shape : (a b c z : Bool) → not (b && c) ≡ false → z ≡ false → a && b && c && not z ≡ a
good_shape a true true z h k = rw k (and_trues a)
  where
    and_trues : (x : Bool) → x && true && true && true ≡ x
    and_trues true = refl
    and_trues false = refl
good_shape a true false z h k = absurd (true≢false h)
good_shape a false c z h k = absurd (true≢false h)

module _ (f : List ℕ) where
  pub pair_digits : {x : ℕ} → not (ltb 0 (length f) && leb (length f) most_digits) ≡ false → leading_zero f ≡ false
      → x ≡ cond (all is_digit f) (read_decimal 0 f) unknown → x ≡ pair_of f
  unfolding pair_of is_pair
  pair_digits h k l =
      l
      ∙ sym (ap (λ (b : Bool). cond b (read_decimal 0 f) unknown) (good_shape (all is_digit f) (ltb 0 (length f)) (leb (length f) most_digits) (leading_zero f) h k))

  -- one to five bytes without a leading zero are a pair's field exactly when they are digits
  pub pair_known : 1 ≤ length f → length f ≤ most_digits → (1 < length f → get_or f 0 0 ≡ 48 → ⊥) → number_in 0 f ≡ known_as (pair_of f)
  unfolding pair_of is_pair
  pair_known some few first = ap (λ (b : Bool). cond b (Some (read_decimal 0 f)) None) (sym shape) ∙ go (is_pair f) refl
    where
      no_zero : (b : Bool) → ltb 1 (length f) ≡ b → eqb (get_or f 0 0) 48 && b ≡ false
      no_zero true h = ap (λ (b : Bool). b && true) (ne_eqb (get_or f 0 0) 48 (first (ltb-true 1 (length f) h)))
      no_zero false h = and-false (eqb (get_or f 0 0) 48)

      shape : is_pair f ≡ all is_digit f
      shape = good_shape (all is_digit f) (ltb 0 (length f)) (leb (length f) most_digits) (leading_zero f)
          (ap not (and_both (lt-ltb 0 (length f) (omega arith)) (le-leb (length f) most_digits few))) (no_zero (ltb 1 (length f)) refl)

      go : (b : Bool) → is_pair f ≡ b → cond b (Some (read_decimal 0 f)) None ≡ known_as (cond b (read_decimal 0 f) unknown)
      go true p = sym (ap (λ (b : Bool). cond b None (Some (read_decimal 0 f))) (ne_eqb (read_decimal 0 f) unknown (λ e. omega (arith, few_digits f p, e))))
      go false p = refl

-- Laws about sets as bytes: a set is the same as a test on states, and operations on bytes are operations on tests.
-- Assumes nothing.
use mathlib.Core.Path.{◌≡◌, refl, sym, ◌∙◌, ap, ap₂, fun_ext}
use mathlib.Core.Bool.{Bool, true, false, cond, not, ◌&&◌, ◌||◌, true≢false}
use mathlib.Core.List.{List, [], ◌∷◌, map}
use Prim.Native.Nat.{ℕ, zero, suc, ◌+◌, ◌*◌, ◌/◌, ◌%◌, ◌^◌, ◌<◌, ◌≤◌, min, max}
use native.Mathlib.Nat.{add-zero, add-suc, suc-add, zero-add, le_of_suc-le-suc, not-suc-le-zero, div-one}
use native.Mathlib.Nat.{div-div-eq-div-mul, pow-suc, pow-succ', pow-zero, div-eq_of_lt, lt_of_lt_of_le, zero-div}
use lib.Pow.{pow_mono}
use native.Mathlib.Omega.{arith}
use borrow.Author.Tests.{ltb-true, ltb-false, eqb-true, eqb-false}
use lib.Dec.{eqb, ltb}
use lib.Bits.{bit_and, bit_or, and_shr, and_mod, and_le_l, and_step, or_step, and_zero_l, or_zero_l}
use Rattle.kinds.specs.Codes.{I, UC, UCE, UD, UDP, SC, SD, states}
use Rattle.kinds.proofs.Lists.{any_found, found_any, state_in, and_left, and_right, and_both}
use Rattle.kinds.specs.Tests.{any}
use lib.ListN.{length}
use mathlib.Core.Logic.{◌⊎◌, inl, inr}
use Rattle.std.proofs.lemmas.Nat.Bits.{same_from_bits, bit_at_or}
use Rattle.kinds.specs.declared.LineState.{LineState}
use Rattle.sets.specs.Sets.{one, set_of, bit, union, apply}

-- the number whose n binary digits, lowest first, are the test's values at k, k + 1, ..
digits : (ℕ → Bool) → ℕ → ℕ → ℕ
digits p k zero = 0
digits p k (suc n) = one (p k) + digits p (suc k) n * 2

set_of-digits : (p : ℕ → Bool) → set_of p ≡ digits p 0 7
unfolding set_of digits
set_of-digits p = omega arith

half : (b : Bool) (r : ℕ) → (one b + r * 2) / 2 ≡ r
half true r = omega arith
half false r = omega arith

odd : (b : Bool) (r : ℕ) → (one b + r * 2) % 2 ≡ one b
odd true r = omega arith
odd false r = omega arith

max_one : (a b : Bool) → max (one a) (one b) ≡ one (a || b)
max_one true true = refl
max_one true false = refl
max_one false true = refl
max_one false false = refl

min_one : (a b : Bool) → min (one a) (one b) ≡ one (a && b)
min_one true true = refl
min_one true false = refl
min_one false true = refl
min_one false false = refl

or_digits : (p q : ℕ → Bool) (k n : ℕ) → bit_or (digits p k n) (digits q k n) ≡ digits (λ i. p i || q i) k n
unfolding digits
or_digits p q k zero = or_zero_l 0
or_digits p q k (suc n) =
    or_step (digits p k (suc n)) (digits q k (suc n))
    ∙ simp (half, odd, max_one, or_digits p q (suc k) n) (omega arith)

and_digits : (p q : ℕ → Bool) (k n : ℕ) → bit_and (digits p k n) (digits q k n) ≡ digits (λ i. p i && q i) k n
unfolding digits
and_digits p q k zero = and_zero_l 0
and_digits p q k (suc n) =
    and_step (digits p k (suc n)) (digits q k (suc n))
    ∙ simp (half, odd, min_one, and_digits p q (suc k) n) (omega arith)

eqb_one : (b : Bool) → eqb (one b) 1 ≡ b
eqb_one true = refl
eqb_one false = refl

bit_digits : (p : ℕ → Bool) (k n j : ℕ) → j < n → bit (digits p k n) j ≡ p (k + j)
unfolding digits bit
bit_digits p k zero j h = absurd (not-suc-le-zero h)
bit_digits p k (suc n) zero h =
    simp (pow-zero, div-one, odd, eqb_one, add-zero)
bit_digits p k (suc n) (suc j) h =
    ap (λ (m : ℕ). eqb (m % 2) 1)
    (ap (λ (d : ℕ). (one (p k) + digits p (suc k) n * 2) / d) (pow-succ' 2 j)
    ∙ sym (div-div-eq-div-mul _ 2 (2 ^ j))
    ∙ ap (λ (m : ℕ). m / 2 ^ j) (half (p k) (digits p (suc k) n)))
    ∙ bit_digits p (suc k) n j (le_of_suc-le-suc h)
    ∙ ap p (suc-add k j ∙ sym (add-suc k j))

-- the bitwise or of two sets
pub or-set_of : (p q : ℕ → Bool) → bit_or (set_of p) (set_of q) ≡ set_of (λ n. p n || q n)
or-set_of p q = ap₂ bit_or (set_of-digits p) (set_of-digits q) ∙ or_digits p q 0 7 ∙ sym (set_of-digits (λ n. p n || q n))

-- the bitwise and of two sets
pub and-set_of : (p q : ℕ → Bool) → bit_and (set_of p) (set_of q) ≡ set_of (λ n. p n && q n)
and-set_of p q = ap₂ bit_and (set_of-digits p) (set_of-digits q) ∙ and_digits p q 0 7 ∙ sym (set_of-digits (λ n. p n && q n))

-- a state is in the set of a test exactly when it passes the test
pub bit-set_of : (p : ℕ → Bool) (n : ℕ) → n < 7 → bit (set_of p) n ≡ p n
bit-set_of p n h = ap (λ (m : ℕ). bit m n) (set_of-digits p) ∙ bit_digits p 0 7 n h ∙ ap p (zero-add n)

-- a byte has no bit from 8 on
pub bit_past : (m n : ℕ) → m < 256 → 8 ≤ n → bit m n ≡ false
unfolding bit
bit_past m n h k = ap (λ (d : ℕ). eqb (d % 2) 1) (div-eq_of_lt (lt_of_lt_of_le h (pow_mono k)))

-- tests that agree have the same set
pub set_of-ext : (p q : ℕ → Bool) → ((n : ℕ) → p n ≡ q n) → set_of p ≡ set_of q
set_of-ext p q h = ap set_of (fun_ext h)

-- tests that agree on the seven states have the same set
pub set_of-states : (p q : ℕ → Bool) → ((n : ℕ) → n < 7 → p n ≡ q n) → set_of p ≡ set_of q
unfolding set_of
set_of-states p q h =
    cc (h I (omega arith), h UC (omega arith), h UCE (omega arith), h UD (omega arith), h UDP (omega arith), h SC (omega arith), h SD (omega arith))

-- the set of a test that no state passes is 0
none : set_of (λ n. false) ≡ 0
unfolding set_of
none = refl

-- the states that are in both of two sets
bit_both : (x y : ℕ) → x < 2 → y < 2 → eqb (bit_and x y) 1 ≡ eqb x 1 && eqb y 1
bit_both zero y h k = ap (λ (n : ℕ). eqb n 1) (and_zero_l y)
bit_both (suc zero) zero h k = refl
bit_both (suc zero) (suc zero) h k = refl
bit_both (suc zero) (suc (suc y)) h k = absurd (omega arith)
bit_both (suc (suc x)) y h k = absurd (omega arith)

pub bit_and_lem : (a b n : ℕ) → bit (bit_and a b) n ≡ bit a n && bit b n
unfolding bit
bit_and_lem a b n =
    ap (λ (m : ℕ). eqb (m % 2) 1) (and_shr a b n)
    ∙ ap (λ (m : ℕ). eqb m 1) (and_mod (a / 2 ^ n) (b / 2 ^ n) 1)
    ∙ bit_both (a / 2 ^ n % 2) (b / 2 ^ n % 2) (omega arith) (omega arith)

-- a set if the test is true, else the empty set
pub cond-set_of : (b : Bool) (p : ℕ → Bool) → cond b (set_of p) 0 ≡ set_of (λ n. b && p n)
cond-set_of true p = refl
cond-set_of false p = sym none

-- a set is empty exactly when no state passes its test
pub set_of-empty : (p : ℕ → Bool) → ((n : ℕ) → p n ≡ false) → set_of p ≡ 0
set_of-empty p h = set_of-ext p (λ n. false) h ∙ none

zero_bit : (n : ℕ) → bit 0 n ≡ false
unfolding bit
zero_bit n = ap (λ (m : ℕ). eqb (m % 2) 1) (zero-div (2 ^ n))

pub set_of-holds : (p : ℕ → Bool) (n : ℕ) → n < 7 → p n ≡ true → set_of p ≡ 0 → ⊥
set_of-holds p n l h k = true≢false (sym h ∙ sym (bit-set_of p n l) ∙ ap (λ (m : ℕ). bit m n) k ∙ zero_bit n)

one_below : (b : Bool) → one b < 2
one_below true = omega arith
one_below false = omega arith

-- a set of states is below 128, and a set below 128 holds only the seven states
pub set_of-below : (p : ℕ → Bool) → set_of p < 128
unfolding set_of
set_of-below p = omega (arith, one_below (p I), one_below (p UC), one_below (p UCE), one_below (p UD), one_below (p UDP), one_below (p SC), one_below (p SD))

bit_above : (m n : ℕ) → m < 128 → 7 ≤ n → bit m n ≡ false
unfolding bit
bit_above m n h k = ap (λ (d : ℕ). eqb (d % 2) 1) (div-eq_of_lt (lt_of_lt_of_le h (pow_mono k)))

pub bit_state : (m n : ℕ) → m < 128 → bit m n ≡ true → n < 7
bit_state m n h k = go (ltb n 7) refl
  where
    go : (b : Bool) → ltb n 7 ≡ b → n < 7
    go true l = ltb-true n 7 l
    go false l = absurd (true≢false (sym k ∙ bit_above m n h (ltb-false n 7 l)))

-- a union of sets is the set of the states that are in at least one of them
pub union-set_of {ℓ} : {A : Type ℓ} (f : A → ℕ → Bool) (xs : List A) → union (map (λ x. set_of (f x)) xs) ≡ set_of (λ n. any (λ x. f x n) xs)
union-set_of f [] = sym none
union-set_of f (x ∷ xs) = ap (bit_or (set_of (f x))) (union-set_of f xs) ∙ or-set_of (f x) (λ n. any (λ y. f y n) xs)

-- `apply` likewise, for the sets of the states in m
pub apply-set_of : (f : ℕ → ℕ → Bool) (m : ℕ) → apply (map (λ s. set_of (f s)) states) m ≡ set_of (λ n. any (λ s. bit m s && f s n) states)
unfolding apply
apply-set_of f m = simp cond-set_of (union-set_of (λ s n. bit m s && f s n) states)

-- the union of a set, a second and a third
pub or_assoc : (a b c : ℕ) → bit_or (bit_or a b) c ≡ bit_or a (bit_or b c)
or_assoc a b c = same_from_bits (bit_or (bit_or a b) c) (bit_or a (bit_or b c)) (λ i. simp (bit_at_or) (omega arith))

-- the union of the sets of the states that are left to ask
abbrev pub left : List LineState → List ℕ → ℕ → ℕ
left [] ms m = 0
left (s ∷ ss) [] m = 0
left (s ∷ ss) (n ∷ ns) m = bit_or (cond (bit m s.0) n 0) (left ss ns m)

-- the seven states as the code has them
abbrev seven : List LineState
seven = map (λ (s : ℕ). record { 0 = s }) states

pub left_all : (ms : List ℕ) (m : ℕ) → length ms ≡ 7 → left seven ms m ≡ apply ms m
unfolding apply
left_all ([]) m h = absurd (omega arith)
left_all (x₀ ∷ []) m h = absurd (omega arith)
left_all (x₀ ∷ x₁ ∷ []) m h = absurd (omega arith)
left_all (x₀ ∷ x₁ ∷ x₂ ∷ []) m h = absurd (omega arith)
left_all (x₀ ∷ x₁ ∷ x₂ ∷ x₃ ∷ []) m h = absurd (omega arith)
left_all (x₀ ∷ x₁ ∷ x₂ ∷ x₃ ∷ x₄ ∷ []) m h = absurd (omega arith)
left_all (x₀ ∷ x₁ ∷ x₂ ∷ x₃ ∷ x₄ ∷ x₅ ∷ []) m h = absurd (omega arith)
left_all (x₀ ∷ x₁ ∷ x₂ ∷ x₃ ∷ x₄ ∷ x₅ ∷ x₆ ∷ xs) m h = refl

-- one iteration of `apply`
pub left_turn : (u x m n r : ℕ) (s : LineState) (ss ss' : List LineState) (ms ms' : List ℕ) → ss ≡ s ∷ ss' → ms ≡ n ∷ ms' → x ≡ cond (bit m s.0) n 0
    → bit_or u (left ss ms m) ≡ r → bit_or (bit_or u x) (left ss' ms' m) ≡ r
left_turn u x m n r s ss ss' ms ms' hs hm hx h =
    or_assoc u x (left ss' ms' m)
    ∙ ap (λ (y : ℕ). bit_or u (bit_or y (left ss' ms' m))) hx
    ∙ sym (ap₂ (λ (a : List LineState) (b : List ℕ). bit_or u (left a b m)) hs hm)
    ∙ h

-- where one of the two runs out, nothing is left
pub left_none : (ss : List LineState) (ms : List ℕ) (m : ℕ) → (length ss ≡ 0) ⊎ (length ms ≡ 0) → left ss ms m ≡ 0
left_none [] ms m h = refl
left_none (s ∷ ss) [] m h = refl
left_none (s ∷ ss) (n ∷ ms) m (inl h) = absurd (omega arith)
left_none (s ∷ ss) (n ∷ ms) m (inr h) = absurd (omega arith)

-- a byte below 128 is the set of the states that are in it
one_odd : (x : ℕ) → one (eqb (x % 2) 1) ≡ x % 2
one_odd x = go (eqb (x % 2) 1) refl
  where
    go : (b : Bool) → eqb (x % 2) 1 ≡ b → one b ≡ x % 2
    go true h = sym (eqb-true (x % 2) 1 h)
    go false h = omega (arith, eqb-false (x % 2) 1 h)

half_power : (m k : ℕ) → m / 2 ^ suc k ≡ m / 2 ^ k / 2
half_power m k = ap (λ (d : ℕ). m / d) (pow-suc 2 k) ∙ sym (div-div-eq-div-mul m (2 ^ k) 2)

digits_bit : (m k n : ℕ) → m / 2 ^ k < 2 ^ n → digits (bit m) k n ≡ m / 2 ^ k
unfolding digits bit
digits_bit m k zero h = omega (arith, pow-zero 2)
digits_bit m k (suc n) h =
    let rest = digits_bit m (suc k) n (omega (arith, half_power m k, pow-suc 2 n)) in
    omega (arith, one_odd (m / 2 ^ k), rest, half_power m k)

pub set_of-bit : (m : ℕ) → m < 128 → set_of (bit m) ≡ m
set_of-bit m h = set_of-digits (bit m) ∙ digits_bit m 0 7 (omega (arith, pow-zero 2, div-one m)) ∙ simp (pow-zero, div-one)

-- a state in the set
pub record Held (m : ℕ) : Type 0 where
  pub state : ℕ
  pub inside : bit m state ≡ true

-- a set is empty exactly when no state is in it
pub held_some : {m : ℕ} → Held m → m ≡ 0 → ⊥
held_some {m} h z = true≢false (sym h.inside ∙ ap (λ (x : ℕ). bit x h.state) z ∙ zero_bit h.state)

pub some_held : (m : ℕ) → m < 128 → (m ≡ 0 → ⊥) → Held m
some_held m h k = go (any (bit m) states) refl
  where
    go : (b : Bool) → any (bit m) states ≡ b → Held m
    go true l = let f = any_found (bit m) states l in record { state = f.one; inside = f.passes }
    go false l = absurd (k (sym (set_of-bit m h) ∙ set_of-empty (bit m) each))
      where
        each : (n : ℕ) → bit m n ≡ false
        each n = test (bit m n) refl
          where
            test : (b : Bool) → bit m n ≡ b → b ≡ false
            test true q = absurd (true≢false (sym (found_any (bit m) (state_in n (bit_state m n h q)) q) ∙ l))
            test false q = refl

pub none_held : (m : ℕ) → m < 128 → (Held m → ⊥) → m ≡ 0
none_held m h none = go (eqb m 0) refl
  where
    go : (b : Bool) → eqb m 0 ≡ b → m ≡ 0
    go true k = eqb-true m 0 k
    go false k = absurd (none (some_held m h (eqb-false m 0 k)))

-- two sets, one of them of the seven states, meet exactly when some state is in both
pub meet : (f m : ℕ) → f < 128 → any (λ s. bit m s && bit f s) states ≡ not (eqb (bit_and f m) 0)
meet f m h = go (eqb (bit_and f m) 0) refl
  where
    small : bit_and f m < 128
    small = omega (arith, and_le_l f m)

    go : (b : Bool) → eqb (bit_and f m) 0 ≡ b → any (λ s. bit m s && bit f s) states ≡ not b
    go true k = none_of (any (λ s. bit m s && bit f s) states) refl
      where
        none_of : (b : Bool) → any (λ s. bit m s && bit f s) states ≡ b → b ≡ false
        none_of false l = refl
        none_of true l =
            let s = any_found (λ n. bit m n && bit f n) states l in
            absurd
            (held_some {m = bit_and f m} (record { state = s.one; inside = bit_and_lem f m s.one ∙ and_both (and_right (bit m s.one) (bit f s.one) s.passes) (and_left (bit m s.one) (bit f s.one) s.passes) })
            (eqb-true (bit_and f m) 0 k))
    go false k =
        let x = some_held (bit_and f m) small (eqb-false (bit_and f m) 0 k) in
        let s = x.state in
        let both : bit f s && bit m s ≡ true = sym (bit_and_lem f m s) ∙ x.inside in
        found_any (λ n. bit m n && bit f n) (state_in s (bit_state (bit_and f m) s small x.inside)) (and_both (and_right (bit f s) (bit m s) both) (and_left (bit f s) (bit m s) both))

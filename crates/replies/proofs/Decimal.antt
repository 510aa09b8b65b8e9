-- Laws about numbers in decimal, and about the loops that count and write their digits.
-- Assumes nothing.
use mathlib.Core.Path.{◌≡◌, sym, ◌∙◌, ap, ap₂}
use mathlib.Core.Bool.{Bool, true, false, cond}
use mathlib.Core.List.{List, [], ◌∷◌, ◌++◌, append_assoc}
use Prim.Native.Nat.{ℕ, zero, suc, ◌+◌, ◌-◌, ◌/◌, ◌%◌, ◌^◌, ◌≤◌, ◌<◌}
use native.Mathlib.Nat.{mod-eq_of_lt, pow-succ'}
use native.Mathlib.Omega.{arith}
use borrow.Author.Tests.{lt-ltb, le-ltb}
use lib.Dec.{ltb}
use lib.ListN.{length, take, drop, set, length-append, length-set, length-drop}
use lib.Seq.{take_all, drop-cons, drop-set-lt, get_or-set_same}
use Rattle.replies.specs.Replies.{digit, decimal_text_in, decimal_text}
use Rattle.replies.specs.Code.{two_digits}

-- every number below this has at most twenty digits
abbrev pub most : ℕ
most = 100000000000000000000

-- allowing one more digit than needed changes nothing
more : (f n : ℕ) → n < 10 ^ suc f → decimal_text_in f n ≡ decimal_text_in (suc f) n
more zero n h =
    ap (λ (d : ℕ). digit d ∷ []) (mod-eq_of_lt h)
    ∙ sym (ap (λ (b : Bool). cond b (digit n ∷ []) ((digit (n / 10 % 10) ∷ []) ++ digit (n % 10) ∷ [])) (lt-ltb n 10 h))
more (suc f) n h =
    ap (λ (s : List ℕ). cond (ltb n 10) (digit n ∷ []) (s ++ digit (n % 10) ∷ []))
    (more f (n / 10) (omega (arith, pow-succ' 10 (suc f))))

-- a number below ten
pub decimal_small : (n : ℕ) → n < 10 → decimal_text n ≡ digit (n % 10) ∷ []
unfolding decimal_text
decimal_small n h =
    ap (λ (b : Bool). cond b (digit n ∷ []) (decimal_text_in 18 (n / 10) ++ digit (n % 10) ∷ [])) (lt-ltb n 10 h)
    ∙ ap (λ (d : ℕ). digit d ∷ []) (sym (mod-eq_of_lt h))

-- the same, with the number itself as its digit
pub decimal_digit : (n : ℕ) → n < 10 → decimal_text n ≡ digit n ∷ []
decimal_digit n h = decimal_small n h ∙ ap (λ (d : ℕ). digit d ∷ []) (mod-eq_of_lt h)

-- any other number: the digits of its tens, then its last digit
pub decimal_step : (n : ℕ) → 9 < n → n < most → decimal_text n ≡ decimal_text (n / 10) ++ digit (n % 10) ∷ []
unfolding decimal_text
decimal_step n h k =
    ap (λ (b : Bool). cond b (digit n ∷ []) (decimal_text_in 18 (n / 10) ++ digit (n % 10) ∷ [])) (le-ltb n 10 h)
    ∙ ap (λ (s : List ℕ). s ++ digit (n % 10) ∷ []) (more 18 (n / 10) (omega arith))

-- a number of two digits
pub decimal_two : (n : ℕ) → 9 < n → n < 100 → decimal_text n ≡ two_digits n
decimal_two n h k =
    decimal_step n h (omega arith)
    ∙ ap (λ (s : List ℕ). s ++ digit (n % 10) ∷ []) (decimal_small (n / 10) (omega arith))
    ∙ ap (λ (d : ℕ). digit d ∷ digit (n % 10) ∷ []) (mod-eq_of_lt (omega arith))

-- a number of more digits: the digits of its hundreds, then its last two digits
pub decimal_hundreds : (n : ℕ) → 99 < n → n < most → decimal_text n ≡ decimal_text (n / 100) ++ two_digits (n % 100)
decimal_hundreds n h k =
    let hundreds : n / 10 / 10 ≡ n / 100 = omega arith in
    let tens : n / 10 % 10 ≡ n % 100 / 10 = omega arith in
    let ones : n % 10 ≡ n % 100 % 10 = omega arith in
    decimal_step n (omega arith) k
    ∙ ap (λ (s : List ℕ). s ++ digit (n % 10) ∷ []) (decimal_step (n / 10) (omega arith) (omega arith))
    ∙ append_assoc (decimal_text (n / 10 / 10)) (digit (n / 10 % 10) ∷ []) (digit (n % 10) ∷ [])
    ∙ ap (λ (m : ℕ). decimal_text m ++ digit (n / 10 % 10) ∷ digit (n % 10) ∷ []) hundreds
    ∙ ap₂ (λ (a b : ℕ). decimal_text (n / 100) ++ digit a ∷ digit b ∷ []) tens ones

one_by : (b : Bool) (f n : ℕ) → 1 ≤ length (cond b (digit n ∷ []) (decimal_text_in f (n / 10) ++ digit (n % 10) ∷ []))
one_by true f n = omega arith
one_by false f n = omega (arith, length-append (decimal_text_in f (n / 10)) (digit (n % 10) ∷ []))

-- a number has at least one digit
pub decimal_one : (n : ℕ) → 1 ≤ length (decimal_text n)
unfolding decimal_text
decimal_one n = one_by (ltb n 10) 18 n

short_by : (b : Bool) (k f n : ℕ) → length (decimal_text_in f (n / 10)) ≤ k
    → length (cond b (digit n ∷ []) (decimal_text_in f (n / 10) ++ digit (n % 10) ∷ [])) ≤ suc k
short_by true k f n h = omega arith
short_by false k f n h = omega (arith, length-append (decimal_text_in f (n / 10)) (digit (n % 10) ∷ []))

short_in : (k f n : ℕ) → n < 10 ^ suc k → length (decimal_text_in f n) ≤ suc k
short_in k zero n h = omega arith
short_in zero (suc f) n h =
    let e : length (decimal_text_in (suc f) n) ≡ 1 =
    ap (λ (b : Bool). length (cond b (digit n ∷ []) (decimal_text_in f (n / 10) ++ digit (n % 10) ∷ []))) (lt-ltb n 10 h) in
    omega arith
short_in (suc k) (suc f) n h =
    short_by (ltb n 10) (suc k) f n (short_in k f (n / 10) (omega (arith, pow-succ' 10 (suc k))))

-- a number below 10 to the k has at most k digits
pub decimal_short : (k n : ℕ) → n < 10 ^ suc k → length (decimal_text n) ≤ suc k
unfolding decimal_text
decimal_short k n h = short_in k 19 n h

-- The loop that writes digits from the last to the first: those of the rest, put before those written, are the whole number.

pub record Spelling (n : ℕ) (digits : List ℕ) (first rest : ℕ) : Type 0 where
  pub long : length digits ≡ 20
  pub small : rest < most
  pub few : rest < 10 ^ suc first
  pub last : first < 20
  pub so : decimal_text n ≡ decimal_text rest ++ drop (suc first) digits

-- where more than one digit is left, there is a place before
pub spelling_place : {n first rest : ℕ} {digits : List ℕ} → Spelling n digits first rest → 9 < rest → 1 ≤ first
spelling_place {first = zero} c h = absurd (omega (arith, c.few))
spelling_place {first = suc k} c h = omega arith

-- a digit stored at a place, and what stands behind it
stored : (digits : List ℕ) (first d : ℕ) → first < length digits → drop first (set digits first d) ≡ d ∷ drop (suc first) digits
stored digits first d h =
    drop-cons (set digits first d) first 0 (simp length-set (omega arith))
    ∙ ap₂ (λ (a : ℕ) (b : List ℕ). a ∷ b) (get_or-set_same digits first d 0 h) (drop-set-lt (suc first) digits first d (omega arith))

pub spelling_next : {n first rest : ℕ} {digits : List ℕ} → Spelling n digits first rest → 9 < rest
    → Spelling n (set digits first (digit (rest % 10))) (first - 1) (rest / 10)
spelling_next {n} {first} {rest} {digits} c h =
    let d : ℕ = digit (rest % 10) in
    let place : 1 ≤ first = spelling_place c h in
    let back : suc (first - 1) ≡ first = omega arith in
    let few : rest / 10 < 10 ^ first = omega (arith, c.few, pow-succ' 10 first) in
    record {
      long = length-set digits first d ∙ c.long;
      small = omega (arith, c.small);
      few = rw back few;
      last = omega (arith, c.last);
      so =
          c.so
          ∙ ap (λ (s : List ℕ). s ++ drop (suc first) digits) (decimal_step rest h c.small)
          ∙ append_assoc (decimal_text (rest / 10)) (d ∷ []) (drop (suc first) digits)
          ∙ ap (λ (s : List ℕ). decimal_text (rest / 10) ++ s) (sym (stored digits first d (omega (arith, c.last, c.long))))
          ∙ ap (λ (k : ℕ). decimal_text (rest / 10) ++ drop k (set digits first d)) (sym back);
    }

-- the first digit is written last
pub spelling_end : {n first rest : ℕ} {digits : List ℕ} (k : ℕ) → Spelling n digits first rest → rest ≤ 9 → 20 ≤ k + first
    → take k (drop first (set digits first (digit rest))) ≡ decimal_text n
spelling_end {n} {first} {rest} {digits} k c h long =
    take_all k (drop first (set digits first (digit rest))) (simp (length-drop, length-set) (omega (arith, c.long)))
    ∙ stored digits first (digit rest) (omega (arith, c.last, c.long))
    ∙ ap (λ (s : List ℕ). s ++ drop (suc first) digits) (sym (decimal_digit rest (omega arith)))
    ∙ sym c.so

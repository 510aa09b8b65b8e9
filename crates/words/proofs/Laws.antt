-- Laws about bytes read as one number, over plain variables: the AND of two such numbers is byte by byte, and a mask tells which bytes are below a limit.
-- Assumes nothing.
use mathlib.Core.Path.{◌≡◌, refl, sym, ◌∙◌, ap, ap₂, subst}
use mathlib.Core.Bool.{Bool, true, false, ◌&&◌, false≢true}
use mathlib.Core.List.{List, [], ◌∷◌, ◌++◌, map}
use Prim.Native.Nat.{ℕ, zero, suc, ◌+◌, ◌-◌, ◌*◌, ◌%◌, ◌^◌, ◌<◌, ◌≤◌}
use native.Mathlib.Nat.{zero-add, add-zero, pow-suc, mod-lt, mod-eq_of_lt, sub-add_cancel, sub-eq-zero_of_le}
use native.Mathlib.Omega.{arith}
use borrow.Author.Tests.{ltb-true, ltb-false, leb-true, leb-false, eq-eqb, ne_eqb}
use lib.Bits.{bit_and, and_zero_r, and_block, and_high}
use lib.Dec.{eqb, ltb, leb}
use lib.ListN.{replicate, get_or-replicate, length, get_or, drop, length-drop, drop_of_length-le, get_or-eq_default}
use lib.Seq.{drop-cons, get_or-drop, drop-append_seam}
use Rattle.std.proofs.lemmas.List.{length-append}
use lib.Pow.{pow_pos, pow-lt, mod-pow-add}
use Rattle.words.specs.Words.{half, word, word_of}

-- n bytes from an offset on
abbrev pub bytes_from : List ℕ → ℕ → ℕ → List ℕ
bytes_from b at zero = []
bytes_from b at (suc n) = get_or b at 0 ∷ bytes_from b (suc at) n

-- four and eight bytes are the number of their list
half_of : (b : List ℕ) (at : ℕ) → half b at ≡ word_of (bytes_from b at 4)
unfolding half
half_of b at =
    let i₁ : at + 1 ≡ suc at = omega arith in
    let i₂ : at + 2 ≡ suc (suc at) = omega arith in
    let i₃ : at + 3 ≡ suc (suc (suc at)) = omega arith in
    sum_of (get_or b at 0) (get_or b (at + 1) 0) (get_or b (at + 2) 0) (get_or b (at + 3) 0)
    ∙ cc
  where
    sum_of : (x₀ x₁ x₂ x₃ : ℕ) → x₀ + x₁ * 256 + x₂ * 65536 + x₃ * 16777216 ≡ word_of (x₀ ∷ x₁ ∷ x₂ ∷ x₃ ∷ [])
    sum_of x₀ x₁ x₂ x₃ = omega arith

pub word_of_lem : (b : List ℕ) (at : ℕ) → word b at ≡ word_of (bytes_from b at 8)
unfolding word
word_of_lem b at =
    ap₂ (λ (x y : ℕ). x + y * 4294967296) (half_of b at) (half_of b (at + 4) ∙ ap (λ (n : ℕ). word_of (bytes_from b n 4)) next)
    ∙ sum_of (get_or b at 0) (get_or b (suc at) 0) (get_or b (suc (suc at)) 0) (get_or b (suc (suc (suc at))) 0)
    (word_of (bytes_from b (suc (suc (suc (suc at)))) 4))
  where
    next : at + 4 ≡ suc (suc (suc (suc at)))
    next = omega arith

    sum_of : (x₀ x₁ x₂ x₃ y : ℕ) → word_of (x₀ ∷ x₁ ∷ x₂ ∷ x₃ ∷ []) + y * 4294967296 ≡ (((y * 256 + x₃) * 256 + x₂) * 256 + x₁) * 256 + x₀
    sum_of x₀ x₁ x₂ x₃ y = omega arith

-- eight bytes, each times its weight
pub word_sum : (b : List ℕ) (at : ℕ)
    → get_or b at 0 + get_or b (at + 1) 0 * 256 + get_or b (at + 2) 0 * 65536 + get_or b (at + 3) 0 * 16777216 + get_or b (at + 4) 0 * 4294967296
    + get_or b (at + 5) 0 * 1099511627776 + get_or b (at + 6) 0 * 281474976710656 + get_or b (at + 7) 0 * 72057594037927936 ≡ word b at
unfolding half word
word_sum b at =
    let i₅ : at + 4 + 1 ≡ at + 5 = omega arith in
    let i₆ : at + 4 + 2 ≡ at + 6 = omega arith in
    let i₇ : at + 4 + 3 ≡ at + 7 = omega arith in
    rw (i₅, i₆, i₇) (omega arith)

-- the bytes to the end are as many as one likes, for those past it are 0
from_drop : (b : List ℕ) (n at : ℕ) → length b ≤ at + n → word_of (drop at b) ≡ word_of (bytes_from b at n)
from_drop b zero at h = let k : length b ≤ at = omega arith in ap word_of (drop_of_length-le b k)
from_drop b (suc n) at h = go (ltb at (length b)) refl (from_drop b n (suc at) (omega arith))
  where
    go : (t : Bool) → ltb at (length b) ≡ t → word_of (drop (suc at) b) ≡ word_of (bytes_from b (suc at) n)
        → word_of (drop at b) ≡ word_of (bytes_from b at (suc n))
    go true e k = ap word_of (drop-cons b at 0 (ltb-true at (length b) e)) ∙ ap (λ (x : ℕ). x * 256 + get_or b at 0) k
    go false e k =
        let l = ltb-false at (length b) e in
        let m : length b ≤ suc at = omega arith in
        ap word_of (drop_of_length-le b l)
        ∙ ap₂ (λ (x y : ℕ). x * 256 + y) (sym (ap word_of (drop_of_length-le b m)) ∙ k) (sym (get_or-eq_default b 0 l))

-- where no more than four or eight bytes are left, they are the bytes to the end
pub half_last : (b : List ℕ) (at : ℕ) → length b ≤ at + 4 → word_of (drop at b) ≡ half b at
half_last b at h = from_drop b 4 at h ∙ sym (half_of b at)

pub word_last : (b : List ℕ) (at : ℕ) → length b ≤ at + 8 → word_of (drop at b) ≡ word b at
word_last b at h = from_drop b 8 at h ∙ sym (word_of_lem b at)

-- each number of the list is a byte
pub data Bytes : List ℕ → Type 0 where
  none : Bytes []
  more : {b : ℕ} {bs : List ℕ} → b < 256 → Bytes bs → Bytes (b ∷ bs)

-- no byte has a bit of its mask
abbrev pub apart : List ℕ → List ℕ → Bool
apart [] ms = true
apart (b ∷ bs) [] = true
apart (b ∷ bs) (m ∷ ms) = eqb (bit_and b m) 0 && apart bs ms

-- a number is 0 exactly when its last byte and the rest are
sum_zero : (x y : ℕ) → eqb (x * 256 + y) 0 ≡ eqb y 0 && eqb x 0
sum_zero zero zero = refl
sum_zero (suc x) zero = ne_eqb (suc x * 256 + zero) 0 (λ h. omega arith) ∙ sym (ne_eqb (suc x) 0 (λ h. omega arith))
sum_zero x (suc y) = ne_eqb (x * 256 + suc y) 0 (λ h. omega arith) ∙ ap (λ (t : Bool). t && eqb x 0) (sym (ne_eqb (suc y) 0 (λ h. omega arith)))

-- the AND of two numbers is 0 exactly when that of each two bytes is
pub and_apart : {bs ms : List ℕ} → Bytes bs → Bytes ms → eqb (bit_and (word_of bs) (word_of ms)) 0 ≡ apart bs ms
and_apart none k = refl
and_apart (more {b} {bs} h hs) none = ap (λ (n : ℕ). eqb n 0) (and_zero_r (word_of (b ∷ bs)))
and_apart (more {b} {bs} h hs) (more {b = m} {bs = ms} k ks) =
    ap (λ (n : ℕ). eqb n 0) (and_block 8 (word_of bs) (word_of ms) b m h k)
    ∙ sum_zero (bit_and (word_of bs) (word_of ms)) (bit_and b m)
    ∙ ap (λ (t : Bool). eqb (bit_and b m) 0 && t) (and_apart hs ks)

-- the bits of a byte from the k-th on, and those before it
high_low : (b k : ℕ) → b < 256 → bit_and b (256 - 2 ^ k) + b % 2 ^ k ≡ b
high_low b k h = go (leb k 8) refl
  where
    go : (t : Bool) → leb k 8 ≡ t → bit_and b (256 - 2 ^ k) + b % 2 ^ k ≡ b
    go true e =
        let i : 8 - k + k ≡ 8 = sub-add_cancel (leb-true k 8 e) in
        ap (λ (n : ℕ). bit_and b (2 ^ n - 2 ^ k) + b % 2 ^ k) (sym i)
        ∙ ap (λ (n : ℕ). n + b % 2 ^ k) (and_high b (8 - k) k)
        ∙ sym (mod-pow-add b (8 - k) k)
        ∙ ap (λ (n : ℕ). b % 2 ^ n) i
        ∙ mod-eq_of_lt h
    go false e =
        let l : 256 < 2 ^ k = pow-lt (leb-false k 8 e) in
        ap₂ (λ (m n : ℕ). bit_and b m + n) (sub-eq-zero_of_le {n = 256} {m = 2 ^ k} (omega arith)) (mod-eq_of_lt {n = b} {m = 2 ^ k} (omega arith))
        ∙ ap (λ (n : ℕ). n + b) (and_zero_r b)
        ∙ zero-add b

-- a byte has none of the bits from the k-th on exactly when it is below 2 ^ k
pub under_power : (b k : ℕ) → b < 256 → eqb (bit_and b (256 - 2 ^ k)) 0 ≡ ltb b (2 ^ k)
under_power b k h = go (bit_and b (256 - 2 ^ k)) (b % 2 ^ k) (2 ^ k) (high_low b k h) (mod-lt b (pow_pos k)) (λ l. mod-eq_of_lt l) (ltb b (2 ^ k)) refl
  where
    go : (x r p : ℕ) → x + r ≡ b → r < p → (b < p → r ≡ b) → (t : Bool) → ltb b p ≡ t → eqb x 0 ≡ t
    go x r p s l w true e = let q = w (ltb-true b p e) in eq-eqb x 0 (omega arith)
    go x r p s l w false e = let q = ltb-false b p e in ne_eqb x 0 (λ z. omega arith)

-- each byte from an offset on is below its limit
abbrev pub under : List ℕ → ℕ → List ℕ → Bool
under b at [] = true
under b at (l ∷ ls) = ltb (get_or b at 0) l && under b (suc at) ls

-- the powers of two with these exponents
abbrev pub powers : List ℕ → List ℕ
powers = map (λ k. 2 ^ k)

-- the bits of a byte that make it reach its limit
abbrev pub masks : List ℕ → List ℕ
masks = map (λ l. 256 - l)

-- every mask is a byte
mask_bytes : (ks : List ℕ) → Bytes (masks (powers ks))
mask_bytes [] = none
mask_bytes (k ∷ ks) = let h : 256 - 2 ^ k < 256 = omega (arith, pow_pos k) in more h (mask_bytes ks)

-- below its limit each, so any one of them
under_each : (b : List ℕ) (at : ℕ) (ls : List ℕ) → under b at ls ≡ true → (i : ℕ) → i < length ls → get_or b (at + i) 0 < get_or ls i 0
under_each b at [] h i k = absurd (omega arith)
under_each b at (l ∷ ls) h i k = go (ltb (get_or b at 0) l) refl h (under_each b (suc at) ls) i k
  where
    go : (t : Bool) → ltb (get_or b at 0) l ≡ t → t && under b (suc at) ls ≡ true
        → (under b (suc at) ls ≡ true → (j : ℕ) → j < length ls → get_or b (suc at + j) 0 < get_or ls j 0)
        → (i : ℕ) → i < suc (length ls) → get_or b (at + i) 0 < get_or (l ∷ ls) i 0
    go false e h f i k = absurd (false≢true h)
    go true e h f zero k = subst (λ (j : ℕ). get_or b j 0 < l) (sym (add-zero at)) (ltb-true (get_or b at 0) l e)
    go true e h f (suc i) k =
        let next : suc at + i ≡ at + suc i = omega arith in
        subst (λ (j : ℕ). get_or b j 0 < get_or ls i 0) next (f h i (omega arith))

module _ (b : List ℕ) (bytes : (i : ℕ) → get_or b i 0 < 256) where
  -- n bytes are below 256 ^ n
  below_power : (n at : ℕ) → word_of (bytes_from b at n) < 256 ^ n
  below_power zero at = omega arith
  below_power (suc n) at =
      subst (λ (p : ℕ). word_of (bytes_from b at (suc n)) < p) (sym (pow-suc 256 n))
      (go (word_of (bytes_from b (suc at) n)) (256 ^ n) (below_power n (suc at)))
    where
      go : (x p : ℕ) → x < p → x * 256 + get_or b at 0 < p * 256
      go x p h = omega (arith, bytes at)

  -- seven bytes are below 2 ^ 56
  pub last_small : (i : ℕ) → length b ≤ i + 7 → word_of (drop i b) < 72057594037927936
  last_small i h = subst (λ (x : ℕ). x < 72057594037927936) (sym (from_drop b 7 i h)) (below_power 7 i)

  -- every byte is one
  all_bytes : (at n : ℕ) → Bytes (bytes_from b at n)
  all_bytes at zero = none
  all_bytes at (suc n) = more (bytes at) (all_bytes (suc at) n)

  -- the bytes that have no bit of their mask are below their limits
  apart_under : (at : ℕ) (ks : List ℕ) → apart (bytes_from b at (length ks)) (masks (powers ks)) ≡ under b at (powers ks)
  apart_under at [] = refl
  apart_under at (k ∷ ks) = ap₂ ◌&&◌ (under_power (get_or b at 0) k (bytes at)) (apart_under (suc at) ks)

  -- one AND tells whether each of eight bytes is below its limit
  pub word_under : (at : ℕ) (ks : List ℕ) → length ks ≡ 8 → eqb (bit_and (word b at) (word_of (masks (powers ks)))) 0 ≡ under b at (powers ks)
  word_under at ks h =
      ap (λ (n : ℕ). eqb (bit_and n (word_of (masks (powers ks)))) 0) (word_of_lem b at ∙ ap (λ (n : ℕ). word_of (bytes_from b at n)) (sym h))
      ∙ and_apart (all_bytes at (length ks)) (mask_bytes ks)
      ∙ apart_under at ks

  -- where one AND with the same limit for all is 0, any of the eight bytes is below it
  pub each_under : (at k : ℕ) → bit_and (word b at) (word_of (masks (powers (replicate 8 k)))) ≡ 0 → (i : ℕ) → i < 8 → get_or b (at + i) 0 < 2 ^ k
  each_under at k h i l =
      subst (λ (n : ℕ). get_or b (at + i) 0 < n) (get_or-replicate 8 i (2 ^ k) 0 l)
      (under_each b at (powers (replicate 8 k))
      (sym (word_under at (replicate 8 k) refl) ∙ eq-eqb (bit_and (word b at) (word_of (masks (powers (replicate 8 k))))) 0 h) i l)

-- what `last` has read before one more of at most eight bytes is below 2 ^ 56
pub read_small : (b : List ℕ) (at n : ℕ) (rest front read : List ℕ) (x : ℕ) → ((k : ℕ) → get_or b k 0 < 256) → length b ≤ at + 8
    → rest ≡ front ++ x ∷ [] → drop at b ≡ rest ++ read → n ≡ word_of read → n < 72057594037927936
read_small b at n rest front read x bytes h r e m =
    let l : length rest ≡ length front + 1 = ap length r ∙ length-append front (x ∷ []) in
    let w : length (drop at b) ≤ length rest + 7 = simp length-drop (omega arith) in
    let d : drop (length rest) (drop at b) ≡ read = ap (drop (length rest)) e ∙ drop-append_seam rest read in
    subst (λ (y : ℕ). y < 72057594037927936) (ap word_of d ∙ sym m)
    (last_small (drop at b) (λ k. subst (λ (y : ℕ). y < 256) (sym (get_or-drop at b k 0)) (bytes (at + k))) (length rest) w)

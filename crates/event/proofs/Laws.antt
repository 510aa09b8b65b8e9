-- Laws about the refusals and the whole answer, over plain variables.
-- Assumes nothing.
use mathlib.Core.Path.{◌≡◌, refl, sym, ◌∙◌, ap, ap₂}
use mathlib.Core.Bool.{Bool, cond, ◌&&◌, and_assoc}
use mathlib.Core.List.{List, [], ◌∷◌, ◌++◌}
use Prim.Native.Nat.{ℕ, suc, ◌+◌, ◌^◌, ◌<◌}
use native.Mathlib.Nat.{add-zero}
use native.Mathlib.Omega.{arith}
use borrow.Author.Tests.{lt-ltb}
use lib.Bits.{bit_and}
use lib.Dec.{eqb, ltb}
use lib.ListN.{length, get_or, drop}
use Rattle.words.specs.Words.{word, word_of}
use Rattle.words.proofs.Laws.{powers, masks, under, word_under}
use Rattle.kinds.specs.Places.{event_length}
use Rattle.rows.specs.Event.{byte}
use Rattle.steps.specs.Steps.{duty, no_duty, set_after, sets_after, duty_alone}
use Rattle.kinds.specs.declared.Refusal.{Refusal}
use Rattle.kinds.proofs.Refusals.{one_to_one, not_accepted}
use Rattle.event.specs.declared.Judgment.{Judgment}
use Rattle.event.specs.Alone.{Alone, in_numbers}
use Rattle.std.specs.Prelude.{Result, Ok, Err}
use Rattle.event.specs.Refusals.{issue_e, below}

-- the exponents of the limits of bytes 0 to 7 and of bytes 7 to 14, which are powers of two; 8 where a byte is free
abbrev front : List ℕ
front = 8 ∷ 1 ∷ 1 ∷ 1 ∷ 2 ∷ 1 ∷ 5 ∷ 3 ∷ []

abbrev back : List ℕ
back = 8 ∷ 3 ∷ 2 ∷ 2 ∷ 1 ∷ 3 ∷ 3 ∷ 2 ∷ []

-- THE COMPUTED FACT: together they are the definition's limits
front_back : drop 1 (powers front) ++ drop 1 (powers back) ≡ issue_e.limits
front_back = refl

-- two lists of limits, one behind the other
below_append : (e : List ℕ) (i : ℕ) (ls ms : List ℕ) → below e i ls && below e (i + length ls) ms ≡ below e i (ls ++ ms)
below_append e i [] ms = ap (λ (n : ℕ). below e n ms) (add-zero i)
below_append e i (l ∷ ls) ms =
    let next : i + suc (length ls) ≡ suc i + length ls = omega arith in
    and_assoc (ltb (byte e i) l) (below e (suc i) ls) (below e (i + suc (length ls)) ms)
    ∙ ap (λ (t : Bool). ltb (byte e i) l && t)
    (ap (λ (n : ℕ). below e (suc i) ls && below e n ms) next ∙ below_append e (suc i) ls ms)

module _ (e : List ℕ) (bytes : (i : ℕ) → byte e i < 256) where
  -- a free byte passes its test
  both_under : under e 0 (powers front) && under e 7 (powers back) ≡ below e 1 issue_e.limits
  both_under =
      rw (lt-ltb (byte e 0) 256 (bytes 0), lt-ltb (byte e 7) 256 (bytes 7))
      (below_append e 1 (drop 1 (powers front)) (drop 1 (powers back)) ∙ ap (below e 1) front_back)

  -- the two tests of `in_range`
  pub in_range_by : (x y : ℕ) → x ≡ word e 0 → y ≡ word e 7
      → eqb (bit_and x (word_of (masks (powers front)))) 0 && eqb (bit_and y (word_of (masks (powers back)))) 0 ≡ below e 1 issue_e.limits
  in_range_by x y h k =
      ap₂ (λ (m n : ℕ). eqb (bit_and m (word_of (masks (powers front)))) 0 && eqb (bit_and n (word_of (masks (powers back)))) 0) h k
      ∙ ap₂ ◌&&◌ (word_under e bytes 0 front refl) (word_under e bytes 7 back refl)
      ∙ both_under

-- every byte but the request has its limit
pub limits_whole : suc (length issue_e.limits) ≡ event_length
limits_whole = refl

-- the duty from one state, with its set taken from the list of seven
pub duty_at_lem : (e sets : List ℕ) (s d x : ℕ) → sets ≡ sets_after e → get_or (sets_after e) s 0 ≡ set_after e s → d ≡ duty e (2 ^ s)
    → x ≡ cond (eqb (get_or sets s 0) 0) no_duty d → x ≡ duty_alone e s
duty_at_lem e sets s d x h k q p = p ∙ ap₂ (λ (n m : ℕ). cond (eqb n 0) no_duty m) (ap (λ (l : List ℕ). get_or l s 0) h ∙ k) q

-- NO TWO RESULTS HAVE THE SAME NUMBERS.
pub same_numbers : (r s : Result Judgment Refusal) → in_numbers r ≡ in_numbers s → r ≡ s
same_numbers (Ok j) (Ok k) h = ap (λ (a : Alone). Ok (record { sets = a.sets; duties = a.duties })) h
same_numbers (Ok j) (Err s) h = absurd (not_accepted s (sym (ap (λ (a : Alone). a.number) h)))
same_numbers (Err r) (Ok k) h = absurd (not_accepted r (ap (λ (a : Alone). a.number) h))
same_numbers (Err r) (Err s) h = ap (λ (x : Refusal). Err x) (one_to_one (ap (λ (a : Alone). a.number) h))

-- The outcome of a trace and the row of the refusal table that is given are the same, in both directions (definition 4.1).
-- Assumes nothing.
use mathlib.Core.Path.{◌≡◌, refl, sym, ◌∙◌, ap, ap₂, subst}
use mathlib.Core.Bool.{Bool, true, false, cond, not, true≢false}
use Prim.Native.Nat.{ℕ, zero, suc, ◌+◌, ◌<◌, ◌≤◌}
use native.Mathlib.Omega.{arith}
use native.Mathlib.Nat.{zero-add}
use borrow.Author.Tests.{lt-ltb, le-ltb, ltb-true, ltb-false, eqb-true, eqb-false, not-false}
use lib.Dec.{eqb, ltb}
use lib.ListN.{length}
use Rattle.kinds.specs.Tests.{◌∈?◌}
use Rattle.kinds.specs.Codes.{all_states}
use Rattle.kinds.specs.Places.{set_in, pair_in, event_in}
use Rattle.rows.specs.Event.{request_of}
use Rattle.event.specs.Refusals.{Issue, below, fault}
use Rattle.trace.specs.Lent.{Lent, count, Outcome}
use Rattle.trace.specs.Refusals.{outcome, lengths_fit, first_from, bad_set_at, lowest_bad_set, fault_at, bad_event, first_bad_event, outcome_of}
use Rattle.trace.specs.Given.{Fits, SetGood, EventGood, GoodSoFar, Given, accepted, bad_lengths, bad_set, bad_pair, bad_byte, bad_request}
use Rattle.trace.proofs.Laws.{fits, fit, refused_lengths, refused_set, left_to_events, refused_event, no_event}

-- The first number that passes a test: none before it passes, it passes if it is one of the n, and no other number is like that.
before_first : (p : ℕ → Bool) (i n j : ℕ) → i ≤ j → j < first_from p i n → p j ≡ false
before_first p i zero j h k = absurd (omega arith)
before_first p i (suc n) j h k = go (p i) refl k (before_first p (suc i) n j)
  where
    go : (b : Bool) → p i ≡ b → j < cond b i (first_from p (suc i) n) → (suc i ≤ j → j < first_from p (suc i) n → p j ≡ false) → p j ≡ false
    go true q l f = absurd (omega arith)
    go false q l f = split (eqb i j) refl
      where
        split : (b : Bool) → eqb i j ≡ b → p j ≡ false
        split true e = ap p (sym (eqb-true i j e)) ∙ q
        split false e = f (omega (arith, eqb-false i j e)) l

first_passes : (p : ℕ → Bool) (i n : ℕ) → first_from p i n < i + n → p (first_from p i n) ≡ true
first_passes p i zero h = absurd (omega arith)
first_passes p i (suc n) h = go (p i) refl h (first_passes p (suc i) n)
  where
    go : (b : Bool) → p i ≡ b → cond b i (first_from p (suc i) n) < i + suc n → (first_from p (suc i) n < suc i + n → p (first_from p (suc i) n) ≡ true)
        → p (cond b i (first_from p (suc i) n)) ≡ true
    go true q l f = q
    go false q l f = f (omega arith)

first_at_most : (p : ℕ → Bool) (i n : ℕ) → first_from p i n ≤ i + n
first_at_most p i zero = omega arith
first_at_most p i (suc n) = go (p i) (first_at_most p (suc i) n)
  where
    go : (b : Bool) → first_from p (suc i) n ≤ suc i + n → cond b i (first_from p (suc i) n) ≤ i + suc n
    go true l = omega arith
    go false l = omega arith

first_is : (p : ℕ → Bool) (i n k : ℕ) → i ≤ k → k < i + n → ((j : ℕ) → i ≤ j → j < k → p j ≡ false) → p k ≡ true → first_from p i n ≡ k
first_is p i zero k h l none passes = absurd (omega arith)
first_is p i (suc n) k h l none passes = go (eqb i k) refl (first_is p (suc i) n k)
  where
    go : (b : Bool) → eqb i k ≡ b
        → (suc i ≤ k → k < suc i + n → ((j : ℕ) → suc i ≤ j → j < k → p j ≡ false) → p k ≡ true → first_from p (suc i) n ≡ k)
        → cond (p i) i (first_from p (suc i) n) ≡ k
    go true e f =
        ap (λ (b : Bool). cond b i (first_from p (suc i) n)) (ap p (eqb-true i k e) ∙ passes)
        ∙ eqb-true i k e
    go false e f =
        ap (λ (b : Bool). cond b i (first_from p (suc i) n)) (none i (omega arith) (omega (arith, eqb-false i k e)))
        ∙ f (omega (arith, eqb-false i k e)) (omega arith) (λ j a b. none j (omega arith) b) passes

first_none : (p : ℕ → Bool) (i n : ℕ) → ((j : ℕ) → i ≤ j → j < i + n → p j ≡ false) → first_from p i n ≡ i + n
first_none p i zero none = omega arith
first_none p i (suc n) none =
    ap (λ (b : Bool). cond b i (first_from p (suc i) n)) (none i (omega arith) (omega arith))
    ∙ first_none p (suc i) n (λ j a b. none j (omega arith) (omega arith))
    ∙ omega arith

-- a test that is not true is false
not_so : (b : Bool) → (b ≡ true → ⊥) → b ≡ false
not_so true n = absurd (n refl)
not_so false n = refl

-- The refusal number of one event, from the three tests.
module _ (issue : Issue) (l : Lent) (k : ℕ) where
  abbrev fault_of : ℕ
  fault_of = fault_at issue l.events l.pairs l.table k

  by_tests : (a b c : Bool) → ltb (pair_in l.pairs k) (length l.table) ≡ a → below (event_in l.events k) 1 issue.limits ≡ b
      → request_of (event_in l.events k) ∈? issue.requests ≡ c → fault_of ≡ cond a (cond b (cond c 0 5) 4) 3
  unfolding fault_at fault
  by_tests a b c p q r =
      ap (λ (x : Bool). cond x (fault issue (event_in l.events k)) 3) p
      ∙ ap₂ (λ (x y : Bool). cond a (cond x (cond y 0 5) 4) 3) q r

  good_event_lem : EventGood issue l k → fault_of ≡ 0
  good_event_lem g = by_tests true true true (lt-ltb (pair_in l.pairs k) (length l.table) g.pair_good) g.bytes_good g.request_good

  event_good : fault_of ≡ 0 → EventGood issue l k
  event_good h = go (ltb (pair_in l.pairs k) (length l.table)) (below (event_in l.events k) 1 issue.limits) (request_of (event_in l.events k) ∈? issue.requests) refl refl refl
    where
      go : (a b c : Bool) → ltb (pair_in l.pairs k) (length l.table) ≡ a → below (event_in l.events k) 1 issue.limits ≡ b
          → request_of (event_in l.events k) ∈? issue.requests ≡ c → EventGood issue l k
      go true true true p q r = record { pair_good = ltb-true (pair_in l.pairs k) (length l.table) p; bytes_good = q; request_good = r }
      go true true false p q r = absurd (omega (arith, by_tests true true false p q r))
      go true false c p q r = absurd (omega (arith, by_tests true false c p q r))
      go false b c p q r = absurd (omega (arith, by_tests false b c p q r))

  bad_row : not (eqb fault_of 0) ≡ true → GoodSoFar issue l k → k < count l → Given issue l fault_of k
  bad_row h reached inside =
      go (ltb (pair_in l.pairs k) (length l.table)) (below (event_in l.events k) 1 issue.limits) (request_of (event_in l.events k) ∈? issue.requests) refl refl refl
    where
      go : (a b c : Bool) → ltb (pair_in l.pairs k) (length l.table) ≡ a → below (event_in l.events k) 1 issue.limits ≡ b
          → request_of (event_in l.events k) ∈? issue.requests ≡ c → Given issue l fault_of k
      go true true true p q r = absurd (true≢false (sym h ∙ ap (λ (n : ℕ). not (eqb n 0)) (by_tests true true true p q r)))
      go true true false p q r =
          subst (λ (n : ℕ). Given issue l n k) (sym (by_tests true true false p q r))
          (bad_request reached inside (ltb-true (pair_in l.pairs k) (length l.table) p) q (λ g. true≢false (sym g ∙ r)))
      go true false c p q r =
          subst (λ (n : ℕ). Given issue l n k) (sym (by_tests true false c p q r))
          (bad_byte reached inside (ltb-true (pair_in l.pairs k) (length l.table) p) (λ g. true≢false (sym g ∙ q)))
      go false b c p q r =
          subst (λ (n : ℕ). Given issue l n k) (sym (by_tests false b c p q r))
          (bad_pair reached inside (λ g. absurd (omega (arith, g, ltb-false (pair_in l.pairs k) (length l.table) p))))

module _ (issue : Issue) (l : Lent) where
  abbrev bad : ℕ → Bool
  bad = bad_event issue l.events l.pairs l.table

  abbrev first_bad : ℕ
  first_bad = first_bad_event issue l.events l.pairs l.table

  -- an event that is not bad is good, and a good one is not bad
  good_of : (k : ℕ) → bad k ≡ false → EventGood issue l k
  good_of k h = event_good issue l k (eqb-true (fault_of issue l k) 0 (not-false (eqb (fault_of issue l k) 0) h))

  good_not_bad : (k : ℕ) → EventGood issue l k → bad k ≡ false
  good_not_bad k g = ap (λ (n : ℕ). not (eqb n 0)) (good_event_lem issue l k g)

  -- a set that is not bad is good
  set_of_lem : (p : ℕ) → bad_set_at l.table p ≡ false → SetGood l p
  set_of_lem p h = ltb-false all_states (set_in l.table p) h

  -- THE ROW OF THE OUTCOME is given.
  pub given : Given issue l (outcome_of issue l).number (outcome_of issue l).place
  given = go (lengths_fit l) (ltb (lowest_bad_set l.table) (length l.table)) (ltb first_bad (length l.pairs)) refl refl refl
    where
      at : (o : Outcome) → o ≡ outcome_of issue l → Given issue l o.number o.place → Given issue l (outcome_of issue l).number (outcome_of issue l).place
      at o h g = subst (λ (x : Outcome). Given issue l x.number x.place) h g

      sets : (a : ltb (lowest_bad_set l.table) (length l.table) ≡ false) → (p : ℕ) → p < length l.table → SetGood l p
      sets a p k = set_of_lem p (before_first (bad_set_at l.table) 0 (length l.table) p (omega arith) (omega (arith, ltb-false (lowest_bad_set l.table) (length l.table) a)))

      reached : (k : ℕ) → Fits l → ltb (lowest_bad_set l.table) (length l.table) ≡ false → k ≤ first_bad → GoodSoFar issue l k
      reached k f a h =
          record { fits = f; sets_good = sets a; events_good = λ j b. good_of j (before_first bad 0 (length l.pairs) j (omega arith) (omega arith)) }

      go : (a b c : Bool) → lengths_fit l ≡ a → ltb (lowest_bad_set l.table) (length l.table) ≡ b → ltb first_bad (length l.pairs) ≡ c
          → Given issue l (outcome_of issue l).number (outcome_of issue l).place
      go false b c p q r = at (outcome 1 0) (refused_lengths issue l p) (bad_lengths (λ f. true≢false (sym (fit l f) ∙ p)))
      go true true c p q r =
          let low = lowest_bad_set l.table in
          let k = ltb-true low (length l.table) q in
          at (outcome 2 low) (refused_set issue l low p refl k)
          (bad_set (fits l p)
          (λ i h. set_of_lem i (before_first (bad_set_at l.table) 0 (length l.table) i (omega arith) h))
          k
          (λ g. absurd (omega (arith, g, ltb-true all_states (set_in l.table low) (first_passes (bad_set_at l.table) 0 (length l.table) (omega arith))))))
      go true false true p q r =
          let f = fits l p in
          let k = ltb-true first_bad (length l.pairs) r in
          at (outcome (fault_of issue l first_bad) first_bad)
          (left_to_events issue l (lowest_bad_set l.table) (outcome (fault_of issue l first_bad) first_bad) p refl (ltb-false (lowest_bad_set l.table) (length l.table) q)
          (refused_event issue l.events l.pairs l.table first_bad (fault_of issue l first_bad) refl k refl))
          (bad_row issue l first_bad (first_passes bad 0 (length l.pairs) (omega arith)) (reached first_bad f q (omega arith)) (omega (arith, f.pairs_fit)))
      go true false false p q r =
          let f = fits l p in
          let k = ltb-false first_bad (length l.pairs) r in
          at (outcome 0 (count l))
          (ap (outcome 0) (sym f.pairs_fit)
          ∙ left_to_events issue l (lowest_bad_set l.table) (outcome 0 (length l.pairs)) p refl (ltb-false (lowest_bad_set l.table) (length l.table) q)
          (no_event issue l.events l.pairs l.table first_bad refl k))
          (accepted (reached (count l) f q (omega (arith, f.pairs_fit))))

  -- once the events are reached, no set is bad
  table_good : {k : ℕ} → GoodSoFar issue l k → lowest_bad_set l.table ≡ length l.table
  table_good r =
      first_none (bad_set_at l.table) 0 (length l.table) (λ p a b. le-ltb all_states (set_in l.table p) (r.sets_good p (omega arith)))
      ∙ zero-add (length l.table)

  -- event k is the first one that is refused
  event_row : (k number : ℕ) → GoodSoFar issue l k → k < count l → fault_of issue l k ≡ number → not (eqb number 0) ≡ true → outcome number k ≡ outcome_of issue l
  event_row k number r h e n =
      let is : first_bad ≡ k =
      first_is bad 0 (length l.pairs) k (omega arith) (omega (arith, r.fits.pairs_fit)) (λ j a b. good_not_bad j (r.events_good j b)) (ap (λ (x : ℕ). not (eqb x 0)) e ∙ n) in
      left_to_events issue l (length l.table) (outcome number k) (fit l r.fits) (sym (table_good r)) (omega arith)
      (refused_event issue l.events l.pairs l.table k number (sym is) (omega (arith, r.fits.pairs_fit)) (sym e))

  -- EACH ROW THAT IS GIVEN is the outcome.
  pub gives : {number place : ℕ} → Given issue l number place → outcome number place ≡ outcome_of issue l
  gives (accepted r) =
      let is : first_bad ≡ length l.pairs =
      first_none bad 0 (length l.pairs) (λ j a b. good_not_bad j (r.events_good j (omega (arith, r.fits.pairs_fit)))) ∙ zero-add (length l.pairs) in
      ap (outcome 0) (sym r.fits.pairs_fit)
      ∙ left_to_events issue l (length l.table) (outcome 0 (length l.pairs)) (fit l r.fits) (sym (table_good r)) (omega arith)
      (no_event issue l.events l.pairs l.table (length l.pairs) (sym is) (omega arith))
  gives (bad_lengths n) = go (lengths_fit l) refl
    where
      go : (b : Bool) → lengths_fit l ≡ b → outcome 1 0 ≡ outcome_of issue l
      go true h = absurd (n (fits l h))
      go false h = refused_lengths issue l h
  gives (bad_set {p} f least h n) =
      refused_set issue l p (fit l f)
      (sym (first_is (bad_set_at l.table) 0 (length l.table) p (omega arith) (omega arith) (λ j a b. le-ltb all_states (set_in l.table j) (least j b)) (above (bad_set_at l.table p) refl)))
      h
    where
      above : (b : Bool) → bad_set_at l.table p ≡ b → b ≡ true
      above true q = refl
      above false q = absurd (n (set_of_lem p q))
  gives (bad_pair {k} r h n) =
      event_row k 3 r h (by_tests issue l k false (below (event_in l.events k) 1 issue.limits) (request_of (event_in l.events k) ∈? issue.requests) outside refl refl) refl
    where
      outside : ltb (pair_in l.pairs k) (length l.table) ≡ false
      outside = not_so (ltb (pair_in l.pairs k) (length l.table)) (λ t. n (ltb-true (pair_in l.pairs k) (length l.table) t))
  gives (bad_byte {k} r h a n) =
      event_row k 4 r h
      (by_tests issue l k true false (request_of (event_in l.events k) ∈? issue.requests) (lt-ltb (pair_in l.pairs k) (length l.table) a)
      (not_so (below (event_in l.events k) 1 issue.limits) n) refl)
      refl
  gives (bad_request {k} r h a b n) =
      event_row k 5 r h
      (by_tests issue l k true true false (lt-ltb (pair_in l.pairs k) (length l.table) a) b (not_so (request_of (event_in l.events k) ∈? issue.requests) n))
      refl

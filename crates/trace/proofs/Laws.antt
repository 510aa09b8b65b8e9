-- Laws about the refusals of a trace, over plain variables: the first number that passes a test, and the outcome from its parts.
-- Assumes nothing.
use mathlib.Core.Path.{◌≡◌, refl, sym, ◌∙◌, ap, ap₂, subst}
use mathlib.Core.Bool.{Bool, true, false, cond, not, ◌&&◌}
use mathlib.Core.List.{List, ◌++◌}
use Prim.Native.Nat.{ℕ, zero, suc, ◌+◌, ◌-◌, ◌%◌, ◌^◌, ◌<◌, ◌≤◌}
use native.Mathlib.Numerals.{add-one}
use native.Mathlib.Nat.{sub-zero, zero-add}
use native.Mathlib.Omega.{arith}
use borrow.Author.Tests.{ltb-true, ltb-false, lt-ltb, le-ltb, le-leb, leb-true, eqb-true, eq-eqb, ne_eqb, not-true, not-false}
use lib.Bits.{bit_and}
use lib.Dec.{eqb, leb, ltb}
use lib.ListN.{length, get_or, get_or-eq_default, get_or-append, take, drop, length-drop, replicate}
use lib.Seq.{take_all}
use Rattle.words.specs.Words.{word, word_of}
use Rattle.words.proofs.Laws.{powers, masks, each_under}
use Rattle.kinds.specs.Places.{event_length, most_events, most_pairs}
use Rattle.kinds.specs.Refusals.{refusal_number}
use Rattle.kinds.specs.declared.Refusal.{Refusal}
use Rattle.kinds.proofs.Refusals.{one_to_one, not_accepted}
use Rattle.kinds.proofs.Lists.{and_left, and_right, and_both}
use Rattle.event.specs.Refusals.{Issue}
use Rattle.verdicts.specs.Verdicts.{after_set, verdict, duty_byte}
use Rattle.trace.specs.Events.{TraceEvent, events_from, run, outputs}
use Rattle.trace.specs.declared.Refused.{Refused}
use Rattle.trace.specs.Lent.{Outcome, Left, Lent, in_numbers, left, count}
use Rattle.std.specs.Prelude.{Some, None, Result, Ok, Err, IsErr}
use Rattle.std.specs.List.{position, position_or_len}
use Rattle.std.proofs.lemmas.List.{get_or-drop, length-append, drop_at, drop-drop}
use Rattle.std.proofs.lemmas.List.Sums.{prefix_len_passes, prefix_len_stops}
use Rattle.trace.specs.Given.{Fits}
use Rattle.trace.specs.Judged.{accepts, accepted_left, refused_left, judged}
use Rattle.trace.specs.Code.{GoodBefore, WholeEvents, AllJudged}
use Rattle.trace.specs.Refusals.{outcome, lengths_fit, first_from, is_bad_set, bad_set_at, lowest_bad_set, fault_at, bad_event, first_bad_event, by_events, outcome_of}

-- k below n: one number fewer is left after k
pub minus_suc : (n k : ℕ) → k < n → n - k ≡ suc (n - suc k)
minus_suc n k h = omega arith

-- k not below n: no number is left
pub minus_end : (n k : ℕ) → n ≤ k → n - k ≡ 0
minus_end n k h = omega arith

-- the search for the first number that passes has come to k, and found none below it
pub record First (p : ℕ → Bool) (n k : ℕ) : Type 0 where
  pub within : k ≤ n
  pub same : first_from p k (n - k) ≡ first_from p 0 n

pub first_start : (p : ℕ → Bool) (n : ℕ) → First p n 0
first_start p n = record { within = omega arith; same = ap (first_from p 0) (sub-zero n) }

-- the search goes on with k
ahead : (p : ℕ → Bool) (n k : ℕ) → k < n → first_from p k (n - k) ≡ cond (p k) k (first_from p (suc k) (n - suc k))
ahead p n k h = ap (first_from p k) (minus_suc n k h)

pub first_here : {p : ℕ → Bool} {n k : ℕ} → First p n k → k < n → p k ≡ true → k ≡ first_from p 0 n
first_here {p} {n} {k} f h t = sym (ahead p n k h ∙ ap (λ (b : Bool). cond b k (first_from p (suc k) (n - suc k))) t) ∙ f.same

pub first_next : {p : ℕ → Bool} {n k : ℕ} → First p n k → k < n → p k ≡ false → First p n (k + 1)
first_next {p} {n} {k} f h t =
    record {
      within = omega arith;
      same =
          ap (λ (i : ℕ). first_from p i (n - i)) (add-one k)
          ∙ sym (ahead p n k h ∙ ap (λ (b : Bool). cond b k (first_from p (suc k) (n - suc k))) t)
          ∙ f.same;
    }

pub first_end : {p : ℕ → Bool} {n k : ℕ} → First p n k → n ≤ k → k ≡ first_from p 0 n
first_end {p} {n} {k} f h = sym (ap (first_from p k) (minus_end n k h)) ∙ f.same

-- no number below k passes
pub first_from_lem : (p : ℕ → Bool) (n k : ℕ) → k ≤ n → ((q : ℕ) → q < k → p q ≡ false) → First p n k
first_from_lem p n zero h g = first_start p n
first_from_lem p n (suc k) h g =
    subst (First p n) (add-one k) (first_next (first_from_lem p n k (omega arith) (λ q l. g q (omega arith))) h (g k (omega arith)))

-- a set below 128 is good
good_set : (x : ℕ) → x < 2 ^ 7 → is_bad_set x ≡ false
good_set x h = le-ltb 127 x (omega arith)

-- eight more sets are good where none has the top bit
module _ (table eight rest : List ℕ) (p : ℕ) (there : drop p table ≡ eight ++ rest) (long : length eight ≡ 8) where
  room : p + 8 ≤ length table
  room =
      let n : length table - p ≡ 8 + length rest =
      sym (length-drop p table) ∙ ap length there ∙ length-append eight rest ∙ ap (λ (i : ℕ). i + length rest) long in
      omega arith

  same_set : (i : ℕ) → i < 8 → get_or table (p + i) 0 ≡ get_or eight i 0
  same_set i h =
      let l : i < length eight = omega arith in
      sym (get_or-drop p table i 0) ∙ ap (λ (xs : List ℕ). get_or xs i 0) there ∙ get_or-append eight rest 0 i l

  -- no byte is above 255
  bytes_of : ((i : ℕ) → get_or table i 0 < 256) → (i : ℕ) → get_or eight i 0 < 256
  bytes_of bytes i = go (ltb i 8) refl
    where
      go : (t : Bool) → ltb i 8 ≡ t → get_or eight i 0 < 256
      go true e = subst (λ (x : ℕ). x < 256) (same_set i (ltb-true i 8 e)) (bytes (p + i))
      go false e =
          let l : length eight ≤ i = omega (arith, ltb-false i 8 e) in
          let z : get_or eight i 0 ≡ 0 = get_or-eq_default eight 0 l in
          omega arith

  pub good_more : {w : ℕ} → ((i : ℕ) → get_or table i 0 < 256) → GoodBefore table p → w ≡ word eight 0
      → bit_and w (word_of (masks (powers (replicate 8 7)))) ≡ 0 → GoodBefore table (p + 8)
  good_more {w} bytes g h k = record { within = room; good = λ q l. go q l (ltb q p) refl }
    where
      low : (i : ℕ) → i < 8 → get_or eight i 0 < 2 ^ 7
      low i l =
          subst (λ (j : ℕ). get_or eight j 0 < 2 ^ 7) (zero-add i)
          (each_under eight (bytes_of bytes) 0 7 (ap (λ (n : ℕ). bit_and n (word_of (masks (powers (replicate 8 7))))) (sym h) ∙ k) i l)

      go : (q : ℕ) → q < p + 8 → (t : Bool) → ltb q p ≡ t → is_bad_set (get_or table q 0) ≡ false
      go q l true e = g.good q (ltb-true q p e)
      go q l false e =
          let m = ltb-false q p e in
          let j : q - p < 8 = omega arith in
          let here : p + (q - p) ≡ q = omega arith in
          good_set (get_or table q 0)
          (subst (λ (i : ℕ). get_or table i 0 < 2 ^ 7) here (subst (λ (x : ℕ). x < 2 ^ 7) (sym (same_set (q - p) j)) (low (q - p) j)))

  -- and what follows them is still to come
  pub rest_follows : rest ≡ drop (p + 8) table
  rest_follows = sym (ap (λ (xs : List ℕ). drop 8 xs) there ∙ drop_at eight rest 8 long) ∙ drop-drop 8 p table

-- behind the sets that are good, the first bad one is the lowest of the table, and if there is none, all sets are good
module _ {table : List ℕ} {p : ℕ} (g : GoodBefore table p) where
  first_behind : (q : ℕ) → p + q ≤ length table → ((i : ℕ) → i < q → bad_set_at table (p + i) ≡ false) → First (bad_set_at table) (length table) (p + q)
  first_behind q l before = first_from_lem (bad_set_at table) (length table) (p + q) l (λ i m. go i m (ltb i p) refl)
    where
      go : (i : ℕ) → i < p + q → (t : Bool) → ltb i p ≡ t → bad_set_at table i ≡ false
      go i m true e = g.good i (ltb-true i p e)
      go i m false e =
          let n : p ≤ i = ltb-false i p e in
          let here : p + (i - p) ≡ i = omega arith in
          subst (λ (j : ℕ). bad_set_at table j ≡ false) here (before (i - p) (omega arith))

  -- what the search behind them passes, and where it stops
  abbrev rest : List ℕ
  rest = drop p table

  rest_is : take (length table - p) (drop p table) ≡ rest
  rest_is = take_all (length table - p) (drop p table) (simp length-drop (omega arith))

  abbrev passed : ℕ
  passed = position_or_len is_bad_set rest

  good_passed : (i : ℕ) → i < passed → bad_set_at table (p + i) ≡ false
  good_passed i l =
      ap is_bad_set (sym (get_or-drop p table i 0)) ∙ not-true (is_bad_set (get_or rest i 0)) (prefix_len_passes (λ x. not (is_bad_set x)) rest i 0 l)

  bad_stop : passed < length rest → bad_set_at table (p + passed) ≡ true
  bad_stop l =
      ap is_bad_set (sym (get_or-drop p table passed 0)) ∙ not-false (is_bad_set (get_or rest passed 0)) (prefix_len_stops (λ x. not (is_bad_set x)) rest 0 l)

  pub bad_behind : {q : ℕ} → Some q ≡ position is_bad_set (take (length table - p) (drop p table)) → p + q ≡ lowest_bad_set table
  bad_behind {q} h = go (ltb passed (length rest)) refl (h ∙ ap (position is_bad_set) rest_is)
    where
      go : (b : Bool) → ltb passed (length rest) ≡ b → Some q ≡ cond b (Some passed) None → p + q ≡ lowest_bad_set table
      go false e k = cc
      go true e k =
          let l : passed < length rest = ltb-true passed (length rest) e in
          let m : p + passed < length table = omega (arith, length-drop p table) in
          let same : q ≡ passed = cc in
          ap (λ (n : ℕ). p + n) same ∙ first_here (first_behind passed (omega arith) good_passed) m (bad_stop l)

  pub none_behind : None ≡ position is_bad_set (take (length table - p) (drop p table)) → length table ≡ lowest_bad_set table
  none_behind h = go (ltb passed (length rest)) refl (h ∙ ap (position is_bad_set) rest_is)
    where
      go : (b : Bool) → ltb passed (length rest) ≡ b → None ≡ cond b (Some passed) None → length table ≡ lowest_bad_set table
      go true e k = cc
      go false e k =
          let w : p ≤ length table = g.within in
          let l : length rest ≤ passed = ltb-false passed (length rest) e in
          let n : length rest ≡ length table - p = length-drop p table in
          let whole : p + (length table - p) ≡ length table = omega arith in
          sym whole ∙ first_end (first_behind (length table - p) (omega arith) (λ i j. good_passed i (omega arith))) (omega arith)

-- the test that the lengths fit, and what it means
module _ (l : Lent) where
  pub fits : lengths_fit l ≡ true → Fits l
  unfolding lengths_fit
  fits h =
      let a₁ = eqb (length l.events % event_length) 0 in
      let a₂ = a₁ && leb (count l) most_events in
      let a₃ = a₂ && leb (length l.table) most_pairs in
      let a₄ = a₃ && eqb (length l.pairs) (count l) in
      let a₅ = a₄ && eqb (length l.verdicts) (count l) in
      let a₆ = a₅ && eqb (length l.duties) (count l) in
      let h₆ = and_left a₆ (eqb (length l.afters) (count l)) h in
      let h₅ = and_left a₅ (eqb (length l.duties) (count l)) h₆ in
      let h₄ = and_left a₄ (eqb (length l.verdicts) (count l)) h₅ in
      let h₃ = and_left a₃ (eqb (length l.pairs) (count l)) h₄ in
      let h₂ = and_left a₂ (leb (length l.table) most_pairs) h₃ in
      record {
        whole = eqb-true (length l.events % event_length) 0 (and_left a₁ (leb (count l) most_events) h₂);
        few_events = leb-true (count l) most_events (and_right a₁ (leb (count l) most_events) h₂);
        few_pairs = leb-true (length l.table) most_pairs (and_right a₂ (leb (length l.table) most_pairs) h₃);
        pairs_fit = eqb-true (length l.pairs) (count l) (and_right a₃ (eqb (length l.pairs) (count l)) h₄);
        verdicts_fit = eqb-true (length l.verdicts) (count l) (and_right a₄ (eqb (length l.verdicts) (count l)) h₅);
        duties_fit = eqb-true (length l.duties) (count l) (and_right a₅ (eqb (length l.duties) (count l)) h₆);
        afters_fit = eqb-true (length l.afters) (count l) (and_right a₆ (eqb (length l.afters) (count l)) h);
      }

  pub fit : Fits l → lengths_fit l ≡ true
  unfolding lengths_fit
  fit f =
      and_both
      (and_both
      (and_both
      (and_both
      (and_both
      (and_both (eq-eqb (length l.events % event_length) 0 f.whole) (le-leb (count l) most_events f.few_events))
      (le-leb (length l.table) most_pairs f.few_pairs))
      (eq-eqb (length l.pairs) (count l) f.pairs_fit))
      (eq-eqb (length l.verdicts) (count l) f.verdicts_fit))
      (eq-eqb (length l.duties) (count l) f.duties_fit))
      (eq-eqb (length l.afters) (count l) f.afters_fit)

-- of a trace whose first k events are good, event k is refused or good
module _ (issue : Issue) (events pairs table : List ℕ) where
  -- the outcome by whether some event is refused
  abbrev choice : Bool → Outcome
  choice b =
      let first = first_bad_event issue events pairs table in
      cond b (outcome (fault_at issue events pairs table first) first) (outcome 0 (length pairs))

  pub refused_event : (k x : ℕ) → k ≡ first_bad_event issue events pairs table → k < length pairs → x ≡ fault_at issue events pairs table k
      → outcome x k ≡ by_events issue events pairs table
  unfolding by_events
  refused_event k x h l p =
      ap (λ (n : ℕ). outcome n k) p
      ∙ ap (λ (i : ℕ). outcome (fault_at issue events pairs table i) i) h
      ∙ sym (ap choice (ap (λ (i : ℕ). ltb i (length pairs)) (sym h) ∙ lt-ltb k (length pairs) l))

  pub no_event : (k : ℕ) → k ≡ first_bad_event issue events pairs table → length pairs ≤ k → outcome 0 (length pairs) ≡ by_events issue events pairs table
  unfolding by_events
  no_event k h l =
      sym (ap choice (ap (λ (i : ℕ). ltb i (length pairs)) (sym h) ∙ le-ltb k (length pairs) l))

  abbrev pub SoFar : ℕ → Type 0
  SoFar k = First (bad_event issue events pairs table) (length pairs) k

  pub refused_here : {k : ℕ} (r : Refusal) → SoFar k → k < length pairs → refusal_number r ≡ fault_at issue events pairs table k
      → outcome (refusal_number r) k ≡ by_events issue events pairs table
  refused_here {k} r f h p =
      refused_event k (refusal_number r) (first_here f h (ap not (ne_eqb (fault_at issue events pairs table k) 0 (λ z. not_accepted r (p ∙ z))))) h p

  pub good_here : {k : ℕ} → SoFar k → k < length pairs → 0 ≡ fault_at issue events pairs table k → SoFar (k + 1)
  good_here {k} f h p = first_next f h (ap not (eq-eqb (fault_at issue events pairs table k) 0 (sym p)))

  pub good_all : {k : ℕ} → SoFar k → length pairs ≤ k → outcome 0 (length pairs) ≡ by_events issue events pairs table
  good_all {k} f h = no_event k (first_end f h) h

module _ (issue : Issue) (l : Lent) where
  -- the outcome from the two tests
  pub by_stages : (fit bad-table : Bool) → lengths_fit l ≡ fit → ltb (lowest_bad_set l.table) (length l.table) ≡ bad-table
      → outcome_of issue l ≡ cond fit (cond bad-table (outcome 2 (lowest_bad_set l.table)) (by_events issue l.events l.pairs l.table)) (outcome 1 0)
  unfolding outcome_of
  by_stages fit bad-table p q =
      ap₂ (λ (a b : Bool). cond a (cond b (outcome 2 (lowest_bad_set l.table)) (by_events issue l.events l.pairs l.table)) (outcome 1 0)) p q

  pub refused_lengths : lengths_fit l ≡ false → outcome 1 0 ≡ outcome_of issue l
  refused_lengths h = sym (by_stages false (ltb (lowest_bad_set l.table) (length l.table)) h refl)

  pub refused_set : (p : ℕ) → lengths_fit l ≡ true → p ≡ lowest_bad_set l.table → p < length l.table → outcome 2 p ≡ outcome_of issue l
  refused_set p h q b =
      ap (outcome 2) q
      ∙ sym (by_stages true true h (ap (λ (i : ℕ). ltb i (length l.table)) (sym q) ∙ lt-ltb p (length l.table) b))

  pub left_to_events : (p : ℕ) (r : Outcome) → lengths_fit l ≡ true → p ≡ lowest_bad_set l.table → length l.table ≤ p
      → r ≡ by_events issue l.events l.pairs l.table → r ≡ outcome_of issue l
  left_to_events p r h q b e =
      e
      ∙ sym (by_stages true false h (ap (λ (i : ℕ). ltb i (length l.table)) (sym q) ∙ le-ltb p (length l.table) b))

  -- if the lengths fit, the bytes of every event are all there
  pub whole_events : lengths_fit l ≡ true → WholeEvents l.events l.pairs
  whole_events h =
      let f = fits l h in
      record { few = omega (arith, f.pairs_fit, f.few_events); whole = omega (arith, f.pairs_fit, f.whole) }

  -- what is left of a trace, by whether it is accepted
  abbrev left_by : Bool → Left
  left_by b = cond b (accepted_left (outcome_of issue l) l) (refused_left (outcome_of issue l) l)

  -- what a refused trace leaves, and what an accepted one leaves
  pub left_refused : (r : Result ℕ Refused) → in_numbers r ≡ outcome_of issue l → IsErr r → refused_left (in_numbers r) l ≡ judged issue l
  unfolding judged accepts
  left_refused (Ok n) h k = cc
  left_refused (Err r) h k =
      ap (λ (x : Outcome). refused_left x l) h
      ∙ sym (ap left_by (ne_eqb (outcome_of issue l).number 0 (λ z. not_accepted r.refusal (ap (λ (x : Outcome). x.number) h ∙ z))))

  pub left_accepted : (n : ℕ) (t v d a : List ℕ) → in_numbers (Ok n) ≡ outcome_of issue l → length l.pairs ≡ count l
      → AllJudged l.events l.pairs l.table t v d a → left (in_numbers (Ok n)) t v d a ≡ judged issue l
  unfolding judged accepts
  left_accepted n t v d a h fit all =
      ap₂ (λ (x y : List ℕ). left (in_numbers (Ok n)) x y d a) all.in_table all.in_verdicts
      ∙ ap₂ (λ (x y : List ℕ). left (in_numbers (Ok n)) (run l.table whole) (outputs verdict l.table whole) x y) all.in_duties all.in_afters
      ∙ ap (λ (m : ℕ). after (events_from l.events l.pairs 0 m)) fit
      ∙ ap (λ (x : Outcome). accepted_left x l) h
      ∙ sym (ap left_by (eq-eqb (outcome_of issue l).number 0 (ap (λ (x : Outcome). x.number) (sym h))))
    where
      whole : List TraceEvent
      whole = events_from l.events l.pairs 0 (length l.pairs)

      after : List TraceEvent → Left
      after es = left (in_numbers (Ok n)) (run l.table es) (outputs verdict l.table es) (outputs duty_byte l.table es) (outputs after_set l.table es)

-- NO TWO RESULTS HAVE THE SAME NUMBERS.
pub same_numbers : (r s : Result ℕ Refused) → in_numbers r ≡ in_numbers s → r ≡ s
same_numbers (Ok n) (Ok m) h = ap (λ (o : Outcome). Ok o.place) h
same_numbers (Ok n) (Err s) h = absurd (not_accepted s.refusal (sym (ap (λ (o : Outcome). o.number) h)))
same_numbers (Err r) (Ok m) h = absurd (not_accepted r.refusal (ap (λ (o : Outcome). o.number) h))
same_numbers (Err r) (Err s) h =
    ap₂ (λ (x : Refusal) (p : ℕ). Err (record { refusal = x; place = p })) (one_to_one (ap (λ (o : Outcome). o.number) h)) (ap (λ (o : Outcome). o.place) h)

-- Good lines as one trace: the trace is accepted, its events are the lines', and the sheet's output says what it leaves.
-- Assumes nothing.
use mathlib.Core.Path.{◌≡◌, refl, sym, ◌∙◌, ap, ap₂, subst}
use mathlib.Core.Bool.{true}
use mathlib.Core.List.{List, [], ◌∷◌, ◌++◌, append_assoc}
use Prim.Native.Nat.{ℕ, zero, suc, ◌+◌, ◌*◌, ◌/◌, ◌%◌, ◌≤◌, ◌<◌}
use native.Mathlib.Nat.{add-zero, zero-add, add-suc, suc-add, mul-div_left, mul-mod_left}
use native.Mathlib.Omega.{arith}
use lib.ListN.{length, get_or, take, length-append}
use lib.Seq.{take_at, drop_at, get_or_at}
use Rattle.kinds.specs.Tests.{all, ◌∈?◌}
use Rattle.kinds.specs.Codes.{requests}
use Rattle.kinds.specs.Places.{event_length, most_events, most_pairs, pair_in}
use Rattle.kinds.proofs.Lists.{and_left, and_right}
use Rattle.event.specs.Refusals.{issue_e, below}
use Rattle.verdicts.specs.Verdicts.{after_set, verdict, duty_byte}
use Rattle.trace.specs.Events.{TraceEvent, event_at, events_from, moved, run, outputs}
use Rattle.trace.specs.Lent.{Lent, left, count}
use Rattle.trace.specs.Refusals.{outcome, outcome_of}
use Rattle.trace.specs.Lent.{Outcome}
use Rattle.trace.specs.Given.{GoodSoFar, EventGood, accepted}
use Rattle.trace.specs.Judged.{trace, judged}
use Rattle.trace.proofs.Given.{gives}
use Rattle.trace.proofs.Whole.{judged_accepted}
use Rattle.replies.specs.Replies.{answer_line}
use Rattle.sheet.specs.Sheet.{start_table}
use Rattle.sheet_theorems.specs.Good.{event_on, events_of, good, found_on, answer_lines}
use Rattle.sheet_theorems.specs.AsTrace.{bytes_of, pairs_of, as_trace, spelled}
use Rattle.sheet.proofs.Good.{parsed_pair_in, parsed_in_range, parsed_requested, parsed_length}
use Rattle.sheet_theorems.proofs.Answers.{good_accepted}
use Rattle.sheet_theorems.proofs.Reached.{start_length, start_set}

-- an event that a trace with the starting table accepts
record Fine (x : TraceEvent) : Type 0 where
  long : length x.bytes ≡ event_length
  pair_in : x.pair < most_pairs
  in_range : below x.bytes 1 issue_e.limits ≡ true
  is_request : get_or x.bytes 0 0 ∈? requests ≡ true

data AllFine : List TraceEvent → Type 0 where
  none : AllFine []
  one : {x : TraceEvent} {xs : List TraceEvent} → Fine x → AllFine xs → AllFine (x ∷ xs)

fine : (line : List ℕ) → good line ≡ true → Fine (event_on line)
fine line g = let h = good_accepted line g in record {
  long = parsed_length line h;
  pair_in = parsed_pair_in line h;
  in_range = parsed_in_range line h;
  is_request = parsed_requested line h;
}

all_fine : (lines : List (List ℕ)) → all good lines ≡ true → AllFine (events_of lines)
all_fine [] g = none
all_fine (line ∷ lines) g = one (fine line (and_left (good line) (all good lines) g)) (all_fine lines (and_right (good line) (all good lines) g))

length_bytes : {xs : List TraceEvent} → AllFine xs → length (bytes_of xs) ≡ length xs * event_length
length_bytes none = refl
length_bytes (one {x = x} {xs = xs} f fs) = omega (arith, length-append x.bytes (bytes_of xs), f.long, length_bytes fs)

length_pairs : (xs : List TraceEvent) → length (pairs_of xs) ≡ length xs
length_pairs [] = refl
length_pairs (x ∷ xs) = ap suc (length_pairs xs)

length_events : (lines : List (List ℕ)) → length (events_of lines) ≡ length lines
length_events [] = refl
length_events (line ∷ lines) = ap suc (length_events lines)

-- the events after others are read back one by one
event_here : (bs ps : List ℕ) (k : ℕ) (x : TraceEvent) (xs : List TraceEvent) → length bs ≡ k * event_length → length ps ≡ k → length x.bytes ≡ event_length
    → event_at (bs ++ bytes_of (x ∷ xs)) (ps ++ pairs_of (x ∷ xs)) k ≡ x
event_here bs ps k x xs e f l =
    ap₂ (λ (p : ℕ) (b : List ℕ). record { pair = p; bytes = b }) (get_or_at ps x.pair (pairs_of xs) 0 k f)
    (ap (take event_length) (drop_at bs (x.bytes ++ bytes_of xs) (k * event_length) e) ∙ take_at x.bytes (bytes_of xs) event_length l)

read_back : {xs : List TraceEvent} (bs ps : List ℕ) (k : ℕ) → AllFine xs → length bs ≡ k * event_length → length ps ≡ k
    → events_from (bs ++ bytes_of xs) (ps ++ pairs_of xs) k (length xs) ≡ xs
read_back bs ps k none e f = refl
read_back bs ps k (one {x = x} {xs = xs} g gs) e f =
    ap₂ (λ (y : TraceEvent) (ys : List TraceEvent). y ∷ ys) (event_here bs ps k x xs e f g.long)
    (ap₂ (λ (b p : List ℕ). events_from b p (suc k) (length xs)) (sym (append_assoc bs x.bytes (bytes_of xs))) (sym (append_assoc ps (x.pair ∷ []) (pairs_of xs)))
    ∙ read_back (bs ++ x.bytes) (ps ++ (x.pair ∷ [])) (suc k) gs
    (omega (arith, length-append bs x.bytes, e, g.long))
    (omega (arith, length-append ps (x.pair ∷ []), f)))

-- event k of them is accepted
fine_at : {xs : List TraceEvent} (bs ps : List ℕ) (i k : ℕ) → AllFine xs → length bs ≡ i * event_length → length ps ≡ i → k < length xs
    → Fine (event_at (bs ++ bytes_of xs) (ps ++ pairs_of xs) (i + k))
fine_at bs ps i k none e f h = absurd (omega arith)
fine_at bs ps i zero (one {x = x} {xs = xs} g gs) e f h =
    subst (λ j. Fine (event_at (bs ++ bytes_of (x ∷ xs)) (ps ++ pairs_of (x ∷ xs)) j)) (sym (add-zero i)) (subst Fine (sym (event_here bs ps i x xs e f g.long)) g)
fine_at bs ps i (suc k) (one {x = x} {xs = xs} g gs) e f h =
    subst Fine
    (ap₂ (λ (b p : List ℕ). event_at b p (suc i + k)) (append_assoc bs x.bytes (bytes_of xs)) (append_assoc ps (x.pair ∷ []) (pairs_of xs))
    ∙ ap (event_at (bs ++ bytes_of (x ∷ xs)) (ps ++ pairs_of (x ∷ xs))) (suc-add i k ∙ sym (add-suc i k)))
    (fine_at (bs ++ x.bytes) (ps ++ (x.pair ∷ [])) (suc i) k gs
    (omega (arith, length-append bs x.bytes, e, g.long))
    (omega (arith, length-append ps (x.pair ∷ []), f))
    (omega (arith, h)))

-- THE TRACE.
module _ (lines : List (List ℕ)) (verdicts duties afters : List ℕ) (g : all good lines ≡ true) (few : length lines ≤ most_events)
    (v : length verdicts ≡ length lines) (d : length duties ≡ length lines) (a : length afters ≡ length lines) where
  l : Lent
  l = as_trace lines verdicts duties afters

  bytes_long : length (bytes_of (events_of lines)) ≡ length lines * event_length
  bytes_long = length_bytes (all_fine lines g) ∙ ap (λ n. n * event_length) (length_events lines)

  counted : count l ≡ length lines
  unfolding l
  counted = ap (λ n. n / event_length) bytes_long ∙ mul-div_left (length lines) (omega arith)

  trace_so : trace l ≡ events_of lines
  unfolding l
  trace_so =
      ap (events_from (bytes_of (events_of lines)) (pairs_of (events_of lines)) 0) (counted ∙ sym (length_events lines))
      ∙ read_back [] [] 0 (all_fine lines g) refl refl

  good_so_far : GoodSoFar issue_e l (count l)
  unfolding l
  good_so_far = record {
    fits = record {
      whole = ap (λ n. n % event_length) bytes_long ∙ mul-mod_left (length lines) event_length;
      few_events = omega (arith, few, counted);
      few_pairs = omega (arith, start_length);
      pairs_fit = length_pairs (events_of lines) ∙ length_events lines ∙ sym counted;
      verdicts_fit = v ∙ sym counted;
      duties_fit = d ∙ sym counted;
      afters_fit = a ∙ sym counted;
    };
    sets_good = λ p h. omega (arith, start_set p (subst (λ n. p < n) start_length h));
    events_good = event_good;
  }
    where
      event_good : (k : ℕ) → k < count l → EventGood issue_e l k
      event_good k h =
          let f = subst (λ j. Fine (event_at (bytes_of (events_of lines)) (pairs_of (events_of lines)) j)) (zero-add k) (fine_at [] [] 0 k (all_fine lines g) refl refl (omega (arith, h, counted, length_events lines))) in
          record { pair_good = subst (λ n. pair_in (pairs_of (events_of lines)) k < n) (sym start_length) f.pair_in; bytes_good = f.in_range; request_good = f.is_request }

  outcome_so : outcome_of issue_e l ≡ outcome 0 (length lines)
  outcome_so = sym (gives issue_e l (accepted good_so_far)) ∙ ap (outcome 0) counted

  pub judged_so : judged issue_e (as_trace lines verdicts duties afters)
      ≡ left (outcome 0 (length lines)) (run start_table (events_of lines))
      (outputs verdict start_table (events_of lines)) (outputs duty_byte start_table (events_of lines)) (outputs after_set start_table (events_of lines))
  unfolding l
  judged_so =
      judged_accepted issue_e l (ap (λ (o : Outcome). o.number) outcome_so)
      ∙ ap₂ (λ (o : Outcome) (xs : List TraceEvent). left o (run start_table xs) (outputs verdict start_table xs) (outputs duty_byte start_table xs) (outputs after_set start_table xs)) outcome_so trace_so

-- the bytes that a trace leaves, written out, are the sheet's output
pub spelled_so : (n : ℕ) (table : List ℕ) (xs : List TraceEvent) → spelled n (outputs verdict table xs) (outputs duty_byte table xs) (outputs after_set table xs) ≡ answer_lines n table xs
spelled_so n table [] = refl
spelled_so n table (x ∷ xs) = ap (λ (s : List ℕ). answer_line n (found_on table x) ++ s) (spelled_so (n + 1) (moved table x) xs)

-- What a trace leaves, refused or accepted, and what is known about an accepted one.
-- Assumes nothing.
use mathlib.Core.Path.{◌≡◌, refl, sym, ◌∙◌, ap, ap₂}
use mathlib.Core.Bool.{Bool, true, false, cond}
use mathlib.Core.List.{List}
use Prim.Native.Nat.{ℕ}
use native.Mathlib.Omega.{arith}
use borrow.Author.Tests.{eq-eqb, ne_eqb}
use lib.ListN.{length}
use Rattle.kinds.specs.Tests.{◌∈?◌}
use Rattle.kinds.specs.Places.{event_in}
use Rattle.rows.specs.Event.{request_of}
use Rattle.event.specs.Refusals.{Issue, issue_e, below, fault}
use Rattle.trace.specs.Code.{Ready}
use Rattle.trace.specs.Lent.{Lent, Left, count}
use Rattle.trace.specs.Refusals.{outcome_of}
use Rattle.trace.specs.Given.{GoodSoFar, Given, accepted, bad_lengths, bad_set, bad_pair, bad_byte, bad_request}
use Rattle.trace.specs.Judged.{accepts, accepted_left, refused_left, judged}
use Rattle.trace.proofs.Given.{given}

module _ (issue : Issue) (l : Lent) where
  by_acceptance : (b : Bool) → accepts issue l ≡ b → judged issue l ≡ cond b (accepted_left (outcome_of issue l) l) (refused_left (outcome_of issue l) l)
  unfolding judged
  by_acceptance b h = ap (λ (x : Bool). cond x (accepted_left (outcome_of issue l) l) (refused_left (outcome_of issue l) l)) h

  -- the result is the outcome, accepted or refused
  pub judged_outcome : (judged issue l).outcome ≡ outcome_of issue l
  judged_outcome = go (accepts issue l) refl
    where
      go : (b : Bool) → accepts issue l ≡ b → (judged issue l).outcome ≡ outcome_of issue l
      go true h = ap (λ (x : Left). x.outcome) (by_acceptance true h)
      go false h = ap (λ (x : Left). x.outcome) (by_acceptance false h)

  pub judged_accepted : (outcome_of issue l).number ≡ 0 → judged issue l ≡ accepted_left (outcome_of issue l) l
  unfolding accepts
  judged_accepted h = by_acceptance true (eq-eqb (outcome_of issue l).number 0 h)

  pub judged_refused : ((outcome_of issue l).number ≡ 0 → ⊥) → judged issue l ≡ refused_left (outcome_of issue l) l
  unfolding accepts
  judged_refused h = by_acceptance false (ne_eqb (outcome_of issue l).number 0 h)

  -- number 0 is given only for an accepted trace
  row_0 : {number place : ℕ} → Given issue l number place → number ≡ 0 → GoodSoFar issue l (count l)
  row_0 (accepted r) h = r
  row_0 (bad_lengths n) h = absurd (omega arith)
  row_0 (bad_set f a b c) h = absurd (omega arith)
  row_0 (bad_pair r a b) h = absurd (omega arith)
  row_0 (bad_byte r a b c) h = absurd (omega arith)
  row_0 (bad_request r a b c d) h = absurd (omega arith)

  pub accepted_good : (outcome_of issue l).number ≡ 0 → GoodSoFar issue l (count l)
  accepted_good h = row_0 (given issue l) h

  -- an accepted trace has as many pair numbers as events
  pub accepted_pairs : (outcome_of issue l).number ≡ 0 → length l.pairs ≡ count l
  accepted_pairs h = (accepted_good h).fits.pairs_fit

-- an event whose bytes are in range and whose request is judged has no fault
fault_none : (issue : Issue) (e : List ℕ) → below e 1 issue.limits ≡ true → request_of e ∈? issue.requests ≡ true → fault issue e ≡ 0
unfolding fault
fault_none issue e h k = ap₂ (λ (a b : Bool). cond a (cond b 0 5) 4) h k

-- no event of an accepted trace is refused, and its output buffers have one byte for each
pub ready : (l : Lent) → (outcome_of issue_e l).number ≡ 0 → Ready l.events l.pairs l.table l.verdicts l.duties l.afters
ready l h =
    let g = accepted_good issue_e l h in
    let f = g.fits in
    record {
      few = omega (arith, f.pairs_fit, f.few_events);
      verdicts_fit = f.verdicts_fit ∙ sym f.pairs_fit;
      duties_fit = f.duties_fit ∙ sym f.pairs_fit;
      afters_fit = f.afters_fit ∙ sym f.pairs_fit;
      good =
          λ k inside.
          let e = g.events_good k (omega (arith, f.pairs_fit)) in
          record {
            whole = omega (arith, f.pairs_fit, f.whole);
            has_pair = e.pair_good;
            no_fault = fault_none issue_e (event_in l.events k) e.bytes_good e.request_good;
          };
    }

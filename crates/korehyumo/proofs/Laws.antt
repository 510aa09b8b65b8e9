-- Laws about the packed result of a call: its parts are small, and each can be read back.
-- Assumes nothing.
use mathlib.Core.Path.{◌≡◌, sym, ◌∙◌, ap, ap₂, subst}
use mathlib.Core.Bool.{Bool, true, false, cond}
use mathlib.Core.List.{List}
use Prim.Native.Nat.{ℕ, ◌<◌, ◌≤◌, ◌/◌, ◌%◌, ◌^◌}
use native.Mathlib.Omega.{arith}
use lib.Arith.{digits_div, digits_mod}
use lib.Dec.{eqb}
use lib.ListN.{length}
use Rattle.kinds.specs.Tests.{◌∈?◌}
use Rattle.kinds.specs.Places.{event_length}
use Rattle.rows.specs.Event.{request_of}
use Rattle.event.specs.Refusals.{Issue, issue_e, below, fault, refusal_alone}
use Rattle.event.specs.Alone.{accepted_alone, refused_alone, judged_alone}
use Rattle.trace.specs.Lent.{Lent, Outcome}
use Rattle.trace.specs.Refusals.{outcome}
use Rattle.trace.specs.Given.{Given, accepted, bad_lengths, bad_set, bad_pair, bad_byte, bad_request}
use Rattle.trace.specs.Judged.{judged}
use Rattle.trace.proofs.Given.{given}
use Rattle.trace.proofs.Whole.{judged_outcome}
use Rattle.answers.specs.declared.Question.{Question}
use Rattle.answers.specs.Listed.{most_answers, ListLeft, listed}
use Rattle.answers.proofs.Given.{small}
use Rattle.korehyumo.specs.Calls.{places_end, in_one, with_more}

-- the refusal number and the place, read back from the packed number
pub number_in : (number place : ℕ) → number < 256 → in_one number place % 256 ≡ number
unfolding in_one
number_in number place h = digits_mod place h

pub place_in : (number place : ℕ) → number < 256 → in_one number place / 256 ≡ place
unfolding in_one
place_in number place h = digits_div place h

-- two outcomes with the same packed number are equal
pub same_outcome : (o : Outcome) (number place : ℕ) → o.number < 256 → number < 256 → in_one o.number o.place ≡ in_one number place
    → o ≡ outcome number place
same_outcome o number place small small' h =
    ap₂ outcome
    (sym (number_in o.number o.place small) ∙ ap (λ (n : ℕ). n % 256) h ∙ number_in number place small')
    (sym (place_in o.number o.place small) ∙ ap (λ (n : ℕ). n / 256) h ∙ place_in number place small')

-- the packed number fits in 32 bits
pub one_below : (number place : ℕ) → number < 256 → place < places_end → in_one number place < 2 ^ 32
unfolding in_one
one_below number place h k = omega arith

-- one event alone: its place and its refusal number are small
pub place_alone : (issue : Issue) (e : List ℕ) → (judged_alone issue e).place < places_end
unfolding judged_alone
place_alone issue e = go (eqb (refusal_alone issue e) 0)
  where
    go : (b : Bool) → (cond b (accepted_alone e) (refused_alone (refusal_alone issue e))).place < places_end
    go true = omega arith
    go false = omega arith

fault_below : (issue : Issue) (e : List ℕ) → fault issue e < 256
unfolding fault
fault_below issue e = go (below e 1 issue.limits) (request_of e ∈? issue.requests)
  where
    go : (fine known : Bool) → cond fine (cond known 0 5) 4 < 256
    go true true = omega arith
    go true false = omega arith
    go false known = omega arith

alone_below : (issue : Issue) (e : List ℕ) → refusal_alone issue e < 256
unfolding refusal_alone
alone_below issue e = go (eqb (length e) event_length) (fault_below issue e)
  where
    go : (whole : Bool) → fault issue e < 256 → cond whole (fault issue e) 1 < 256
    go true h = h
    go false h = omega arith

pub number_alone : (issue : Issue) (e : List ℕ) → (judged_alone issue e).number < 256
unfolding judged_alone
number_alone issue e = go (eqb (refusal_alone issue e) 0) (alone_below issue e)
  where
    go : (b : Bool) → refusal_alone issue e < 256 → (cond b (accepted_alone e) (refused_alone (refusal_alone issue e))).number < 256
    go true h = omega arith
    go false h = h

-- a whole trace: in every row of the refusal table, place and number are small
place_of_row : {issue : Issue} {l : Lent} {number place : ℕ} → Given issue l number place → place < places_end
place_of_row (accepted g) = omega (arith, g.fits.few_events)
place_of_row (bad_lengths n) = omega arith
place_of_row (bad_set f a b n) = omega (arith, f.few_pairs, b)
place_of_row (bad_pair g b n) = omega (arith, g.fits.few_events, b)
place_of_row (bad_byte g b p n) = omega (arith, g.fits.few_events, b)
place_of_row (bad_request g b p c n) = omega (arith, g.fits.few_events, b)

number_of_row : {issue : Issue} {l : Lent} {number place : ℕ} → Given issue l number place → number < 256
number_of_row (accepted g) = omega arith
number_of_row (bad_lengths n) = omega arith
number_of_row (bad_set f a b n) = omega arith
number_of_row (bad_pair g b n) = omega arith
number_of_row (bad_byte g b p n) = omega arith
number_of_row (bad_request g b p c n) = omega arith

pub place_of_trace : (issue : Issue) (l : Lent) → (judged issue l).outcome.place < places_end
place_of_trace issue l = subst (λ (o : Outcome). o.place < places_end) (sym (judged_outcome issue l)) (place_of_row (given issue l))

pub number_of_trace : (issue : Issue) (l : Lent) → (judged issue l).outcome.number < 256
number_of_trace issue l = subst (λ (o : Outcome). o.number < 256) (sym (judged_outcome issue l)) (number_of_row (given issue l))

-- the lower half and the upper half, read back from a result
pub lower_in : (packed more : ℕ) → packed < 2 ^ 32 → with_more packed more % 2 ^ 32 ≡ packed
unfolding with_more
lower_in packed more h = digits_mod more h

pub upper_in : (packed more : ℕ) → packed < 2 ^ 32 → with_more packed more / 2 ^ 32 ≡ more
unfolding with_more
upper_in packed more h = digits_div more h

-- what the list of permitted answers leaves is small
pub list_place : (q : Question) (room : List ℕ) (l : ListLeft) → l ≡ listed issue_e q room → l.result.place < places_end
list_place q room l h = subst (λ (x : ListLeft). x.result.place < places_end) (sym h) (omega (arith, (small q room).place))

pub list_count : (q : Question) (room : List ℕ) (l : ListLeft) → l ≡ listed issue_e q room → l.result.count ≤ most_answers
list_count q room l h = subst (λ (x : ListLeft). x.result.count ≤ most_answers) (sym h) (small q room).count

pub list_packed : (q : Question) (room : List ℕ) (l : ListLeft) (packed : ℕ) → l ≡ listed issue_e q room → packed ≡ in_one l.result.number l.result.place
    → packed < 2 ^ 32
list_packed q room l packed h p =
    subst (λ (n : ℕ). n < 2 ^ 32) (sym p)
    (one_below l.result.number l.result.place
    (subst (λ (x : ListLeft). x.result.number < 256) (sym h) (small q room).number)
    (list_place q room l h))

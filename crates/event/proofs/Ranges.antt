-- An event that is not refused is in range, so that what is looked up for it is what the rows permit.
-- Assumes nothing.
use mathlib.Core.Path.{◌≡◌, refl, sym, ◌∙◌, subst}
use mathlib.Core.Bool.{Bool, true, false, cond}
use mathlib.Core.List.{List, [], ◌∷◌}
use Prim.Native.Nat.{ℕ, zero, suc, ◌+◌, ◌<◌}
use native.Mathlib.Nat.{add-zero, add-suc, suc-add, not-suc-le-zero, le_of_suc-le-suc}
use native.Mathlib.Omega.{arith}
use borrow.Author.Tests.{ltb-true}
use lib.Dec.{eqb, ltb}
use lib.ListN.{length, get_or}
use Rattle.kinds.specs.Tests.{◌∈?◌}
use Rattle.kinds.specs.Places.{event_length}
use Rattle.kinds.proofs.Lists.{and_left, and_right}
use Rattle.rows.specs.Event.{byte, request_of}
use Rattle.steps.specs.Steps.{sets_after}
use Rattle.lookup.specs.Code.{looked_sets}
use Rattle.lookup.proofs.Says.{InRange}
use Rattle.lookup.proofs.Sets.{looked_sets_lem}
use Rattle.event.specs.Refusals.{issue_e, below, fault, refusal_alone}

-- the byte with the k-th limit is below it
below_at : (e : List ℕ) (i : ℕ) (ls : List ℕ) (k : ℕ) → k < length ls → below e i ls ≡ true → byte e (i + k) < get_or ls k 0
below_at e i [] k h p = absurd (not-suc-le-zero h)
below_at e i (l ∷ ls) zero h p =
    subst (λ (n : ℕ). byte e n < l) (sym (add-zero i)) (ltb-true (byte e i) l (and_left (ltb (byte e i) l) (below e (suc i) ls) p))
below_at e i (l ∷ ls) (suc k) h p =
    subst (λ (n : ℕ). byte e n < get_or ls k 0) (suc-add i k ∙ sym (add-suc i k))
    (below_at e (suc i) ls k (le_of_suc-le-suc h) (and_right (ltb (byte e i) l) (below e (suc i) ls) p))

-- an event without fault has its bytes in their ranges, and a request that is judged
no_fault : (b r : Bool) → ◌≡◌ {A = ℕ} (cond b (cond r 0 5) 4) 0 → (b ≡ true) × (r ≡ true)
no_fault true true h = (refl, refl)
no_fault true false h = absurd (omega arith)
no_fault false r h = absurd (omega arith)

pub in_range_lem : (e : List ℕ) → fault issue_e e ≡ 0 → InRange e
unfolding fault
in_range_lem e h =
    let k = no_fault (below e 1 issue_e.limits) (request_of e ∈? issue_e.requests) h in
    let at : (n : ℕ) → n < 14 → byte e (1 + n) < get_or issue_e.limits n 0 = λ n l. below_at e 1 issue_e.limits n l k.0 in
    record {
      request = k.1;
      ret = at 0 (omega arith);
      no_sd = at 1 (omega arith);
      excl = at 2 (omega arith);
      tag = at 3 (omega arith);
      channel = at 4 (omega arith);
      opcode = at 5 (omega arith);
      resp = at 6 (omega arith);
      fwd_state = at 7 (omega arith);
      tag_op = at 8 (omega arith);
      error = at 9 (omega arith);
      forwarded = at 10 (omega arith);
      forwarded_resp = at 11 (omega arith);
      state_after = at 12 (omega arith);
      forwarded_err = at 13 (omega arith);
    }

-- an event alone that is not refused has no fault
whole : (b : Bool) (n : ℕ) → cond b n 1 ≡ 0 → n ≡ 0
whole true n h = h
whole false n h = absurd (omega arith)

-- the sets that are looked up for an event alone that is not refused
pub looked_alone : (e : List ℕ) (r : ℕ) (sets : List ℕ) → r ≡ refusal_alone issue_e e → r ≡ 0 → sets ≡ looked_sets e → sets ≡ sets_after e
unfolding refusal_alone
looked_alone e r sets h k l = l ∙ looked_sets_lem e (in_range_lem e (whole (eqb (length e) event_length) (fault issue_e e) (sym h ∙ k)))

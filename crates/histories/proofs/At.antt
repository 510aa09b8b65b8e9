-- Event k of an accepted trace: its pair's set before and after it, its byte in each output, and its verdict, in terms of histories.
-- Assumes nothing.
use mathlib.Core.Path.{◌≡◌, refl, sym, ◌∙◌, ap, subst}
use mathlib.Core.Logic.{◌↔◌}
use mathlib.Core.List.{List, [], ◌∷◌, ◌++◌, append-nil}
use Prim.Native.Nat.{ℕ, suc, ◌+◌, ◌-◌, ◌<◌, ◌≤◌}
use native.Mathlib.Nat.{zero-add}
use native.Mathlib.Numerals.{add-one}
use native.Mathlib.Omega.{arith}
use lib.ListN.{length, get_or}
use Rattle.kinds.specs.Places.{set_in, pair_in, event_in}
use Rattle.sets.proofs.Laws.{Held}
use Rattle.event.specs.Refusals.{Issue}
use Rattle.verdicts.specs.Verdicts.{after_set, verdict}
use Rattle.trace.specs.Events.{event_at, events_from, run, outputs}
use Rattle.trace.specs.Lent.{Lent, count}
use Rattle.trace.specs.Given.{GoodSoFar}
use Rattle.trace.specs.Judged.{trace}
use Rattle.histories.specs.Histories.{own, first, SomeHistoryTo, Passes, VerdictGiven}
use Rattle.histories.proofs.Walk.{walk, walk_below, walk_append, some_ends, walk_empty}
use Rattle.histories.proofs.Own.{own_same, own_other, own_append, events_from-append, run_own, output_at}
use Rattle.histories.proofs.Verdicts.{verdict_is, is_verdict}

-- the set of pair p after its events among the first k
abbrev pub set_before : Lent → ℕ → ℕ → ℕ
set_before l p k = walk (set_in l.table p) (own p (first l k))

pub first_suc : (l : Lent) (k : ℕ) → first l (suc k) ≡ first l k ++ (event_at l.events l.pairs k ∷ [])
first_suc l k =
    ap (first l) (sym (add-one k))
    ∙ events_from-append l.events l.pairs 0 k 1
    ∙ ap (λ (i : ℕ). first l k ++ (event_at l.events l.pairs i ∷ [])) (zero-add k)

own_suc : (l : Lent) (p k : ℕ) → own p (first l (suc k)) ≡ own p (first l k) ++ own p (event_at l.events l.pairs k ∷ [])
own_suc l p k = ap (own p) (first_suc l k) ∙ own_append p (first l k) (event_at l.events l.pairs k ∷ [])

-- another pair's event adds nothing to the pair's own events
pub own_kept : (l : Lent) (p k : ℕ) → (pair_in l.pairs k ≡ p → ⊥) → own p (first l (suc k)) ≡ own p (first l k)
own_kept l p k h =
    own_suc l p k
    ∙ ap (λ (es : List (List ℕ)). own p (first l k) ++ es) (own_other p (event_at l.events l.pairs k) [] h)
    ∙ append-nil (own p (first l k))

-- the event changes its own pair's set to the set after
pub set_next : (l : Lent) (k : ℕ) → set_before l (pair_in l.pairs k) (suc k) ≡ after_set (event_in l.events k) (set_before l (pair_in l.pairs k) k)
set_next l k =
    let p = pair_in l.pairs k in
    ap (walk (set_in l.table p)) (own_suc l p k ∙ ap (λ (es : List (List ℕ)). own p (first l k) ++ es) (own_same p (event_at l.events l.pairs k) [] refl))
    ∙ walk_append (set_in l.table p) (own p (first l k)) (event_in l.events k ∷ [])

-- an empty set stays empty (definition 7.4)
pub set_lost : (l : Lent) (p k j : ℕ) → k ≤ j → set_before l p k ≡ 0 → set_before l p j ≡ 0
set_lost l p k j h z =
    ap (λ (i : ℕ). set_before l p i) (split k j h)
    ∙ ap (walk (set_in l.table p)) (ap (own p) (events_from-append l.events l.pairs 0 k (j - k)) ∙ own_append p (first l k) (events_from l.events l.pairs (0 + k) (j - k)))
    ∙ walk_append (set_in l.table p) (own p (first l k)) rest
    ∙ ap (λ (m : ℕ). walk m rest) z
    ∙ walk_empty rest
  where
    rest : List (List ℕ)
    rest = own p (events_from l.events l.pairs (0 + k) (j - k))

    split : (a b : ℕ) → a ≤ b → b ≡ a + (b - a)
    split a b le = omega arith

-- histories reach event k exactly when the set before it holds a state, and pass it exactly when the set after it does
pub reached_held : (l : Lent) (p k : ℕ) → Held (set_before l p k) ↔ SomeHistoryTo l p k
reached_held l p k = some_ends (set_in l.table p) (own p (first l k))

passed_held : (l : Lent) (k : ℕ) → Held (after_set (event_in l.events k) (set_before l (pair_in l.pairs k) k)) ↔ Passes l k
passed_held l k = subst (λ m. Held m ↔ Passes l k) (set_next l k) (reached_held l (pair_in l.pairs k) (suc k))

-- EVENT k OF AN ACCEPTED TRACE.
module _ (issue : Issue) (l : Lent) (good : GoodSoFar issue l (count l)) where
  pub set_below : (p k : ℕ) → p < length l.table → set_before l p k < 128
  set_below p k h = walk_below (set_in l.table p) (own p (first l k)) (omega (arith, good.sets_good p h))

  -- the set of a pair at the end
  pub table_at : (p : ℕ) → p < length l.table → set_in (run l.table (trace l)) p ≡ set_before l p (count l)
  table_at p h = run_own l.table (trace l) p h

  -- the table has the event's pair
  pub pair_in_lem : (k : ℕ) → k < count l → pair_in l.pairs k < length l.table
  pair_in_lem k h = (good.events_good k h).pair_good

  -- an output byte of event k is computed from its pair's set before it
  pub byte_at : (f : List ℕ → ℕ → ℕ) (k : ℕ) → k < count l
      → get_or (outputs f l.table (trace l)) k 0 ≡ f (event_in l.events k) (set_before l (pair_in l.pairs k) k)
  byte_at f k h =
      output_at f l.table l.events l.pairs 0 (count l) k h
      ∙ ap (λ (i : ℕ). f (event_in l.events i) (set_in (run l.table (first l k)) (pair_in l.pairs i))) (zero-add k)
      ∙ ap (f (event_in l.events k)) (run_own l.table (first l k) (pair_in l.pairs k) (pair_in_lem k h))

  -- the after-set of event k is its pair's set right after it (definition 7.5)
  pub after_at_lem : (k : ℕ) → k < count l → get_or (outputs after_set l.table (trace l)) k 0 ≡ set_before l (pair_in l.pairs k) (suc k)
  after_at_lem k h = byte_at after_set k h ∙ sym (set_next l k)

  -- the verdict of event k is given, and only that one (definition 7.3)
  pub verdict_given : (k : ℕ) → k < count l → VerdictGiven l k (get_or (outputs verdict l.table (trace l)) k 0)
  verdict_given k h =
      let p = pair_in l.pairs k in
      subst (VerdictGiven l k) (sym (byte_at verdict k h))
      (verdict_is (event_in l.events k) (set_before l p k) (set_below p k (pair_in_lem k h)) (reached_held l p k) (passed_held l k))

  pub gives_verdict : (k : ℕ) → k < count l → {v : ℕ} → VerdictGiven l k v → get_or (outputs verdict l.table (trace l)) k 0 ≡ v
  gives_verdict k h g =
      let p = pair_in l.pairs k in
      byte_at verdict k h
      ∙ is_verdict (event_in l.events k) (set_before l p k) (set_below p k (pair_in_lem k h)) (reached_held l p k) (passed_held l k) g

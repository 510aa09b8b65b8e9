-- The seven sets that are looked up for an event in range are those of its steps.
-- Assumes nothing.
use mathlib.Core.Path.{◌≡◌, refl, sym, ◌∙◌, ap, ap₂}
use mathlib.Core.Bool.{Bool, true, false, cond, ◌&&◌}
use mathlib.Core.List.{List}
use Prim.Native.Nat.{ℕ, ◌<◌}
use native.Mathlib.Nat.{mod-eq_of_lt}
use lib.Bits.{bit_and}
use Rattle.kinds.specs.Codes.{state_not_seen}
use Rattle.kinds.proofs.Lists.{map_states}
use Rattle.sets.specs.Sets.{set_of, bit}
use Rattle.sets.proofs.Laws.{set_of-states, set_of-bit, cond-set_of, and-set_of}
use Rattle.rows.specs.Event.{state_after_of, seen}
use Rattle.steps.specs.Steps.{steps, set_after, sets_after}
use Rattle.lookup.specs.Code.{effect_of, from, to, spread, seen_after, looked_sets}
use Rattle.lookup.proofs.Says.{InRange, looked_steps, looked_duty}

module _ (e : List ℕ) (i : InRange e) where
  abbrev n : ℕ
  n = effect_of e

  -- the states after that are looked up and among those seen
  pub both_sets : to n < 128 → set_of (λ s'. bit (to n) s' && seen state_not_seen (state_after_of e) s') ≡ bit_and (to n) (seen_after e)
  both_sets h =
      sym (and-set_of (bit (to n)) (seen state_not_seen (state_after_of e)))
      ∙ ap₂ (λ (m x : ℕ). bit_and m (set_of (seen state_not_seen x))) (set_of-bit (to n) h) (sym (mod-eq_of_lt i.state_after))

  -- the set of states after from one state
  looked_set : (s : ℕ) → s < 7 → cond (bit (from n) s) (bit_and (to n) (seen_after e)) 0 ≡ set_after e s
  unfolding set_after
  looked_set s h =
      one_set (bit (from n) s) refl
      ∙ sym (set_of-states (steps e s) (λ s'. bit (from n) s && (bit (to n) s' && seen state_not_seen (state_after_of e) s')) (λ s' k. looked_steps e i s s' h k))
    where
      one_set : (b : Bool) → bit (from n) s ≡ b → cond b (bit_and (to n) (seen_after e)) 0 ≡ set_of (λ s'. bit (from n) s && (bit (to n) s' && seen state_not_seen (state_after_of e) s'))
      one_set true k =
          sym (both_sets (looked_duty e i s h k).to_below)
          ∙ ap (λ (b : Bool). cond b (set_of (λ s'. bit (to n) s' && seen state_not_seen (state_after_of e) s')) 0) (sym k)
          ∙ cond-set_of (bit (from n) s) (λ s'. bit (to n) s' && seen state_not_seen (state_after_of e) s')
      one_set false k =
          ap (λ (b : Bool). cond b (set_of (λ s'. bit (to n) s' && seen state_not_seen (state_after_of e) s')) 0) (sym k)
          ∙ cond-set_of (bit (from n) s) (λ s'. bit (to n) s' && seen state_not_seen (state_after_of e) s')

  -- THE SEVEN SETS THAT ARE LOOKED UP are those that the rows permit, which the walk along the rows gives.
  pub looked_sets_lem : looked_sets e ≡ sets_after e
  unfolding looked_sets spread
  looked_sets_lem = map_states (λ s. cond (bit (from n) s) (bit_and (to n) (seen_after e)) 0) (set_after e) looked_set

  -- WHY ONE LOOKUP SERVES ALL STATES BEFORE: from every state from which the event is a step, the states after are the same.
  pub same_after : (s t : ℕ) → s < 7 → t < 7 → (set_after e s ≡ 0 → ⊥) → (set_after e t ≡ 0 → ⊥) → set_after e s ≡ set_after e t
  same_after s t h k p q = from_one s h p ∙ sym (from_one t k q)
    where
      from_one : (x : ℕ) → x < 7 → (set_after e x ≡ 0 → ⊥) → set_after e x ≡ bit_and (to n) (seen_after e)
      from_one x l some = go (bit (from n) x) refl
        where
          go : (b : Bool) → bit (from n) x ≡ b → set_after e x ≡ bit_and (to n) (seen_after e)
          go true m = sym (looked_set x l) ∙ ap (λ (c : Bool). cond c (bit_and (to n) (seen_after e)) 0) m
          go false m = absurd (some (sym (looked_set x l) ∙ ap (λ (c : Bool). cond c (bit_and (to n) (seen_after e)) 0) m))

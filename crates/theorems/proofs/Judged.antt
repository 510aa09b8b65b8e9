-- The judge's answer to one event: its number, its sets, and its duties: the duty byte if there is a step, and 0 if there is none.
-- Assumes nothing.
use mathlib.Core.Path.{◌≡◌, refl, sym, ◌∙◌, ap, subst}
use mathlib.Core.Bool.{Bool, true, false, cond}
use mathlib.Core.List.{List, [], ◌∷◌, map}
use Prim.Native.Nat.{ℕ, zero, suc, ◌^◌, ◌<◌}
use borrow.Author.Tests.{ne_eqb, eq-eqb, eqb-true}
use lib.Dec.{eqb}
use lib.ListN.{get_or}
use Rattle.kinds.specs.Codes.{states}
use Rattle.sets.proofs.Laws.{set_of-holds, set_of-empty, set_of-below}
use Rattle.steps.specs.Steps.{Step, steps, set_after, duty, no_duty, duty_alone}
use Rattle.steps.proofs.Stepping.{permitted_before_lem, permitted_after, steps_step, step_steps}
use Rattle.kinds.proofs.Lists.{at_state}
use Rattle.event.specs.Refusals.{issue_e, refusal_alone}
use Rattle.event.specs.Alone.{Alone, accepted_alone, refused_alone, judged_alone}

-- the answer, by whether the event is accepted
pub answer_alone : (e : List ℕ) (b : Bool) → eqb (refusal_alone issue_e e) 0 ≡ b → judged_alone issue_e e ≡ cond b (accepted_alone e) (refused_alone (refusal_alone issue_e e))
unfolding judged_alone
answer_alone e b h = ap (λ (x : Bool). cond x (accepted_alone e) (refused_alone (refusal_alone issue_e e))) h

-- what holds for both possible answers holds for the answer
pub by_answer : (e : List ℕ) (P : Alone → Type 0) → P (accepted_alone e) → P (refused_alone (refusal_alone issue_e e)) → P (judged_alone issue_e e)
by_answer e P accepted refused = go (eqb (refusal_alone issue_e e) 0) refl
  where
    go : (b : Bool) → eqb (refusal_alone issue_e e) 0 ≡ b → P (judged_alone issue_e e)
    go true h = subst P (sym (answer_alone e true h)) accepted
    go false h = subst P (sym (answer_alone e false h)) refused

pub number_alone : (e : List ℕ) → (judged_alone issue_e e).number ≡ refusal_alone issue_e e
number_alone e = go (eqb (refusal_alone issue_e e) 0) refl
  where
    go : (b : Bool) → eqb (refusal_alone issue_e e) 0 ≡ b → (judged_alone issue_e e).number ≡ refusal_alone issue_e e
    go true h = ap (λ (j : Alone). j.number) (answer_alone e true h) ∙ sym (eqb-true (refusal_alone issue_e e) 0 h)
    go false h = ap (λ (j : Alone). j.number) (answer_alone e false h)

-- what holds for 0 and for every f x holds for each element of a list of them, and past its end
pub each_at : (P : ℕ → Type 0) (f : ℕ → ℕ) (xs : List ℕ) → P 0 → ((x : ℕ) → P (f x)) → (s : ℕ) → P (get_or (map f xs) s 0)
each_at P f [] z each s = z
each_at P f (x ∷ xs) z each zero = each x
each_at P f (x ∷ xs) z each (suc s) = each_at P f xs z each s

-- an entry of seven zeros is 0, and so is what stands past its end
pub zero_at : (s : ℕ) → ◌≡◌ {A = ℕ} (get_or (map (λ n. 0) states) s 0) 0
zero_at = each_at (λ m. m ≡ 0) (λ n. 0) states refl (λ x. refl)

pub set_after_below : (e : List ℕ) (s : ℕ) → set_after e s < 128
unfolding set_after
set_after_below e s = set_of-below (steps e s)

-- if there is a step, the set after is not empty
set_of_step : (e : List ℕ) (s s' : ℕ) → Step e s s' → eqb (set_after e s) 0 ≡ false
unfolding set_after
set_of_step e s s' p = ne_eqb (set_after e s) 0 (set_of-holds (steps e s) s' (permitted_after e p.tag s s' p.by_rows) (step_steps e s s' p))

pub duty_of_step : (e : List ℕ) (s s' : ℕ) → Step e s s' → get_or (map (duty_alone e) states) s 0 ≡ duty e (2 ^ s)
duty_of_step e s s' p =
    at_state (duty_alone e) s (permitted_before_lem e p.tag s s' p.by_rows)
    ∙ ap (λ (b : Bool). cond b no_duty (duty e (2 ^ s))) (set_of_step e s s' p)

-- if there is no step, the set after is empty
set_of_none : (e : List ℕ) (s : ℕ) → ((s' : ℕ) → Step e s s' → ⊥) → eqb (set_after e s) 0 ≡ true
unfolding set_after
set_of_none e s none = eq-eqb (set_after e s) 0 (set_of-empty (steps e s) each)
  where
    each : (s' : ℕ) → steps e s s' ≡ false
    each s' = go (steps e s s') refl
      where
        go : (b : Bool) → steps e s s' ≡ b → b ≡ false
        go true h = absurd (none s' (steps_step e s s' h))
        go false h = refl

pub duty_of_none : (e : List ℕ) (s : ℕ) → s < 7 → ((s' : ℕ) → Step e s s' → ⊥) → get_or (map (duty_alone e) states) s 0 ≡ no_duty
duty_of_none e s k none = at_state (duty_alone e) s k ∙ ap (λ (b : Bool). cond b no_duty (duty e (2 ^ s))) (set_of_none e s none)

-- an event that is no step has seven empty sets, accepted or refused
pub no_sets : (e : List ℕ) → ((s s' : ℕ) → Step e s s' → ⊥) → (s : ℕ) → get_or (judged_alone issue_e e).sets s 0 ≡ 0
no_sets e none s =
    by_answer e (λ j. get_or j.sets s 0 ≡ 0)
    (each_at (λ m. m ≡ 0) (set_after e) states refl (λ x. eqb-true (set_after e x) 0 (set_of_none e x (none x))) s)
    (zero_at s)

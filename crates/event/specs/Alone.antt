-- The whole answer to one event alone, for any bytes (definition 3.1, 3.2).
use Rattle.std.specs.Prelude.{ℕ, cond, List, map, eqb, Result, Ok, Err}
use Rattle.kinds.specs.Codes.{states}
use Rattle.kinds.specs.Refusals.{refusal_number}
use Rattle.kinds.specs.declared.Refusal.{Refusal}
use Rattle.steps.specs.Steps.{sets_after, duty_alone}
use Rattle.event.specs.Refusals.{Issue, refusal_alone}
use Rattle.event.specs.declared.Judgment.{Judgment}

-- The answer to one event alone in numbers: a refusal number and a place, then a set of states after and a duty for each state before.
pub record Alone : Type 0 where
  pub number : ℕ
  pub place : ℕ
  pub sets : List ℕ
  pub duties : List ℕ

-- an accepted event: place 1, seven sets of states after, and seven duties, each judged from its own state
abbrev pub accepted_alone : List ℕ → Alone
accepted_alone e = record { number = 0; place = 1; sets = sets_after e; duties = map (duty_alone e) states }

abbrev pub seven_zeros : List ℕ
seven_zeros = map (λ s. 0) states

-- a refused event: its number, place 0, seven empty sets and seven duties 0
abbrev pub refused_alone : ℕ → Alone
refused_alone n = record { number = n; place = 0; sets = seven_zeros; duties = seven_zeros }

-- the answer to one event alone
unfoldable pub judged_alone : Issue → List ℕ → Alone
judged_alone issue e = cond (eqb (refusal_alone issue e) 0) (accepted_alone e) (refused_alone (refusal_alone issue e))

-- THE CALL'S RESULT IN NUMBERS. No two results have the same numbers.
abbrev pub in_numbers : Result Judgment Refusal → Alone
in_numbers (Ok judgment) = record { number = 0; place = 1; sets = judgment.sets; duties = judgment.duties }
in_numbers (Err refusal) = record { number = refusal_number refusal; place = 0; sets = seven_zeros; duties = seven_zeros }

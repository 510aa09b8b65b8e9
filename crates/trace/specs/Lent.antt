-- What is lent to the judge of a whole trace, and what it leaves (definition 3.3, 3.4).
use Rattle.std.specs.Prelude.{ℕ, ◌/◌, List, length, Result, Ok, Err}
use Rattle.kinds.specs.Places.{event_length}
use Rattle.kinds.specs.Refusals.{refusal_number}
use Rattle.trace.specs.declared.Refused.{Refused}

-- the six buffers as they are lent (definition 3.3)
pub record Lent : Type 0 where
  pub events : List ℕ
  pub pairs : List ℕ
  pub table : List ℕ
  pub verdicts : List ℕ
  pub duties : List ℕ
  pub afters : List ℕ

-- the six buffers, in the order of the call's arguments
abbrev pub lent : List ℕ → List ℕ → List ℕ → List ℕ → List ℕ → List ℕ → Lent
lent events pairs table verdicts duties afters =
    record { events = events; pairs = pairs; table = table; verdicts = verdicts; duties = duties; afters = afters }

-- the result in numbers: a refusal number, or 0, and its place (definition 4.1)
pub record Outcome : Type 0 where
  pub number : ℕ
  pub place : ℕ

-- the call's result in numbers, with the number of events as the place of an accepted trace; no two results have the same numbers
abbrev pub in_numbers : Result ℕ Refused → Outcome
in_numbers (Ok count) = record { number = 0; place = count }
in_numbers (Err refused) = record { number = refusal_number refused.refusal; place = refused.place }

-- the result, and the four buffers that the call may write, as they are left
pub record Left : Type 0 where
  pub outcome : Outcome
  pub table : List ℕ
  pub verdicts : List ℕ
  pub duties : List ℕ
  pub afters : List ℕ

-- the result, then the four buffers in the order of the call's arguments
abbrev pub left : Outcome → List ℕ → List ℕ → List ℕ → List ℕ → Left
left outcome table verdicts duties afters = record { outcome = outcome; table = table; verdicts = verdicts; duties = duties; afters = afters }

-- n, the number of events
abbrev pub count : Lent → ℕ
count l = length l.events / event_length

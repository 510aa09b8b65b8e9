-- The answer to one event alone, as the theorems name it (definition 3.1).
use Rattle.std.specs.Prelude.{ℕ, ◌≡◌, List, get_or}
use Rattle.event.specs.Refusals.{issue_e}
use Rattle.event.specs.Alone.{judged_alone}

-- the event is accepted: its refusal number is 0
abbrev pub AcceptedEvent : List ℕ → Type 0
AcceptedEvent e = (judged_alone issue_e e).number ≡ 0

-- the set of states after that the judge returns for the state before s
abbrev pub set_from : List ℕ → ℕ → ℕ
set_from e s = get_or (judged_alone issue_e e).sets s 0

-- the duty that the judge returns for the state before s
abbrev pub duty_from : List ℕ → ℕ → ℕ
duty_from e s = get_or (judged_alone issue_e e).duties s 0

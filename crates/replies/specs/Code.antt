-- What private functions compute. No public claim names this file.
use Rattle.std.specs.Prelude.{ℕ, ◌/◌, ◌%◌, List, [], ◌∷◌, ◌++◌}
use Rattle.verdicts.specs.Verdicts.{explained}
use Rattle.verdicts.specs.declared.Finding.{Finding}
use Rattle.text.specs.Text.{comma, eol}
use Rattle.replies.specs.Replies.{digit, verdict_text, duty_text, states_texts}

-- the two digits of a number below a hundred
abbrev pub two_digits : ℕ → List ℕ
two_digits n = digit (n / 10) ∷ digit (n % 10) ∷ []

-- a verdict's name between commas
abbrev pub verdict_part : ℕ → List ℕ
verdict_part v = comma ∷ verdict_text v ++ comma ∷ []

-- a duty's name and a comma
abbrev pub duty_part : ℕ → List ℕ
duty_part d = duty_text d ++ comma ∷ []

-- verdict and duty of an explained event
abbrev pub explained_text : ℕ → List ℕ
explained_text d = verdict_part explained ++ duty_part d

-- the states of a set and the end of the line
abbrev pub last_texts : ℕ → List (List ℕ)
last_texts m = states_texts m ++ eol ∷ []

-- the output line of an event behind its number
abbrev pub judged_texts : Finding → List (List ℕ)
judged_texts found = verdict_part found.verdict.0 ∷ duty_part found.duty.0 ∷ last_texts found.after

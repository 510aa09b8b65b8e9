-- The example's output, computed from the definitions byte for byte: header, four lines, and some lines more (definition 8.11).
-- Assumes nothing.
use mathlib.Core.Path.{◌≡◌, refl}
use mathlib.Core.List.{◌++◌}
use Prim.Native.Nat.{ℕ}
use Rattle.kinds.specs.Codes.{all_states}
use Rattle.sets.specs.Sets.{bit}
use Rattle.steps.specs.Steps.{no_duty, Home, Requester, lost, discarded}
use Rattle.verdicts.specs.Verdicts.{explained, unexplained, not_judged}
use Rattle.verdicts.specs.declared.Finding.{Finding}
use Rattle.text.specs.Text.{bytes, eol}
use Rattle.replies.specs.Replies.{decimal_text, verdict_text, duty_text, states_text, header_line, answer_line, refused_line}

-- a finding: verdict, duty and set after
abbrev pub found : ℕ → ℕ → ℕ → Finding
found verdict duty after = record { after = after; verdict = record { 0 = verdict }; duty = record { 0 = duty } }

-- the set {I, SC}
abbrev pub I_SC : ℕ
I_SC = 33

-- the output of the example: its header and its four lines
pub example :
    header_line
    ++ answer_line 0 (found explained Home I_SC)
    ++ answer_line 1 (found explained no_duty I_SC)
    ++ answer_line 2 (found unexplained no_duty 0)
    ++ answer_line 3 (found not_judged no_duty 0)
    ≡ bytes "event,verdict,duty,states" ++ eol
    ++ bytes "0,explained,Home,I SC" ++ eol
    ++ bytes "1,explained,none,I SC" ++ eol
    ++ bytes "2,unexplained,none," ++ eol
    ++ bytes "3,not judged,none," ++ eol
unfolding header_line answer_line decimal_text verdict_text duty_text states_text bit
example = refl

-- three late events: all seven states with the duty on the Requester, a line discarded, and a lost duty
pub all_states_lem :
    answer_line 999998 (found explained Requester all_states) ++ answer_line 999999 (found explained discarded 1) ++ answer_line 1000000 (found explained lost 1)
    ≡ bytes "999998,explained,Requester,I UC UCE UD UDP SC SD" ++ eol ++ bytes "999999,explained,discarded,I" ++ eol ++ bytes "1000000,explained,lost,I" ++ eol
unfolding answer_line decimal_text verdict_text duty_text states_text bit
all_states_lem = refl

-- a refusal of line 10
pub refused : refused_line 8 10 ≡ bytes "refused,8,10" ++ eol
unfolding refused_line decimal_text
refused = refl

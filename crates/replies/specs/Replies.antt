-- The output of the bench sheet: the header, a line for each event, and the line of a refusal (definition 8.6, 8.7).
use Rattle.std.specs.Prelude.{ℕ, zero, suc, ◌+◌, ◌/◌, ◌%◌, ◌^◌, cond, List, [], ◌∷◌, ◌++◌, eqb, ltb}
use Prim.Native.String.{String}
use Rattle.kinds.specs.Codes.{I, UC, UCE, UD, UDP, SC, SD}
use Rattle.sets.specs.Sets.{bit}
use Rattle.steps.specs.Steps.{no_duty, Home, Requester, lost, discarded}
use Rattle.verdicts.specs.Verdicts.{explained, unexplained, not_judged}
use Rattle.verdicts.specs.declared.Finding.{Finding}
use Rattle.text.specs.Text.{bytes, comma, eol}

-- stands between the names of two states
abbrev pub space : ℕ
space = 32

-- the byte of a digit
abbrev pub digit : ℕ → ℕ
digit d = 48 + d

-- a number in decimal, with at most f + 1 digits: one digit below ten, else the digits of the tens and then the last digit
abbrev pub decimal_text_in : ℕ → ℕ → List ℕ
decimal_text_in zero n = digit (n % 10) ∷ []
decimal_text_in (suc f) n = cond (ltb n 10) (digit n ∷ []) (decimal_text_in f (n / 10) ++ digit (n % 10) ∷ [])

-- a number in decimal, without leading zeros; twenty digits suffice for every 64-bit number
unfoldable pub decimal_text : ℕ → List ℕ
decimal_text n = decimal_text_in 19 n

-- a code and its word
pub record Word : Type 0 where
  pub code : ℕ
  pub text : List ℕ

-- a code with its word, written as text
abbrev pub word : ℕ → String → Word
word code text = record { code = code; text = bytes text }

-- the word for a code; `unknown` if it has none
abbrev pub word_for : List Word → ℕ → List ℕ
word_for [] code = bytes "unknown"
word_for (w ∷ ws) code = cond (eqb code w.code) w.text (word_for ws code)

-- the verdicts' names (definition 8.6)
abbrev pub verdict_names : List Word
verdict_names = word explained "explained" ∷ word unexplained "unexplained" ∷ word not_judged "not judged" ∷ []

-- the duties' names (definition 8.6)
abbrev pub duty_names : List Word
duty_names = word no_duty "none" ∷ word Home "Home" ∷ word Requester "Requester" ∷ word lost "lost" ∷ word discarded "discarded" ∷ []

-- a verdict's name
unfoldable pub verdict_text : ℕ → List ℕ
verdict_text v = word_for verdict_names v

-- a duty's name
unfoldable pub duty_text : ℕ → List ℕ
duty_text d = word_for duty_names d

-- the states' names, in the order of definition 2.1
abbrev pub state_names : List (List ℕ)
state_names = bytes "I" ∷ bytes "UC" ∷ bytes "UCE" ∷ bytes "UD" ∷ bytes "UDP" ∷ bytes "SC" ∷ bytes "SD" ∷ []

-- given the names from state n on, those whose states are in the set m
abbrev pub names_in : ℕ → ℕ → List (List ℕ) → List (List ℕ)
names_in m n [] = []
names_in m n (name ∷ names) = cond (bit m n) (name ∷ names_in m (suc n) names) (names_in m (suc n) names)

-- the names, with one space between them
abbrev pub spaced : List (List ℕ) → List ℕ
spaced [] = []
spaced (name ∷ []) = name
spaced (name ∷ next ∷ names) = name ++ space ∷ spaced (next ∷ names)

-- the names of the states of a set; nothing for the empty set (definition 8.6)
unfoldable pub states_text : ℕ → List ℕ
states_text m = spaced (names_in m I state_names)

-- every output line fits into this many bytes
abbrev pub room : ℕ
room = 64

-- the header of the output (definition 8.6)
unfoldable pub header_line : List ℕ
header_line = bytes "event,verdict,duty,states" ++ eol

-- the output line of event k (definition 8.6)
unfoldable pub answer_line : ℕ → Finding → List ℕ
answer_line k found =
    decimal_text k ++ comma ∷ verdict_text found.verdict.0 ++ comma ∷ duty_text found.duty.0 ++ comma ∷ states_text found.after ++ eol

-- the line that ends a refused run: the refusal number and the bad line (definition 8.7)
unfoldable pub refused_line : ℕ → ℕ → List ℕ
refused_line number line = bytes "refused" ++ comma ∷ decimal_text number ++ comma ∷ decimal_text line ++ eol

-- state n in the text of the set m: its name if it is in the set, after a space if a lower state is in the set too
abbrev pub state_text : ℕ → ℕ → List ℕ → List ℕ
state_text m n name = cond (bit m n) (cond (eqb (m % 2 ^ n) 0) name (space ∷ name)) []

-- the text of a set, in the parts in which it is written
unfoldable pub states_texts : ℕ → List (List ℕ)
states_texts m =
    state_text m I (bytes "I") ∷
    state_text m UC (bytes "UC") ∷
    state_text m UCE (bytes "UCE") ∷
    state_text m UD (bytes "UD") ∷
    state_text m UDP (bytes "UDP") ∷
    state_text m SC (bytes "SC") ∷
    state_text m SD (bytes "SD") ∷
    []

-- the output line of event k, in the parts in which it is written
unfoldable pub answer_texts : ℕ → Finding → List (List ℕ)
answer_texts k found =
    decimal_text k ∷
    (comma ∷ verdict_text found.verdict.0 ++ comma ∷ []) ∷
    (duty_text found.duty.0 ++ comma ∷ []) ∷
    (states_texts found.after ++ eol ∷ [])

-- the line of a refusal, in the parts in which it is written
unfoldable pub refusal_texts : ℕ → ℕ → List (List ℕ)
refusal_texts number line = bytes "refused," ∷ decimal_text number ∷ (comma ∷ []) ∷ decimal_text line ∷ eol ∷ []

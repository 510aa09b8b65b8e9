-- Every input has turns to the end, if the piece and the output buffer are large enough: each turn leaves less to do.
-- Assumes nothing.
use mathlib.Core.Path.{◌≡◌, refl, sym, ◌∙◌, ap, ap₂, subst}
use mathlib.Core.Bool.{Bool, true, false, cond, not, ◌&&◌, ◌||◌, or-false, not-not, false≢true}
use mathlib.Core.List.{List, [], ◌++◌, append-nil}
use Prim.Native.Nat.{ℕ, zero, suc, ◌+◌, ◌-◌, ◌≤◌, ◌<◌}
use native.Mathlib.Nat.{le_trans, pos_of_ne-zero}
use native.Mathlib.Omega.{arith}
use borrow.Author.Tests.{le-leb, lt-ltb, le-ltb, ltb-true, ltb-false, eqb-true, eqb-false}
use lib.Dec.{eqb, ltb}
use lib.ListN.{length, take, drop, take-append-drop, length-append, length-take, length-drop}
use Rattle.kinds.specs.Places.{most_pairs}
use Rattle.kinds.proofs.Lists.{and_left, and_right, and_both, or_right}
use Rattle.lines.specs.Seen.{too_long}
use Rattle.replies.specs.Replies.{room, header_line}
use Rattle.sheet.specs.Pieces.{Held, held, whole, sure, ready, eaten}
use Rattle.sheet.specs.Runs.{emptied, with_piece, start}
use Rattle.sheet.specs.Turns.{enough, wanted, is_over, answer_with, Begun, begun, in_front, ended_by, carried_of, turn_left_by, last, more, SomeTurns}
use Rattle.sheet.proofs.Bites.{nothing, size, eaten_less, eaten_not_more}
use Rattle.sheet.proofs.Turns.{in_front_lem, turn_eats, none_left, begun_start}

-- opposite tests
lt_not : (m n : ℕ) → ltb n (m + 1) ≡ not (ltb m n)
lt_not m n = go (ltb m n) refl
  where
    go : (b : Bool) → ltb m n ≡ b → ltb n (m + 1) ≡ not b
    go true e = le-ltb n (m + 1) (omega (arith, ltb-true m n e))
    go false e = lt-ltb n (m + 1) (omega (arith, ltb-false m n e))

some_not : (n : ℕ) → ltb 0 n ≡ not (eqb n 0)
some_not n = go (eqb n 0) refl
  where
    go : (b : Bool) → eqb n 0 ≡ b → ltb 0 n ≡ not b
    go true e = le-ltb 0 n (omega (arith, eqb-true n 0 e))
    go false e = lt-ltb 0 n (pos_of_ne-zero (eqb-false n 0 e))

none_not : (n : ℕ) → eqb n 0 ≡ not (ltb 0 n)
none_not n = sym (not-not (eqb n 0)) ∙ ap not (sym (some_not n))

not_yet : (b : Bool) → not b ≡ true → ◌≡◌ {A = ℕ} (cond b 0 1) 1
not_yet true e = absurd (false≢true e)
not_yet false e = refl

at_most_one : (b : Bool) → cond b 0 1 ≤ 1
at_most_one true = omega arith
at_most_one false = omega arith

-- if the run goes on, and the input has ended or enough is held, there is a line to take, or none was taken yet
has_line : (g e long none some_line w : Bool) → not g || (e && (none && some_line)) ≡ false → not e && not long ≡ false
    → g && (true && (w || (long || (e && (not none || not some_line))))) ≡ true
has_line false e long none some_line w o h = absurd (false≢true (sym o))
has_line true e long none some_line true o h = refl
has_line true e true none some_line false o h = refl
has_line true false false none some_line false o h = absurd (false≢true (sym h))
has_line true true false true true false o h = absurd (false≢true (sym o))
has_line true true false true false false o h = refl
has_line true true false false some_line false o h = refl

-- if the run is not over and no read is wanted, a line is ready
not_idle : (ended : Bool) (h : Held) (space : ℕ) → room ≤ space → is_over (carried_of ended h) ≡ false → wanted (carried_of ended h) ≡ false
    → ready ended space (emptied h) ≡ true
unfolding ready sure
not_idle ended h space roomy o w =
    ap₂ (λ (a b : Bool). h.going && (a && (whole h.rest || (ltb too_long (length h.rest) || (ended && (b || eqb h.lines 0))))))
    (le-leb (0 + room) space (omega (arith, roomy))) (some_not (length h.rest))
    ∙ ap (λ b. h.going && (true && (whole h.rest || (ltb too_long (length h.rest) || (ended && (not (eqb (length h.rest) 0) || b)))))) (none_not h.lines)
    ∙ has_line h.going ended (ltb too_long (length h.rest)) (eqb (length h.rest) 0) (ltb 0 h.lines) (whole h.rest) o
    (sym (ap (λ b. not ended && b) (lt_not too_long (length h.rest))) ∙ w)

-- what is left to do: a byte to come counts two, a held byte one, and an input that has not ended one
abbrev to_do : Bool → ℕ → ℕ → ℕ
to_do ended held n = n + n + held + cond ended 0 1

size_read : (h : Held) (s : List ℕ) → size (emptied (with_piece h s)) ≡ size h + length s
unfolding size
size_read h s = omega (arith, length-append h.rest s)

-- a turn leaves less to do: bytes arrive, the input is found to have ended, or a line is taken
module _ (ended : Bool) (h : Held) (space : ℕ) (arrived : List ℕ) (n : ℕ) (roomy : room ≤ space) (o : is_over (carried_of ended h) ≡ false)
    (none : wanted (carried_of ended h) ≡ false → arrived ≡ []) where
  now_ended : Bool
  now_ended = ended_by (carried_of ended h) (length arrived)

  before : Held
  before = emptied (with_piece h arrived)

  after : Held
  after = eaten now_ended space before

  not_more : size after ≤ size h + length arrived
  unfolding after before
  not_more = omega (arith, eaten_not_more now_ended space before, size_read h arrived)

  -- a read was wanted
  by_read : (z : Bool) → eqb (length arrived) 0 ≡ z → wanted (carried_of ended h) ≡ true → to_do now_ended (size after) n < to_do ended (size h) (length arrived + n)
  unfolding now_ended
  by_read true e w =
      let x : ◌≡◌ {A = ℕ} (cond now_ended 0 1) 0 = ap (λ b. cond b 0 1) (or_right ended _ (and_both w e)) in
      omega (arith, not_more, x, not_yet ended (and_left (not ended) _ w), eqb-true (length arrived) 0 e)
  by_read false e w =
      omega (arith, not_more, at_most_one now_ended, not_yet ended (and_left (not ended) _ w), pos_of_ne-zero (eqb-false (length arrived) 0 e))

  -- no read was wanted
  by_line : wanted (carried_of ended h) ≡ false → to_do now_ended (size after) n < to_do ended (size h) (length arrived + n)
  unfolding now_ended after before
  by_line w =
      let same : now_ended ≡ ended = ap (λ b. ended || (b && eqb (length arrived) 0)) w ∙ or-false ended in
      let x : ◌≡◌ {A = ℕ} (cond now_ended 0 1) (cond ended 0 1) = ap (λ b. cond b 0 1) same in
      let r : ready now_ended space before ≡ true =
      ap₂ (λ (b : Bool) (s : List ℕ). ready b space (held s h.lines h.table h.going)) same (ap (λ (s : List ℕ). h.rest ++ s) (none w) ∙ append-nil h.rest)
      ∙ not_idle ended h space roomy o w in
      omega (arith, eaten_less now_ended space before r, size_read h arrived, x, ap length (none w))

  pub less : (w : Bool) → wanted (carried_of ended h) ≡ w
      → let now = ended_by (carried_of ended h) (length arrived) in
      to_do now (size (eaten now space (emptied (with_piece h arrived)))) n < to_do ended (size h) (length arrived + n)
  unfolding now_ended after before
  less true w = by_read (eqb (length arrived) 0) refl w
  less false w = by_line w

-- what a read brings, if one is wanted: as much as the piece has room for
abbrev taken : Bool → ℕ → List ℕ → List ℕ
taken w n input = cond w (take n input) []

abbrev stays : Bool → ℕ → List ℕ → List ℕ
stays w n input = cond w (drop n input) input

parted : (w : Bool) (n : ℕ) (input : List ℕ) → taken w n input ++ stays w n input ≡ input
parted true n input = take-append-drop n input
parted false n input = refl

none_taken : (w : Bool) (n : ℕ) (input : List ℕ) → w ≡ false → taken w n input ≡ []
none_taken true n input e = absurd (false≢true (sym e))
none_taken false n input e = refl

-- if there is room for a byte, a read brings none only if none is to come
all_taken_lem : (w : Bool) (n : ℕ) (input : List ℕ) → (w ≡ true → 0 < n) → w ≡ true → taken w n input ≡ [] → stays w n input ≡ []
all_taken_lem true n input h e k =
    nothing (drop n input) (omega (arith, length-drop n input, length-take n input, ap length k, h refl))
all_taken_lem false n input h e k = absurd (false≢true e)

-- a buffer does not get shorter if bytes are put at its front
no_shorter : (s buffer : List ℕ) → length buffer ≤ length (in_front s buffer)
no_shorter s buffer = omega (arith, length-append s (drop (length s) buffer), length-drop (length s) buffer)

-- The next turn, if as much is read as the piece has room for: what arrives, what is still to come, the piece, and what the turn leaves.
module _ (ended : Bool) (h : Held) (piece out input : List ℕ) where
  abbrev w : Bool
  w = wanted (carried_of ended h)

  abbrev free : ℕ
  free = length piece - length h.rest

  abbrev arrived : List ℕ
  arrived = taken w free input

  abbrev to_come : List ℕ
  to_come = stays w free input

  abbrev filled : List ℕ
  filled = in_front (h.rest ++ arrived) piece

  abbrev now : Bool
  now = ended_by (carried_of ended h) (length arrived)

  abbrev h' : Held
  h' = eaten now (length out) (emptied (with_piece h arrived))

  abbrev Next : Type 0
  Next = SomeTurns (answer_with (carried_of now h') (length h'.text)) (in_front h'.rest filled) h'.table (in_front h'.text out) to_come

  stands : take (length h.rest + length arrived) filled ≡ h.rest ++ arrived
  stands = ap (λ m. take m filled) (sym (length-append h.rest arrived)) ∙ in_front_lem (h.rest ++ arrived) piece

  -- if a read is wanted, the piece has room for a byte
  has_place : enough ≤ length piece → wanted (carried_of ended h) ≡ true → 0 < length piece - length h.rest
  has_place long e = omega (arith, long, ltb-true (length h.rest) enough (and_right (not ended) _ e))

  none_come : (ended ≡ true → input ≡ []) → enough ≤ length piece → now ≡ true → to_come ≡ []
  none_come f long = none_left ended h arrived to_come (λ e. parted w free input ∙ f e) (all_taken_lem w free input (has_place long))

  fewer : room ≤ length out → is_over (carried_of ended h) ≡ false → to_do now (size h') (length to_come) < to_do ended (size h) (length input)
  fewer roomy o =
      subst (λ m. to_do now (size h') (length to_come) < to_do ended (size h) m) (sym (length-append arrived to_come) ∙ ap length (parted w free input))
      (less ended h (length out) arrived (length to_come) roomy o (none_taken w free input) w refl)

  stays_long : enough ≤ length piece → enough ≤ length (in_front h'.rest filled)
  stays_long long = le_trans (le_trans long (no_shorter (h.rest ++ arrived) piece)) (no_shorter h'.rest filled)

  stays_roomy : room ≤ length out → room ≤ length (in_front h'.text out)
  stays_roomy roomy = le_trans roomy (no_shorter h'.text out)

  step : (put : ℕ) → take (length h.rest) piece ≡ h.rest → enough ≤ length piece → is_over (carried_of ended h) ≡ false → Next
      → SomeTurns (answer_with (carried_of ended h) put) piece h.table out input
  step put front long o x =
      subst (λ (s : List ℕ). SomeTurns (answer_with (carried_of ended h) put) piece h.table out s) (parted w free input)
      (record {
        written = take put out ++ x.written;
        turns =
            more arrived filled (turn_left_by now filled out h') o (stands ∙ ap (λ (s : List ℕ). s ++ arrived) (sym front)) (none_taken w free input)
            (all_taken_lem w free input (has_place long)) (sym (turn_eats ended h arrived filled out stands)) x.turns;
      })

-- turns to the end, for a run with at most n left to do
turns_on : (n : ℕ) (ended : Bool) (h : Held) (put : ℕ) (piece out input : List ℕ) → take (length h.rest) piece ≡ h.rest → enough ≤ length piece
    → room ≤ length out → (ended ≡ true → input ≡ []) → to_do ended (size h) (length input) ≤ n → (b : Bool) → is_over (carried_of ended h) ≡ b
    → SomeTurns (answer_with (carried_of ended h) put) piece h.table out input
turns_on zero ended h put piece out input front long roomy f few true o = record { written = take put out; turns = last o }
turns_on zero ended h put piece out input front long roomy f few false o = absurd (omega (arith, few, fewer ended h piece out input roomy o))
turns_on (suc n) ended h put piece out input front long roomy f few true o = record { written = take put out; turns = last o }
turns_on (suc n) ended h put piece out input front long roomy f few false o =
    step ended h piece out input put front long o
    (turns_on n (now ended h piece out input) (h' ended h piece out input) (length (h' ended h piece out input).text)
    (in_front (h' ended h piece out input).rest (filled ended h piece out input)) (in_front (h' ended h piece out input).text out) (to_come ended h piece out input)
    (in_front_lem (h' ended h piece out input).rest (filled ended h piece out input))
    (stays_long ended h piece out input long) (stays_roomy ended h piece out input roomy)
    (none_come ended h piece out input f long)
    (omega (arith, few, fewer ended h piece out input roomy o)) (is_over (carried_of (now ended h piece out input) (h' ended h piece out input))) refl)

-- EVERY INPUT HAS TURNS TO THE END, if the piece and the output buffer are large enough.
pub turns_exist : (piece table out input : List ℕ) → length table ≡ most_pairs → room ≤ length out → enough ≤ length piece
    → SomeTurns (begun table out).answer piece (begun table out).table (begun table out).out input
turns_exist piece table out input t roomy long =
    subst (λ (b : Begun). SomeTurns b.answer piece b.table b.out input) (sym (begun_start table out t roomy))
    (turns_on (to_do false (size start) (length input)) false start (length header_line) piece (in_front header_line out) input refl long
    (le_trans roomy (no_shorter header_line out)) (λ e. absurd (false≢true e)) (omega arith) (is_over (carried_of false start)) refl)

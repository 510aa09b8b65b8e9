-- The turns of the program are a run, so the program writes the sheet's output, for any input and however it is cut (definition 8.9).
-- Assumes nothing.
use mathlib.Core.Path.{◌≡◌, refl, sym, ◌∙◌, ap, ap₂, subst}
use mathlib.Core.Bool.{Bool, true, false, not, ◌&&◌, ◌||◌, false≢true}
use mathlib.Core.List.{List, [], ◌++◌, append-nil}
use Prim.Native.Nat.{ℕ, ◌+◌, ◌≤◌}
use native.Mathlib.Nat.{le_of_eq}
use native.Mathlib.Omega.{arith}
use borrow.Author.Tests.{eqb-true, ltb-true}
use lib.Dec.{eqb, leb, ltb}
use lib.ListN.{length, take, drop, replicate, length-append}
use lib.Seq.{take_at}
use Rattle.kinds.specs.Codes.{all_states}
use Rattle.kinds.specs.Places.{most_pairs}
use Rattle.kinds.proofs.Lists.{and_left, and_right}
use Rattle.replies.specs.Laid.{Laid}
use Rattle.replies.specs.Replies.{room, header_line}
use Rattle.replies.proofs.Laws.{header_laid}
use Rattle.sheet.specs.declared.Carried.{Carried}
use Rattle.sheet.specs.declared.Turned.{Turned}
use Rattle.sheet.specs.Sheet.{start_table, sheet_out}
use Rattle.sheet.specs.Pieces.{Held, held, sure, ready, eaten}
use Rattle.sheet.specs.Runs.{emptied, with_piece, Run, reads, eats, ends, refused, done, start}
use Rattle.sheet.specs.Turns.{wanted, is_over, answer_with, Begun, begun_with, begun, TurnLeft, in_front, ended_by, carried_of, turn_left_by, turned, Turns, last, more}
use Rattle.sheet.proofs.Bites.{nothing, eaten_stops}
use Rattle.sheet.proofs.Runs.{run_is_sheet}

-- bytes put at the front of a buffer stand there
pub in_front_lem : (s buffer : List ℕ) → take (length s) (in_front s buffer) ≡ s
in_front_lem s buffer = take_at s (drop (length s) buffer) (length s) refl

-- ONE TURN: the bytes that arrived are read, and everything held is eaten into the buffer.
pub turn_eats : (ended : Bool) (h : Held) (arrived piece out : List ℕ) → take (length h.rest + length arrived) piece ≡ h.rest ++ arrived
    → let now_ended = ended_by (carried_of ended h) (length arrived) in
    turned (carried_of ended h) (length arrived) piece h.table out ≡ turn_left_by now_ended piece out (eaten now_ended (length out) (emptied (with_piece h arrived)))
unfolding turned
turn_eats ended h arrived piece out e =
    let now_ended = ended_by (carried_of ended h) (length arrived) in
    ap (λ (s : List ℕ). turn_left_by now_ended piece out (eaten now_ended (length out) (held s h.lines h.table h.going))) e

-- ONE TURN IS ONE STEP OF A RUN: a run continues from what the turn leaves.
pub turn_runs : {h : Held} {input out : List ℕ} (ended : Bool) (space : ℕ) (arrived : List ℕ) → (ended ≡ true → input ≡ [])
    → Run (eaten ended space (emptied (with_piece h arrived))) input out
    → Run h (arrived ++ input) ((eaten ended space (emptied (with_piece h arrived))).text ++ out)
turn_runs {h} {input} {out} ended space arrived f r = reads arrived (go ended f r)
  where
    go : (b : Bool) → (b ≡ true → input ≡ []) → Run (eaten b space (emptied (with_piece h arrived))) input out
        → Run (with_piece h arrived) input ((eaten b space (emptied (with_piece h arrived))).text ++ out)
    go false g x = eats space x
    go true g x =
        subst (λ (s : List ℕ). Run (with_piece h arrived) s ((eaten true space (emptied (with_piece h arrived))).text ++ out)) (sym (g refl))
        (ends space (subst (λ (s : List ℕ). Run (eaten true space (emptied (with_piece h arrived))) s out) (g refl) x))

-- A TURN GOES AS FAR AS IT CAN: then a refusal has ended the run, the buffer has no room for a line, or too little of the next is known.
pub turn_stops : (c : Carried) (got : ℕ) (piece table out : List ℕ)
    → let r = turned c got piece table out in
    let next = r.answer.carried in
    next.going && (leb (r.answer.put + room) (length out) && sure next.ended next.lines (take next.held r.piece)) ≡ false
unfolding turned ready
turn_stops c got piece table out =
    let h = eaten (ended_by c got) (length out) (held (take (c.held + got) piece) c.lines table c.going) in
    ap (λ (s : List ℕ). h.going && (leb (length h.text + room) (length out) && sure (ended_by c got) h.lines s)) (in_front_lem h.rest piece)
    ∙ eaten_stops (ended_by c got) (length out) (held (take (c.held + got) piece) c.lines table c.going)

-- if the run is over, nothing is still to come
over_runs : (ended : Bool) (h : Held) (input : List ℕ) → (ended ≡ true → input ≡ []) → is_over (carried_of ended h) ≡ true → Run h input []
over_runs ended h input f e = go h.going refl e
  where
    go : (b : Bool) → h.going ≡ b → not b || (ended && (eqb (length h.rest) 0 && ltb 0 h.lines)) ≡ true → Run h input []
    go false g k = refused g
    go true g k =
        let none = and_right ended _ k in
        subst (λ (s : List ℕ). Run h s []) (sym (f (and_left ended _ k)))
        (done (nothing h.rest (le_of_eq (eqb-true (length h.rest) 0 (and_left _ (ltb 0 h.lines) none))))
        (ltb-true 0 h.lines (and_right (eqb (length h.rest) 0) _ none)))

-- if a turn finds the end of the input, no input is left
pub none_left : (ended : Bool) (h : Held) (arrived input : List ℕ) → (ended ≡ true → arrived ++ input ≡ [])
    → (wanted (carried_of ended h) ≡ true → arrived ≡ [] → input ≡ []) → ended_by (carried_of ended h) (length arrived) ≡ true → input ≡ []
none_left ended h arrived input f g e = go ended refl e
  where
    go : (b : Bool) → ended ≡ b → b || (wanted (carried_of ended h) && eqb (length arrived) 0) ≡ true → input ≡ []
    go true p k = nothing input (omega (arith, length-append arrived input, ap length (f p)))
    go false p k =
        g (and_left _ (eqb (length arrived) 0) k)
        (nothing arrived (le_of_eq (eqb-true (length arrived) 0 (and_right (wanted (carried_of ended h)) _ k))))

-- what the last call wrote, and then what a run writes
record Then (put : List ℕ) (h : Held) (input written : List ℕ) : Type 0 where
  out : List ℕ
  so : written ≡ put ++ out
  run : Run h input out

-- one more turn
one_more : {input written text : List ℕ} (put : List ℕ) (h : Held) (ended : Bool) (space : ℕ) (arrived : List ℕ) → (ended ≡ true → input ≡ [])
    → text ≡ (eaten ended space (emptied (with_piece h arrived))).text → Then text (eaten ended space (emptied (with_piece h arrived))) input written
    → Then put h (arrived ++ input) (put ++ written)
one_more put h ended space arrived f e x = record {
  out = (eaten ended space (emptied (with_piece h arrived))).text ++ x.out;
  so = ap (λ (s : List ℕ). put ++ s) (x.so ∙ ap (λ (s : List ℕ). s ++ x.out) e);
  run = turn_runs ended space arrived f x.run;
}

turns_run : {a : Turned} {piece table out input written : List ℕ} → Turns a piece table out input written → (ended : Bool) (h : Held) (put : ℕ)
    → a ≡ answer_with (carried_of ended h) put → take (length h.rest) piece ≡ h.rest → table ≡ h.table → (ended ≡ true → input ≡ [])
    → Then (take a.put out) h input written
turns_run (last {a = a} {out = out} {input = input} q) ended h put e front t f = record {
  out = [];
  so = sym (append-nil (take a.put out));
  run = over_runs ended h input f (sym (ap (λ (x : Turned). x.over) e) ∙ q);
}
turns_run (more {a = a} {piece = piece} {table = table} {out = out} {input = input} {written = written} arrived piece' r not-over stands unwanted at-end is-r others) ended h put e front t f =
    let now_ended : Bool = ended_by (carried_of ended h) (length arrived) in
    let h' : Held = eaten now_ended (length out) (emptied (with_piece h arrived)) in
    let is_c : a.carried ≡ carried_of ended h = ap (λ (x : Turned). x.carried) e in
    let stands' : take (length h.rest + length arrived) piece' ≡ h.rest ++ arrived =
    ap (λ (k : Carried). take (k.held + length arrived) piece') (sym is_c) ∙ stands
    ∙ ap (λ (k : Carried). take k.held piece ++ arrived) is_c ∙ ap (λ (s : List ℕ). s ++ arrived) front in
    let is-left : r ≡ turn_left_by now_ended piece' out h' =
    is-r ∙ ap₂ (λ (k : Carried) (s : List ℕ). turned k (length arrived) piece' s out) is_c t ∙ turn_eats ended h arrived piece' out stands' in
    let no-input : now_ended ≡ true → input ≡ [] = none_left ended h arrived input f (λ w. at-end (ap (λ (x : Turned). x.wants) e ∙ w)) in
    one_more (take a.put out) h now_ended (length out) arrived no-input
    (ap (λ (x : TurnLeft). take x.answer.put x.out) is-left ∙ in_front_lem h'.text out)
    (turns_run others now_ended h' (length h'.text) (ap (λ (x : TurnLeft). x.answer) is-left)
    (ap (λ (x : TurnLeft). take (length h'.rest) x.piece) is-left ∙ in_front_lem h'.rest piece') (ap (λ (x : TurnLeft). x.table) is-left) no-input)

-- with room for a line and 65,536 pairs in the table, the program begins with the output's header and the start of a run
pub begun_start : (table out : List ℕ) → length table ≡ most_pairs → room ≤ length out
    → begun table out ≡ begun_with (answer_with (carried_of false start) (length header_line)) start_table (in_front header_line out)
unfolding begun start_table header_line
begun_start table out long roomy =
    ap₂ (λ (n : ℕ) (l : Laid). begun_with (answer_with (carried_of false start) l.at) (replicate n all_states) l.out) long (header_laid 0 out (omega (arith, roomy)))

-- THE PROGRAM WRITES THE SHEET (definition 8): after `begin`, turns to the end write the whole output, however the input arrives.
pub turns_write : (piece table out : List ℕ) {input written : List ℕ} → length table ≡ most_pairs → room ≤ length out
    → Turns (begun table out).answer piece (begun table out).table (begun table out).out input written → written ≡ sheet_out input
turns_write piece table out {input} {written} long roomy t =
    x.so ∙ ap (λ (s : List ℕ). s ++ x.out) is_header ∙ run_is_sheet x.run
  where
    b : begun table out ≡ begun_with (answer_with (carried_of false start) (length header_line)) start_table (in_front header_line out)
    b = begun_start table out long roomy

    x : Then (take (begun table out).answer.put (begun table out).out) start input written
    x = turns_run t false start (length header_line) (ap (λ (y : Begun). y.answer) b) refl (ap (λ (y : Begun). y.table) b) (λ e. absurd (false≢true e))

    is_header : take (begun table out).answer.put (begun table out).out ≡ header_line
    is_header = ap (λ (y : Begun). take y.answer.put y.out) b ∙ in_front_lem header_line out

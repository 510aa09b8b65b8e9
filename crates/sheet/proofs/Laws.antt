-- Laws about a piece that is judged line by line.
-- Assumes nothing.
use mathlib.Core.Path.{◌≡◌, refl, sym, ◌∙◌, ap, ap₂, subst}
use mathlib.Core.Bool.{Bool, true, false, cond, ◌&&◌, ◌||◌, false≢true, or_assoc, or-false}
use mathlib.Core.List.{List, [], ◌∷◌, ◌++◌, append-nil}
use Prim.Native.Nat.{ℕ, ◌+◌, ◌-◌, ◌≤◌, ◌<◌, ◌^◌, min}
use native.Mathlib.Nat.{add-zero, zero-add, add_assoc, le_of_eq, add-sub_cancel_left}
use native.Mathlib.Omega.{arith}
use borrow.Author.Tests.{ltb-true, leb-true, leb-false, le-leb, lt-ltb, le-ltb, ltb-false, eq-eqb, ne_eqb, eqb-true}
use lib.Dec.{eqb, leb, ltb}
use lib.ListN.{length, set, take, drop, replicate, length-append, length-take, length-drop, length-set, take-append-drop, drop_of_length-le}
use lib.Seq.{drop-drop, drop_at, take_at, take-add, take_all, take-length, paste}
use lib.Pointwise.{pointwise}
use Rattle.kinds.specs.Tests.{same}
use Rattle.kinds.proofs.Refusals.{not_accepted}
use Rattle.kinds.specs.Codes.{all_states}
use Rattle.kinds.proofs.Lists.{and_both}
use Rattle.kinds.specs.Places.{set_in}
use Rattle.verdicts.specs.Verdicts.{finding}
use Rattle.verdicts.specs.declared.Finding.{Finding}
use Rattle.trace.specs.Events.{moved}
use Rattle.kinds.specs.declared.Refusal.{Refusal}
use Rattle.kinds.specs.Refusals.{refusal_number}
use Rattle.parser.specs.Parsed.{Parsed, parsed_as, refused_parse, parsed}
use Rattle.first_line.specs.First.{First, first_line, first_in_numbers}
use Rattle.first_line.specs.declared.FirstLine.{FirstLine}
use Rattle.replies.specs.Laid.{Laid, laid, lay, lay_all}
use Rattle.replies.specs.Replies.{room, header_line, answer_line, answer_texts, refused_line, refusal_texts}
use Rattle.replies.proofs.Laws.{length_in, answer_short, answer_laid, refusal_short, refusal_laid, header_laid, length_lay}
use Rattle.lines.specs.Lines.{crlf}
use Rattle.lines.specs.Seen.{too_long, reach}
use Rattle.lines.proofs.Parting.{reach_within, reach_all}
use Rattle.sheet.specs.declared.Eaten.{Eaten}
use Rattle.sheet.specs.declared.Next.{Next}
use Rattle.sheet.specs.declared.Carried.{Carried}
use Rattle.sheet.specs.declared.Turned.{Turned}
use Rattle.sheet.specs.Sheet.{Told, told, refuse, header, longest, most_lines, on_header, on_parsed, on_line}
use Rattle.sheet.specs.Pieces.{Held, held, next_line, taken, whole, sure, ready, bite, eaten}
use Rattle.sheet.specs.Turns.{wanted, answer_with, ended_by, nothing_yet, Begun, begun_with, begun, in_front, carried_of, turn_left, turn_left_by, turned}
use Rattle.sheet.specs.Turns as turns
use Rattle.sheet.specs.Code.{SaidBy, Writes, GoesOn, Refuses, Roomy, IsNext, EatLeft, eat_left, eat_left_of, ate}
use Rattle.sheet.proofs.Bites.{is_ready, size, eaten_bite, eaten_stuck, bite_ready, bite_less, taken_within, Rest, rest_short, eaten_rest, taken_off}

-- a run in the middle of a piece: `taken` bytes are taken, and `put` bytes are put into the output buffer
abbrev now_held : List ℕ → ℕ → ℕ → ℕ → Bool → List ℕ → List ℕ → Held
now_held piece taken put lines going table out = record { rest = drop taken piece; lines = lines; table = table; text = take put out; going = going }

-- what is still to be eaten is all that was to be eaten
pub record Eating (ended : Bool) (piece out₀ : List ℕ) (h₀ : Held) (table out : List ℕ) (taken put lines : ℕ) (going : Bool) : Type 0 where
  pub so : eaten ended (length out₀) h₀ ≡ eaten ended (length out₀) (now_held piece taken put lines going table out)
  pub inside : taken ≤ length piece
  pub fits : put ≤ length out
  pub long : length out ≡ length out₀
  pub tail : drop put out ≡ drop put out₀
  pub table_long : length table ≡ length h₀.table

length_front : (n : ℕ) (s : List ℕ) → n ≤ length s → length (take n s) ≡ n
length_front n s h = length-take n s ∙ omega (arith, h)

-- the run is not ready if it does not go on, if there is no room for a line, or if too little is known of the next line
pub ended_run : (ended : Bool) (space : ℕ) (h : Held) → h.going ≡ false → ready ended space h ≡ false
unfolding ready
ended_run ended space h e = ap (λ (b : Bool). b && (leb (length h.text + room) space && sure ended h.lines h.rest)) e

pub no_room : {ended : Bool} {piece out₀ : List ℕ} {h₀ : Held} {table out : List ℕ} {taken put lines : ℕ} {going : Bool}
    → Eating ended piece out₀ h₀ table out taken put lines going → length out - put < room
    → ready ended (length out₀) (now_held piece taken put lines going table out) ≡ false
no_room {ended} {piece} {out₀} {h₀} {table} {out} {taken} {put} {lines} {going} e f = go _ refl
  where
    go : (b : Bool) → ready ended (length out₀) (now_held piece taken put lines going table out) ≡ b → b ≡ false
    go true r = absurd (omega (arith, leb-true _ _ (is_ready ended (length out₀) (now_held piece taken put lines going table out) r).has_room, length_front put out e.fits, e.long))
    go false r = refl

pub unsure : (ended : Bool) (space : ℕ) (h : Held) → sure ended h.lines h.rest ≡ false → ready ended space h ≡ false
unsure ended space h e = go (ready ended space h) refl
  where
    go : (b : Bool) → ready ended space h ≡ b → b ≡ false
    go true f = sym (is_ready ended space h f).is_sure ∙ e
    go false f = refl

-- the run is ready if the loop's tests hold and enough is known of the next line
pub sure_next : {ended : Bool} {piece out₀ : List ℕ} {h₀ : Held} {table out : List ℕ} {taken put lines : ℕ} {going : Bool} {next : Next}
    → Eating ended piece out₀ h₀ table out taken put lines going → going ≡ true → room ≤ length out - put → IsNext ended lines piece taken next
    → ready ended (length out₀) (now_held piece taken put lines going table out) ≡ true
unfolding ready
sure_next {out = out} {put = put} e g r n = and_both g (and_both (le-leb _ _ (omega (arith, r, length_front put out e.fits, e.long))) n.sure_so)

-- behind line 1, nothing is no line
pub nothing_left : {ended : Bool} {piece out₀ : List ℕ} {h₀ : Held} {table out : List ℕ} {taken put lines : ℕ} {going : Bool}
    → Eating ended piece out₀ h₀ table out taken put lines going → taken ≡ length piece → 0 < lines
    → ready ended (length out₀) (now_held piece taken put lines going table out) ≡ false
unfolding sure whole
nothing_left {ended} {piece} {lines = lines} e all h =
    unsure _ _ _ (ap (sure ended lines) (drop_of_length-le piece (le_of_eq (sym all))) ∙ ended_or_not ended)
  where
    ended_or_not : (b : Bool) → sure b lines [] ≡ false
    ended_or_not true = ne_eqb lines 0 (λ z. omega (arith, z, h))
    ended_or_not false = refl

-- the loop stops if the run is not ready
pub eating_stop : {ended : Bool} {piece out₀ : List ℕ} {h₀ : Held} {table out : List ℕ} {taken put lines : ℕ} {going : Bool}
    → Eating ended piece out₀ h₀ table out taken put lines going
    → ready ended (length out₀) (now_held piece taken put lines going table out) ≡ false
    → eat_left (record { taken = taken; put = put; lines = lines; going = going }) table out ≡ eat_left_of piece out₀ (eaten ended (length out₀) h₀)
eating_stop {ended} {piece} {out₀} {h₀} {table} {out} {taken} {put} {lines} {going} e f =
    sym (ap (eat_left_of piece out₀) (e.so ∙ eaten_stuck ended (length out₀) (now_held piece taken put lines going table out) f) ∙ here)
  where
    here : eat_left_of piece out₀ (now_held piece taken put lines going table out) ≡ eat_left (record { taken = taken; put = put; lines = lines; going = going }) table out
    here =
        ap₂ (λ (m : ℕ) (s : List ℕ). eat_left (record { taken = m; put = length (take put out); lines = lines; going = going }) table s)
        (ap (λ n. length piece - n) (length-drop taken piece) ∙ omega (arith, e.inside))
        (ap (λ n. take put out ++ drop n out₀) (length_front put out e.fits) ∙ ap (λ (s : List ℕ). take put out ++ s) (sym e.tail) ∙ take-append-drop put out)
        ∙ ap (λ n. eat_left (record { taken = taken; put = n; lines = lines; going = going }) table out) (length_front put out e.fits)

-- the bytes behind a written text are as they were
put_tail : (at : ℕ) (out s : List ℕ) → at ≤ length out → drop (at + length s) (take at out ++ s ++ drop (at + length s) out) ≡ drop (at + length s) out
put_tail at out s h =
    drop_at (take at out ++ s) (drop (at + length s) out) (at + length s) (length-append (take at out) s ∙ ap (λ n. n + length s) (length_front at out h))

-- the bytes before a written text are as they were, and then comes the text
put_front : (at : ℕ) (out s : List ℕ) → at ≤ length out → take (at + length s) (take at out ++ s ++ drop (at + length s) out) ≡ take at out ++ s
put_front at out s h =
    take_at (take at out ++ s) (drop (at + length s) out) (at + length s) (length-append (take at out) s ∙ ap (λ n. n + length s) (length_front at out h))

held_same : {rest rest' table table' text text' : List ℕ} {lines lines' : ℕ} {going going' : Bool}
    → rest ≡ rest' → lines ≡ lines' → table ≡ table' → text ≡ text' → going ≡ going'
    → ◌≡◌ {A = Held} (record { rest = rest; lines = lines; table = table; text = text; going = going })
    (record { rest = rest'; lines = lines'; table = table'; text = text'; going = going' })
held_same {rest} {rest'} {table} {table'} {text} {text'} {lines} {lines'} {going} {going'} a b c d e =
    ap (λ (x : List ℕ). record { rest = x; lines = lines; table = table; text = text; going = going }) a
    ∙ ap (λ (x : ℕ). record { rest = rest'; lines = x; table = table; text = text; going = going }) b
    ∙ ap (λ (x : List ℕ). record { rest = rest'; lines = lines'; table = x; text = text; going = going }) c
    ∙ ap (λ (x : List ℕ). record { rest = rest'; lines = lines'; table = table'; text = x; going = going }) d
    ∙ ap (λ (x : Bool). record { rest = rest'; lines = lines'; table = table'; text = text'; going = x }) e

-- the event of a parsed line, judged
abbrev parsed_told : ℕ → List ℕ → Parsed → Told
parsed_told k table e = told (answer_line (k - 1) (finding e.event (set_in table e.pair))) (moved table (record { pair = e.pair; bytes = e.event })) true

-- judging a line keeps the table's length
table_kept : (k : ℕ) (table line : List ℕ) → length (on_line k table line).table ≡ length table
unfolding on_line
table_kept k table line = go (eqb k 0) (ltb most_lines (k + 1)) (ltb longest (length line))
  where
    on_header_lem : (b : Bool) → length (cond b (told [] table true) (refuse 6 0 table)).table ≡ length table
    on_header_lem true = refl
    on_header_lem false = refl

    on_parsed_lem : (e : Parsed) (b : Bool) → length (cond b (parsed_told k table e) (refuse e.number k table)).table ≡ length table
    on_parsed_lem e true = length-set table e.pair _
    on_parsed_lem e false = refl

    go : (a b c : Bool)
        → length (cond a (on_header table line) (cond b (refuse 7 k table) (cond c (refuse 7 k table) (on_parsed k table (parsed line))))).table ≡ length table
    go true b c = on_header_lem (same line header)
    go false true c = refl
    go false false true = refl
    go false false false = on_parsed_lem (parsed line) (eqb (parsed line).number 0)

-- one more line: what it does is written, and the run goes on or ends
pub record OneMore (ended : Bool) (piece out₀ table out : List ℕ) (taken₀ put lines : ℕ) (going : Bool) (next : Next) (put' : ℕ) (table' out' : List ℕ) (lines' : ℕ) (going' : Bool) : Type 0 where
  pub is_ready : ready ended (length out₀) (now_held piece taken₀ put lines going table out) ≡ true
  pub is_next : IsNext ended lines piece taken₀ next
  pub goes_so : (on_line lines table (take (next.end - taken₀) (drop taken₀ piece))).goes ≡ going'
  pub writes_so : Writes (on_line lines table (take (next.end - taken₀) (drop taken₀ piece))).text out put put' out'
  pub table_so : table' ≡ (on_line lines table (take (next.end - taken₀) (drop taken₀ piece))).table
  pub counted : lines' ≡ cond going' (lines + 1) lines

module _ {ended : Bool} {piece out₀ : List ℕ} {h₀ : Held} {table out : List ℕ} {taken₀ put lines : ℕ} {going : Bool} {next : Next} {put' : ℕ} {table' out' : List ℕ} {lines' : ℕ} {going' : Bool}
    (e : Eating ended piece out₀ h₀ table out taken₀ put lines going) (o : OneMore ended piece out₀ table out taken₀ put lines going next put' table' out' lines' going') where
  abbrev t : Told
  t = on_line lines table (next_line (drop taken₀ piece))

  line : on_line lines table (take (next.end - taken₀) (drop taken₀ piece)) ≡ t
  line = ap (λ n. on_line lines table (take n (drop taken₀ piece))) (ap (λ n. n - taken₀) o.is_next.end_so ∙ add-sub_cancel_left taken₀ (reach too_long (drop taken₀ piece)))

  b : Writes t.text out put put' out'
  b = subst (λ (x : Told). Writes x.text out put put' out') line o.writes_so

  goes : t.goes ≡ going'
  goes = sym (ap (λ (x : Told). x.goes) line) ∙ o.goes_so

  table_is : table' ≡ t.table
  table_is = o.table_so ∙ ap (λ (x : Told). x.table) line

  long' : length out' ≡ length out
  long' = ap length b.out_so ∙ length_in put out t.text b.fits_so

  further : drop (put + length t.text) out ≡ drop (put + length t.text) out₀
  further = sym (drop-drop (length t.text) put out) ∙ ap (drop (length t.text)) e.tail ∙ drop-drop (length t.text) put out₀

  bitten : bite ended (length out₀) (now_held piece taken₀ put lines going table out) ≡ now_held piece next.start put' lines' going' table' out'
  bitten =
      bite_ready ended (length out₀) (now_held piece taken₀ put lines going table out) o.is_ready
      ∙ held_same (drop-drop (taken (drop taken₀ piece)) taken₀ piece ∙ ap (λ n. drop n piece) (sym o.is_next.start_so))
      (ap (λ c. cond c (lines + 1) lines) goes ∙ sym o.counted)
      (sym table_is)
      (sym (ap₂ take b.at_so b.out_so ∙ put_front put out t.text e.fits))
      goes

  -- one more line
  pub eating_next : Eating ended piece out₀ h₀ table' out' next.start put' lines' going'
  eating_next = record {
    so = e.so ∙ eaten_bite ended (length out₀) (now_held piece taken₀ put lines going table out) ∙ ap (eaten ended (length out₀)) bitten;
    inside = subst (λ n. n ≤ length piece) (sym o.is_next.start_so)
        (omega (arith, e.inside, subst (λ n. taken (drop taken₀ piece) ≤ n) (length-drop taken₀ piece) (taken_within (drop taken₀ piece))));
    fits = subst (λ n. n ≤ length out') (sym b.at_so) (subst (λ n. put + length t.text ≤ n) (sym long') b.fits_so);
    long = long' ∙ e.long;
    tail = ap₂ drop b.at_so b.out_so ∙ put_tail put out t.text e.fits ∙ further ∙ ap (λ n. drop n out₀) (sym b.at_so);
    table_long = ap length table_is ∙ table_kept lines table (next_line (drop taken₀ piece)) ∙ e.table_long;
  }

  -- one more line leaves less to do
  pub eating_less : length piece - next.start + cond going' 1 0 < length piece - taken₀ + cond going 1 0
  unfolding size
  eating_less =
      subst (λ n. n + cond going' 1 0 < length piece - taken₀ + cond going 1 0) (length-drop next.start piece)
      (subst (λ n. length (drop next.start piece) + cond going' 1 0 < n + cond going 1 0) (length-drop taken₀ piece)
      (subst (λ x. size x < size (now_held piece taken₀ put lines going table out)) bitten
      (bite_less ended (length out₀) (now_held piece taken₀ put lines going table out) o.is_ready)))

-- a line that goes on
pub answered_more : {ended : Bool} {piece out₀ table out : List ℕ} {taken₀ put lines : ℕ} {going : Bool} {next : Next} {put' : ℕ} {table' out' : List ℕ}
    → ready ended (length out₀) (now_held piece taken₀ put lines going table out) ≡ true → IsNext ended lines piece taken₀ next
    → GoesOn (on_line lines table (take (next.end - taken₀) (drop taken₀ piece))) out put put' out' table'
    → OneMore ended piece out₀ table out taken₀ put lines going next put' table' out' (lines + 1) true
answered_more r n g = record { is_ready = r; is_next = n; goes_so = g.goes_so; writes_so = g.writes_so; table_so = g.table_so; counted = refl }

-- a line that is refused
pub refused_more : {ended : Bool} {piece out₀ table out : List ℕ} {taken₀ put lines : ℕ} {going : Bool} {next : Next} {number put' lines' : ℕ} {table' out' out'' : List ℕ}
    → ready ended (length out₀) (now_held piece taken₀ put lines going table out) ≡ true → IsNext ended lines piece taken₀ next
    → Refuses number lines (on_line lines table (take (next.end - taken₀) (drop taken₀ piece))) out table out' table'
    → Writes (refused_line number (lines + 1)) out' put put' out'' → lines' ≡ lines
    → OneMore ended piece out₀ table out taken₀ put lines going next put' table' out'' lines' false
refused_more {out = out} {put = put} {lines = lines} {number = number} {put' = put'} {out'' = out''} r n x w k = record {
  is_ready = r;
  is_next = n;
  goes_so = ap (λ (t : Told). t.goes) x.told_so;
  writes_so =
      subst (λ (t : Told). Writes t.text out put put' out'') (sym x.told_so)
      (subst (λ (o : List ℕ). Writes (refused_line number (lines + 1)) o put put' out'') x.out_so w);
  table_so = x.table_so ∙ sym (ap (λ (t : Told). t.table) x.told_so);
  counted = k;
}

-- whether enough is known of the line that starts at an offset, from what is the first line of the rest
pub sure_seen : (ended : Bool) (lines : ℕ) (piece : List ℕ) (start : ℕ) (first : FirstLine) → first_in_numbers first ≡ first_line (ltb 0 lines) ended (drop start piece)
    → (first.whole || ltb too_long (length piece - start)) || (ended && (ltb 0 (length piece - start) || eqb lines 0)) ≡ sure ended lines (drop start piece)
unfolding first_line sure whole
sure_seen ended lines piece start first e =
    or_assoc first.whole (ltb too_long (length piece - start)) (ended && (ltb 0 (length piece - start) || eqb lines 0))
    ∙ ap₂ (λ (f : First) (n : ℕ). f.whole || (ltb too_long n || (ended && (ltb 0 n || eqb lines 0)))) e (sym (length-drop start piece))

-- that line
pub next_seen : (ended : Bool) (lines : ℕ) (piece : List ℕ) (start behind : ℕ) (first : FirstLine) → first_in_numbers first ≡ first_line (ltb 0 lines) ended (drop start piece)
    → sure ended lines (drop start piece) ≡ true → behind ≡ start + first.end + cond first.whole 2 0
    → IsNext ended lines piece start (record { end = start + first.end; start = behind; line = first.line })
unfolding first_line taken whole
next_seen ended lines piece start behind first e s g = record {
  sure_so = s;
  end_so = ap (λ (f : First). start + f.end) e;
  start_so = g ∙ add_assoc start first.end (cond first.whole 2 0) ∙ ap (λ (f : First). start + (f.end + cond f.whole 2 0)) e;
  line_so = ap (λ (f : First). f.line) e;
}

-- what is left of a piece
pub rest_of : (piece : List ℕ) (start : ℕ) → take (length piece - start) (drop start piece) ≡ drop start piece
rest_of piece start = take_all (length piece - start) (drop start piece) (le_of_eq (length-drop start piece))

pub first_within : (piece : List ℕ) (start : ℕ) (asked ended : Bool) (first : FirstLine) → start ≤ length piece → first_in_numbers first ≡ first_line asked ended (drop start piece)
    → start + first.end ≤ length piece
unfolding first_line
first_within piece start asked ended first h e =
    omega (arith, h, ap (λ (f : First). f.end) e, subst (λ n. reach too_long (drop start piece) ≤ n) (length-drop start piece) (reach_within too_long (drop start piece)))

-- if enough is known of a line behind line 1 that is not too long, it was parsed
pub next_said : (ended : Bool) (lines : ℕ) (piece : List ℕ) (start : ℕ) (next : Next) → IsNext ended lines piece start next
    → SaidBy lines (take (next.end - start) (drop start piece)) next.line
unfolding first_line sure whole
next_said ended lines piece start next e behind k =
    e.line_so
    ∙ ap₂ (λ (a b : Bool). cond ((a && (crlf (drop reached rest) || ended)) && b) (parsed (next_line rest)) (refused_parse 8)) (lt-ltb 0 lines behind) short
    ∙ go (crlf (drop reached rest)) refl ended e.sure_so ∙ ap parsed (sym line)
  where
    rest : List ℕ
    rest = drop start piece

    reached : ℕ
    reached = reach too_long rest

    line : take (next.end - start) rest ≡ next_line rest
    line = ap (λ n. take n rest) (ap (λ n. n - start) e.end_so ∙ add-sub_cancel_left start reached)

    short : leb reached longest ≡ true
    short = le-leb reached longest (omega (arith, k, ap length line, length-take reached rest, reach_within too_long rest))

    go : (w : Bool) → crlf (drop reached rest) ≡ w → (d : Bool) → w || (ltb too_long (length rest) || (d && (ltb 0 (length rest) || eqb lines 0))) ≡ true
        → cond ((w || d) && true) (parsed (next_line rest)) (refused_parse 8) ≡ parsed (next_line rest)
    go true f d h = refl
    go false f true h = refl
    go false f false h =
        let long = ltb-true too_long (length rest) (sym (or-false (ltb too_long (length rest))) ∙ h) in
        absurd (omega (arith, leb-true reached longest short, reach_all too_long rest f))

-- numbers compared one by one
same_by : (l h : List ℕ) → pointwise eqb l h ≡ same l h
same_by [] [] = refl
same_by [] (y ∷ ys) = refl
same_by (x ∷ xs) [] = refl
same_by (x ∷ xs) (y ∷ ys) = ap (λ (b : Bool). eqb x y && b) (same_by xs ys)

-- line 1, by whether it is the header
header_told : (k : ℕ) (line table : List ℕ) (b : Bool) → k ≡ 0 → pointwise eqb line header ≡ b → on_line k table line ≡ cond b (told [] table true) (refuse 6 0 table)
unfolding on_line
header_told k line table b e f =
    ap (λ (a : Bool). cond a (on_header table line) (cond (ltb most_lines (k + 1)) (refuse 7 k table) (cond (ltb longest (length line)) (refuse 7 k table) (on_parsed k table (parsed line)))))
    (eq-eqb k 0 e)
    ∙ ap (λ (a : Bool). cond a (told [] table true) (refuse 6 0 table)) (sym (same_by line header) ∙ f)

-- a good header has no output, and any other line 1 is refused
pub header_good : (k : ℕ) (line table out : List ℕ) (at : ℕ) → k ≡ 0 → pointwise eqb line header ≡ true → at ≤ length out → GoesOn (on_line k table line) out at at out table
header_good k line table out at e f h =
    subst (λ (t : Told). GoesOn t out at at out table) (sym (header_told k line table true e f))
    (record {
      goes_so = refl;
      writes_so = record {
        at_so = sym (add-zero at);
        out_so = sym (ap (λ n. take at out ++ [] ++ drop n out) (add-zero at) ∙ ap (λ (s : List ℕ). s ++ drop at out) (append-nil (take at out)) ∙ take-append-drop at out);
        fits_so = omega (arith, h);
      };
      table_so = refl;
    })

pub header_bad : (k : ℕ) (line table : List ℕ) → k ≡ 0 → pointwise eqb line header ≡ false → on_line k table line ≡ refuse 6 k table
header_bad k line table e f = header_told k line table false e f ∙ ap (λ n. refuse 6 n table) (sym e)

-- a line after the header, by the two tests for 7
later : (k : ℕ) (line table : List ℕ) → (k ≡ 0 → ⊥)
    → on_line k table line ≡ cond (ltb most_lines (k + 1)) (refuse 7 k table) (cond (ltb longest (length line)) (refuse 7 k table) (on_parsed k table (parsed line)))
unfolding on_line
later k line table f =
    ap (λ b. cond b (on_header table line) (cond (ltb most_lines (k + 1)) (refuse 7 k table) (cond (ltb longest (length line)) (refuse 7 k table) (on_parsed k table (parsed line))))) (ne_eqb k 0 f)

pub line_too_many : (k : ℕ) (line table : List ℕ) → (k ≡ 0 → ⊥) → most_lines < k + 1 → on_line k table line ≡ refuse 7 k table
line_too_many k line table f h =
    later k line table f ∙ ap (λ b. cond b (refuse 7 k table) (cond (ltb longest (length line)) (refuse 7 k table) (on_parsed k table (parsed line)))) (lt-ltb most_lines (k + 1) h)

pub line_too_long : (k : ℕ) (line table : List ℕ) → (k ≡ 0 → ⊥) → k + 1 ≤ most_lines → longest < length line → on_line k table line ≡ refuse 7 k table
line_too_long k line table f h l =
    later k line table f
    ∙ ap (λ b. cond b (refuse 7 k table) (cond (ltb longest (length line)) (refuse 7 k table) (on_parsed k table (parsed line)))) (le-ltb most_lines (k + 1) h)
    ∙ ap (λ b. cond b (refuse 7 k table) (on_parsed k table (parsed line))) (lt-ltb longest (length line) l)

pub line_read : (k : ℕ) (line table : List ℕ) {e : Parsed} → (k ≡ 0 → ⊥) → k + 1 ≤ most_lines → length line ≤ longest → e ≡ parsed line → on_line k table line ≡ on_parsed k table e
line_read k line table f h l q =
    later k line table f
    ∙ ap (λ b. cond b (refuse 7 k table) (cond (ltb longest (length line)) (refuse 7 k table) (on_parsed k table (parsed line)))) (le-ltb most_lines (k + 1) h)
    ∙ ap (λ b. cond b (refuse 7 k table) (on_parsed k table (parsed line))) (le-ltb longest (length line) l)
    ∙ ap (on_parsed k table) (sym q)

-- a line that is refused by what it says
pub refused_told : (k : ℕ) (line table : List ℕ) (refusal : Refusal) → (k ≡ 0 → ⊥) → k + 1 ≤ most_lines → length line ≤ longest
    → refused_parse (refusal_number refusal) ≡ parsed line → on_line k table line ≡ refuse (refusal_number refusal) k table
refused_told k l₀ table refusal f h l q = line_read k l₀ table f h l q ∙ refused_by refusal
  where
    refused_by : (r : Refusal) → on_parsed k table (refused_parse (refusal_number r)) ≡ refuse (refusal_number r) k table
    refused_by r = ap (λ b. cond b (parsed_told k table (refused_parse (refusal_number r))) (refuse (refusal_number r) k table)) (ne_eqb (refusal_number r) 0 (not_accepted r))

-- a line's output is written where its text is laid
put_writes : (text out out' : List ℕ) (at n : ℕ) → laid n out' ≡ laid (at + length text) (take at out ++ text ++ drop (at + length text) out)
    → at + length text ≤ length out → Writes text out at n out'
put_writes text out out' at n e h = record { at_so = ap (λ (l : Laid). l.at) e; out_so = ap (λ (l : Laid). l.out) e; fits_so = h }

-- the run goes on only after a line that is not one too many
pub goes_few : (k : ℕ) (table line : List ℕ) → (on_line k table line).goes ≡ true → k < most_lines
unfolding on_line
goes_few k table line g = go (eqb k 0) refl (ltb most_lines (k + 1)) refl g
  where
    go : (b : Bool) → eqb k 0 ≡ b → (c : Bool) → ltb most_lines (k + 1) ≡ c
        → (cond b (on_header table line) (cond c (refuse 7 k table) (cond (ltb longest (length line)) (refuse 7 k table) (on_parsed k table (parsed line))))).goes ≡ true
        → k < most_lines
    go true e c f h = omega (arith, eqb-true k 0 e)
    go false e true f h = absurd (false≢true h)
    go false e false f h = omega (arith, ltb-false most_lines (k + 1) f)

pub refuse_put : (number lines at n : ℕ) (out out' : List ℕ) → number < 256 → lines < 2 ^ 32 → Roomy out at
    → laid n out' ≡ lay_all (laid at out) (refusal_texts number (lines + 1)) → Writes (refused_line number (lines + 1)) out at n out'
refuse_put number lines at n out out' h k roomy e =
    put_writes (refused_line number (lines + 1)) out out' at n (e ∙ refusal_laid at number (lines + 1) out roomy h (omega (arith, k)))
    (omega (arith, roomy, refusal_short number (lines + 1) h (omega (arith, k))))

pub answer_put : (k at n : ℕ) (table out out' table' : List ℕ) (pair : ℕ) (event : List ℕ) (found : Finding) (before : ℕ) → 0 < k → k < most_lines → Roomy out at
    → before ≡ set_in table pair → found ≡ finding event before → table' ≡ set table pair found.after
    → laid n out' ≡ lay_all (laid at out) (answer_texts (k - 1) found)
    → GoesOn (on_parsed k table (parsed_as pair event)) out at n out' table'
answer_put k at n table out out' table' pair event found before pos few roomy b f t l =
    record {
      goes_so = refl;
      writes_so =
          put_writes (answer_line (k - 1) found') out out' at n
          (l ∙ ap (λ (x : Finding). lay_all (laid at out) (answer_texts (k - 1) x)) is_found ∙ answer_laid at (k - 1) out found' roomy (omega (arith, few)))
          (omega (arith, roomy, answer_short (k - 1) found' (omega (arith, few))));
      table_so = t ∙ ap (λ (x : Finding). set table pair x.after) is_found;
    }
  where
    found' : Finding
    found' = finding event (set_in table pair)

    is_found : found ≡ found'
    is_found = f ∙ ap (finding event) b

-- an equal line goes on alike
pub goes_by : {t t' : Told} {out out' table' : List ℕ} {at next : ℕ} → t ≡ t' → GoesOn t' out at next out' table' → GoesOn t out at next out' table'
goes_by {out = out} {out'} {table'} {at} {next} e g = subst (λ (x : Told). GoesOn x out at next out' table') (sym e) g

-- the next line ends within the piece
pub next_end : (ended : Bool) (lines start : ℕ) (piece : List ℕ) (next : Next) → start ≤ length piece → IsNext ended lines piece start next
    → (start ≤ next.end) × (next.end ≤ length piece)
next_end ended lines start piece next h e =
    let f = e.end_so in (
      omega (arith, f),
      omega (arith, f, h, subst (λ n. reach too_long (drop start piece) ≤ n) (length-drop start piece) (reach_within too_long (drop start piece))),
    )

-- the run still goes on
pub still_going : {ended : Bool} {piece out₀ : List ℕ} {h₀ : Held} {table out : List ℕ} {taken put lines : ℕ} {going : Bool} → going ≡ true
    → Eating ended piece out₀ h₀ table out taken put lines true → Eating ended piece out₀ h₀ table out taken put lines going
still_going {ended} {piece} {out₀} {h₀} {table} {out} {taken} {put} {lines} g e = subst (λ (b : Bool). Eating ended piece out₀ h₀ table out taken put lines b) (sym g) e

-- the piece eaten, as the contract says
pub eaten_all : {ended : Bool} {piece out₀ : List ℕ} {table₀ table out : List ℕ} {taken put lines₀ lines : ℕ} {going₀ going : Bool}
    → Eating ended piece out₀ (held piece lines₀ table₀ going₀) table out taken put lines going
    → ready ended (length out₀) (now_held piece taken put lines going table out) ≡ false
    → eat_left (record { taken = taken; put = put; lines = lines; going = going }) table out ≡ ate ended piece lines₀ going₀ table₀ out₀
unfolding ate
eaten_all e f = eating_stop e f

-- a run begun, as the contract says
pub begun_is : (table out : List ℕ) {table' out' : List ℕ} {put : ℕ} {r : Turned} → table' ≡ replicate (length table) all_states → laid put out' ≡ lay (laid 0 out) header_line
    → r ≡ answer_with nothing_yet put → begun_with r table' out' ≡ begun table out
unfolding begun
begun_is table out {table'} {out'} {put} {r} filled-so l a =
    ap₂ (λ (x : Turned) (y : List ℕ). begun_with x y out') (a ∙ ap (λ (k : Laid). answer_with nothing_yet k.at) l) filled-so
    ∙ ap (λ (k : Laid). begun_with (answer_with nothing_yet (lay (laid 0 out) header_line).at) (replicate (length table) all_states) k.out) l

-- no more bytes are held than the piece has
all_held : (n : ℕ) (piece : List ℕ) → take (min n (length piece)) piece ≡ take n piece
all_held n piece = go (leb n (length piece)) refl
  where
    go : (b : Bool) → leb n (length piece) ≡ b → take (min n (length piece)) piece ≡ take n piece
    go true e =
        let k : min n (length piece) ≡ n = omega (arith, leb-true n (length piece) e) in
        ap (λ m. take m piece) k
    go false e =
        let k : min n (length piece) ≡ length piece = omega (arith, leb-false n (length piece) e) in
        ap (λ m. take m piece) k ∙ take-length piece ∙ sym (take_all n piece (omega (arith, leb-false n (length piece) e)))

-- a part of a part
part_of : (piece : List ℕ) (start count : ℕ) → start + count ≤ length piece → drop start (take (start + count) piece) ≡ take count (drop start piece)
part_of piece start count h =
    ap (drop start) (take-add start count piece) ∙ drop_at (take start piece) (take count (drop start piece)) start (length_front start piece (omega (arith, h)))

-- `count` bytes from an offset, moved to the front of the piece
abbrev pub moved_down : List ℕ → ℕ → ℕ → List ℕ
moved_down piece start count = take count (drop start piece) ++ drop count piece

-- the rest of the held bytes, moved to the front
rest_moved : (piece rest : List ℕ) (n : ℕ) → n ≤ length piece → Rest (take n piece) rest
    → moved_down piece (n - length rest) (n - (n - length rest)) ≡ in_front rest piece
rest_moved piece rest n h r =
    ap (λ m. take m (drop (n - length rest) piece) ++ drop m piece) kept_long
    ∙ ap (λ (s : List ℕ). s ++ drop (length rest) piece)
    (sym (part_of piece (n - length rest) (length rest) (omega (arith, h, short))) ∙ ap (λ m. drop (n - length rest) (take m piece)) back
    ∙ ap (λ m. drop (m - length rest) (take n piece)) (sym (length_front n piece h)) ∙ taken_off r)
  where
    short : length rest ≤ n
    short = omega (arith, rest_short r, length_front n piece h)

    kept_long : n - (n - length rest) ≡ length rest
    kept_long = omega (arith, short)

    back : n - length rest + length rest ≡ n
    back = omega (arith, short)

-- no more bytes are taken than the piece has
pub ate_most : {table' out' : List ℕ} {r : Eaten} (ended : Bool) (piece : List ℕ) (lines : ℕ) (going : Bool) (table out : List ℕ)
    → eat_left r table' out' ≡ ate ended piece lines going table out → r.taken ≤ length piece
unfolding ate
ate_most ended piece lines going table out e = subst (λ n. n ≤ length piece) (sym (ap (λ (x : EatLeft). x.answer.taken) e)) (omega arith)

-- the two tests of whether the input has ended
pub ends_by : (c : Carried) (got : ℕ) (a b : Bool) → a ≡ c.ended → b ≡ wanted c → a || (b && eqb got 0) ≡ ended_by c got
ends_by c got a b e f = ap₂ (λ (x y : Bool). x || (y && eqb got 0)) e f

-- a turn, as the contract says
module _ (c : Carried) (got : ℕ) (piece table out : List ℕ) {table' out' : List ℕ} {ended : Bool} {n : ℕ} {e : Eaten}
    (is_ended : ended ≡ ended_by c got) (is_held_lem : n ≡ min (c.held + got) (length piece))
    (is-eaten : eat_left e table' out' ≡ ate ended (take n piece) c.lines c.going table out) where
  abbrev h : Held
  h = eaten ended (length out) (held (take n piece) c.lines table c.going)

  within : n ≤ length piece
  within = omega (arith, is_held_lem)

  is_taken : e.taken ≡ n - length h.rest
  unfolding ate
  is_taken = ap (λ (x : EatLeft). x.answer.taken) is-eaten ∙ ap (λ m. m - length h.rest) (length_front n piece within)

  is_rest : Rest (take n piece) h.rest
  is_rest = eaten_rest ended (length out) (held (take n piece) c.lines table c.going)

  kept_long : n - e.taken ≡ length h.rest
  kept_long = omega (arith, is_taken, rest_short is_rest, length_front n piece within)

  all_of : turn_left_by ended piece out h ≡ turned c got piece table out
  unfolding turned
  all_of =
      ap₂ (λ (x : Bool) (s : List ℕ). turn_left_by x piece out (eaten x (length out) (held s c.lines table c.going))) is_ended
      (ap (λ m. take m piece) is_held_lem ∙ all_held (c.held + got) piece)

  pub turn_is : {piece' : List ℕ} {r : Turned} → piece' ≡ paste piece 0 (drop e.taken piece) (n - e.taken)
      → r ≡ answer_with (record { held = n - e.taken; lines = e.lines; going = e.going; ended = ended }) e.put
      → turn_left r piece' table' out' ≡ turned c got piece table out
  unfolding ate
  turn_is p a =
      ap₂ (λ (x : Turned) (s : List ℕ). turn_left x s table' out')
      (a ∙ ap (λ m. answer_with (record { held = m; lines = e.lines; going = e.going; ended = ended }) e.put) kept_long
      ∙ ap (λ (x : EatLeft). answer_with (record { held = length h.rest; lines = x.answer.lines; going = x.answer.going; ended = ended }) x.answer.put) is-eaten)
      (p ∙ ap (λ m. take (n - e.taken) (drop e.taken piece) ++ drop m piece) (zero-add (n - e.taken)) ∙ ap (λ m. moved_down piece m (n - m)) is_taken ∙ rest_moved piece h.rest n within is_rest)
      ∙ ap (λ (x : EatLeft). turn_left (answer_with (carried_of ended h) (length h.text)) (in_front h.rest piece) x.table x.out) is-eaten
      ∙ all_of

-- no more is held than the piece has, and no more is to be written than the buffer has
left_within : (ended : Bool) (piece out : List ℕ) (h : Held) {r : Turned} {piece' table' out' : List ℕ} → turn_left r piece' table' out' ≡ turn_left_by ended piece out h
    → (r.carried.held ≤ length piece') × (r.put ≤ length out')
left_within ended piece out h e = (
  omega (arith, ap (λ (x : turns.TurnLeft). x.answer.carried.held) e, ap (λ (x : turns.TurnLeft). length x.piece) e, length-append h.rest (drop (length h.rest) piece)),
  omega (arith, ap (λ (x : turns.TurnLeft). x.answer.put) e, ap (λ (x : turns.TurnLeft). length x.out) e, length-append h.text (drop (length h.text) out)),
)

pub turned_within : (c : Carried) (got : ℕ) (piece table out : List ℕ) {r : Turned} {piece' table' out' : List ℕ}
    → turn_left r piece' table' out' ≡ turned c got piece table out → (r.carried.held ≤ length piece') × (r.put ≤ length out')
unfolding turned
turned_within c got piece table out e =
    left_within (ended_by c got) piece out (eaten (ended_by c got) (length out) (held (take (c.held + got) piece) c.lines table c.going)) e

-- the same after `begin`, if the buffer has room for a line
pub begun_within : (table out : List ℕ) {r : Turned} {table' out' : List ℕ} → room ≤ length out → begun_with r table' out' ≡ begun table out
    → (r.carried.held ≡ 0) × (r.put ≤ length out')
unfolding begun header_line
begun_within table out roomy e = (
  ap (λ (x : Begun). x.answer.carried.held) e,
  omega (arith, roomy, ap (λ (x : Begun). x.answer.put) e ∙ ap (λ (l : Laid). l.at) (header_laid 0 out (omega (arith, roomy))), ap (λ (x : Begun). length x.out) e ∙ length_lay (laid 0 out) header_line),
)

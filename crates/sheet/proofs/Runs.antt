-- However the input is cut into pieces, and whatever the size of the buffer, a run writes the sheet's output (definition 8.9).
-- Assumes nothing.
use mathlib.Core.Path.{◌≡◌, refl, sym, ◌∙◌, ap, subst}
use mathlib.Core.Bool.{Bool, true, false, cond, ◌&&◌, ◌||◌, false≢true}
use mathlib.Core.List.{List, [], ◌++◌, append-nil, append_assoc}
use Prim.Native.Nat.{ℕ, zero, suc, ◌≤◌, ◌<◌}
use native.Mathlib.Nat.{pos_of_ne-zero}
use native.Mathlib.Omega.{arith}
use borrow.Author.Tests.{ne_eqb, ltb-false, eqb-false}
use lib.Dec.{eqb, ltb}
use lib.ListN.{length}
use Rattle.lines.specs.Lines.{lines_of}
use Rattle.lines.specs.Seen.{too_long}
use Rattle.replies.specs.Replies.{room, header_line, refused_line}
use Rattle.sheet.specs.Sheet.{answers, sheet_out}
use Rattle.sheet.specs.Pieces.{Held, whole, sure, ready, eaten, to_come, total}
use Rattle.sheet.specs.Runs.{emptied, with_piece, Run, SomeRun, reads, eats, ends, refused, done, start}
use Rattle.sheet.proofs.Bites.{eaten_keeps, nothing, size, eaten_less}

piece_read : (h : Held) (piece input : List ℕ) → to_come (with_piece h piece) input ≡ to_come h (piece ++ input)
unfolding to_come
piece_read h piece input = ap (λ (s : List ℕ). cond h.going (answers h.lines h.table (lines_of s)) []) (append_assoc h.rest piece input)

none_come : (h : Held) (input : List ℕ) → h.going ≡ false → [] ≡ to_come h input
unfolding to_come
none_come h input e = sym (ap (λ b. cond b (answers h.lines h.table (lines_of (h.rest ++ input))) []) e)

-- a choice between one thing and itself
pub either {ℓ} : {A : Type ℓ} (b : Bool) (x : A) → cond b x x ≡ x
either true x = refl
either false x = refl

all_taken_lem : (h : Held) → h.rest ≡ [] → 0 < h.lines → [] ≡ to_come h []
unfolding to_come
all_taken_lem h e k =
    sym (ap (λ (s : List ℕ). cond h.going (answers h.lines h.table (lines_of (s ++ []))) []) e
    ∙ ap (λ b. cond h.going (cond b (refused_line 6 1) []) []) (ne_eqb h.lines 0 (λ z. omega (arith, k, z)))
    ∙ either h.going [])

-- after eating: the output so far, and then what is still to come
eaten_come : (ended : Bool) (space : ℕ) (h : Held) (more : List ℕ) → (ended ≡ true → more ≡ [])
    → (eaten ended space (emptied h)).text ++ to_come (eaten ended space (emptied h)) more ≡ to_come h more
unfolding total to_come
eaten_come ended space h more f = eaten_keeps ended space (emptied h) more f

-- WHAT A RUN WRITES: all output still to come, for what is held and for the input.
pub run_writes : {h : Held} {input out : List ℕ} → Run h input out → out ≡ to_come h input
run_writes (reads {h = h} {input = input} piece r) = run_writes r ∙ piece_read h piece input
run_writes (eats {h = h} {input = input} space r) =
    ap (λ (s : List ℕ). (eaten false space (emptied h)).text ++ s) (run_writes r) ∙ eaten_come false space h input (λ e. absurd (false≢true e))
run_writes (ends {h = h} space r) =
    ap (λ (s : List ℕ). (eaten true space (emptied h)).text ++ s) (run_writes r) ∙ eaten_come true space h [] (λ e. refl)
run_writes (refused {h = h} {input = input} e) = none_come h input e
run_writes (done {h = h} e k) = all_taken_lem h e k

-- THE SHEET, HOWEVER IT IS CUT (definition 8.9): after the output's header, every run writes the sheet's output for its input.
pub run_is_sheet : {input out : List ℕ} → Run start input out → header_line ++ out ≡ sheet_out input
unfolding to_come
run_is_sheet r = ap (λ (s : List ℕ). header_line ++ s) (run_writes r)

-- two runs on the same input write the same output
pub runs_agree : {input out out' : List ℕ} → Run start input out → Run start input out' → out ≡ out'
runs_agree r r' = run_writes r ∙ sym (run_writes r')

-- after the end of the input, room for one line is enough: a run that is not ready was refused, or has taken its last line
not_ready : (h : Held) → ready true room (emptied h) ≡ false → SomeRun h []
unfolding ready sure
not_ready h e = go h.going refl (whole h.rest) (ltb too_long (length h.rest)) (ltb 0 (length h.rest)) refl (eqb h.lines 0) refl e
  where
    go : (a : Bool) → h.going ≡ a → (b c d : Bool) → ltb 0 (length h.rest) ≡ d → (z : Bool) → eqb h.lines 0 ≡ z
        → a && (true && (b || (c || (true && (d || z))))) ≡ false → SomeRun h []
    go false f b c d g z k q = record { out = []; run = refused f }
    go true f true c d g z k q = absurd (false≢true (sym q))
    go true f false true d g z k q = absurd (false≢true (sym q))
    go true f false false true g z k q = absurd (false≢true (sym q))
    go true f false false false g true k q = absurd (false≢true (sym q))
    go true f false false false g false k q = record {
      out = [];
      run = done (nothing h.rest (ltb-false 0 (length h.rest) g)) (pos_of_ne-zero (eqb-false h.lines 0 k));
    }

finish : (n : ℕ) (h : Held) (b : Bool) → ready true room (emptied h) ≡ b → size h ≤ n → SomeRun h []
unfolding size
finish zero h false e p = not_ready h e
finish zero h true e p = absurd (omega (arith, eaten_less true room (emptied h) e))
finish (suc n) h false e p = not_ready h e
finish (suc n) h true e p =
    let h' = eaten true room (emptied h) in
    let r = finish n h' (ready true room (emptied h')) refl (omega (arith, p, eaten_less true room (emptied h) e)) in
    record { out = h'.text ++ r.out; run = ends room r.run }

-- EVERY INPUT HAS A RUN: read everything at once, and eat it to its end.
pub run_exists : (input : List ℕ) → SomeRun start input
run_exists input =
    let h = with_piece start input in
    let r = finish (size h) h (ready true room (emptied h)) refl (omega arith) in
    subst (λ (s : List ℕ). SomeRun start s) (append-nil input) (record { out = r.out; run = reads input r.run })

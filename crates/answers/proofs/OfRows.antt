-- The answers of the rows: an answer is among them exactly when it is permitted.
-- Assumes nothing.
use mathlib.Core.Path.{◌≡◌, refl, sym, ◌∙◌, ap}
use mathlib.Core.Bool.{Bool, true, false, cond, ◌&&◌, ◌||◌, and-true, and-false}
use mathlib.Core.List.{List, [], ◌∷◌, ◌++◌}
use Prim.Native.Nat.{ℕ}
use lib.Dec.{eqb}
use lib.ListN.{length}
use Rattle.kinds.specs.Tests.{any, same, ◌∈?◌}
use Rattle.kinds.specs.declared.Answer.{Answer}
use Rattle.kinds.specs.declared.Answer.TheVariants.{SnpResp, SnpRespData, SnpRespDataPtl}
use Rattle.kinds.specs.declared.Forward.TheVariants.{NoForward, CompData}
use Rattle.kinds.specs.Answers.{wire}
use Rattle.kinds.proofs.Lists.{In, any_found, found_any, and_left, and_right, and_both, same_truth}
use Rattle.rows.specs.Event.{byte}
use Rattle.rows.specs.Rows.{Row, rows}
use Rattle.rows.specs.Permitted.{rules_of, on_forward, asked, answered, tags_allow, tag_ops, tagged}
use Rattle.rows.proofs.ByRows.{Permits, permitted_row, row_permitted}
use Rattle.answers.specs.declared.Question.{Question}
use Rattle.answers.specs.Answers.{event_with, choices, permits}
use Rattle.answers.specs.Listed.{answer_length}
use Rattle.answers.proofs.Choices.{any_append, chosen, choices_members}

-- what each byte of a row's answers may be
unfoldable pub row_choices : Question → Row → List (List ℕ)
row_choices q r =
    (byte (wire r.answer) 0 ∷ []) ∷
    (byte (wire r.answer) 1 ∷ []) ∷
    (byte (wire r.answer) 2 ∷ []) ∷
    (byte (wire r.answer) 3 ∷ []) ∷
    tag_ops q.tag.0 r.table r.before r.answer ∷
    (rules_of r.table).errors r.answer ∷
    (byte (wire r.answer) 4 ∷ []) ∷
    (byte (wire r.answer) 5 ∷ []) ∷
    r.finals ∷
    on_forward r.answer ∷
    []

-- the row is for the question: its state before, its snoop and its tag state
unfoldable pub row_asked : Question → Row → Bool
row_asked q r =
    eqb q.before.0 r.before
    && asked (event_with q []) r.table r.ret r.marked
    && tags_allow q.tag.0 r.before r.answer

-- the answers that some rows permit, in the order of the rows
unfoldable pub answers_of : Question → List Row → List (List ℕ)
answers_of q [] = []
answers_of q (r ∷ rs) = cond (row_asked q r) (choices (row_choices q r)) [] ++ answers_of q rs

-- an answer is among those of a row
of_row : Question → List ℕ → Row → Bool
of_row q a r = row_asked q r && (eqb (length a) answer_length && chosen (row_choices q r) a 0)

row_members : (q : Question) (a : List ℕ) (r : Row) → any (same a) (cond (row_asked q r) (choices (row_choices q r)) []) ≡ of_row q a r
unfolding of_row row_choices
row_members q a r = go (row_asked q r)
  where
    go : (b : Bool) → any (same a) (cond b (choices (row_choices q r)) []) ≡ b && (eqb (length a) answer_length && chosen (row_choices q r) a 0)
    go true = choices_members (row_choices q r) a
    go false = refl

answers_members : (q : Question) (a : List ℕ) (rs : List Row) → any (same a) (answers_of q rs) ≡ any (of_row q a) rs
unfolding answers_of
answers_members q a [] = refl
answers_members q a (r ∷ rs) =
    any_append (same a) (cond (row_asked q r) (choices (row_choices q r)) []) (answers_of q rs)
    ∙ ap (λ (b : Bool). b || any (same a) (answers_of q rs)) (row_members q a r)
    ∙ ap (λ (b : Bool). of_row q a r || b) (answers_members q a rs)

-- the six bytes of an answer, one by one
wire_six : (w : Answer) → byte (wire w) 0 ∷ byte (wire w) 1 ∷ byte (wire w) 2 ∷ byte (wire w) 3 ∷ byte (wire w) 4 ∷ byte (wire w) 5 ∷ [] ≡ wire w
wire_six (SnpResp r NoForward) = refl
wire_six (SnpResp r (CompData f x)) = refl
wire_six (SnpRespData r NoForward) = refl
wire_six (SnpRespData r (CompData f x)) = refl
wire_six (SnpRespDataPtl r) = refl

-- the tests of an answer's bytes, those of its six wire bytes first
last_six : (o e g h f x : Bool) → o && (e && ((g || false) && ((h || false) && (f && (x && true))))) ≡ (g && (h && true)) && (o && (e && (f && x)))
last_six o e true true f x = ap (λ (b : Bool). o && (e && (f && b))) (and-true x)
last_six o e true false f x = ap (λ (b : Bool). o && b) (and-false e) ∙ and-false o
last_six o e false h f x = ap (λ (b : Bool). o && b) (and-false e) ∙ and-false o

regrouped : (a b c d o e g h f x : Bool)
    → (a || false) && ((b || false) && ((c || false) && ((d || false) && (o && (e && ((g || false) && ((h || false) && (f && (x && true)))))))))
    ≡ (a && (b && (c && (d && (g && (h && true)))))) && (o && (e && (f && x)))
regrouped true true true true o e g h f x = last_six o e g h f x
regrouped true true true false o e g h f x = refl
regrouped true true false d o e g h f x = refl
regrouped true false c d o e g h f x = refl
regrouped false b c d o e g h f x = refl

-- the six wire bytes of ten
six_of : List ℕ → List ℕ
six_of a = byte a 0 ∷ byte a 1 ∷ byte a 2 ∷ byte a 3 ∷ byte a 6 ∷ byte a 7 ∷ []

chosen_parts : (q : Question) (a : List ℕ) (r : Row)
    → chosen (row_choices q r) a 0
    ≡ same (six_of a) (wire r.answer)
    && ((byte a 4 ∈? tag_ops q.tag.0 r.table r.before r.answer)
    && ((byte a 5 ∈? (rules_of r.table).errors r.answer) && ((byte a 8 ∈? r.finals) && (byte a 9 ∈? on_forward r.answer))))
unfolding row_choices six_of
chosen_parts q a r =
    let w = wire r.answer in
    let o = byte a 4 ∈? tag_ops q.tag.0 r.table r.before r.answer in
    let e = byte a 5 ∈? (rules_of r.table).errors r.answer in
    let f = byte a 8 ∈? r.finals in
    let x = byte a 9 ∈? on_forward r.answer in
    regrouped (eqb (byte a 0) (byte w 0)) (eqb (byte a 1) (byte w 1)) (eqb (byte a 2) (byte w 2)) (eqb (byte a 3) (byte w 3)) o e
    (eqb (byte a 6) (byte w 4)) (eqb (byte a 7) (byte w 5)) f x
    ∙ ap (λ (l : List ℕ). same (six_of a) l && (o && (e && (f && x)))) (wire_six r.answer)

-- an answer of a row, of ten bytes, is one that the row permits
row_permits : (q : Question) (a : List ℕ) (r : Row) → In r rows → of_row q a r ≡ true → (eqb (length a) answer_length ≡ true) × Permits (event_with q a) q.tag.0 q.before.0 (byte a 8)
unfolding of_row row_asked asked answered tagged six_of
row_permits q a r inside h =
    let from = eqb q.before.0 r.before in
    let isAsked = asked (event_with q []) r.table r.ret r.marked in
    let allow = tags_allow q.tag.0 r.before r.answer in
    let wired = same (six_of a) (wire r.answer) in
    let op = byte a 4 ∈? tag_ops q.tag.0 r.table r.before r.answer in
    let error = byte a 5 ∈? (rules_of r.table).errors r.answer in
    let to = byte a 8 ∈? r.finals in
    let onward = byte a 9 ∈? on_forward r.answer in
    let ten = eqb (length a) answer_length in
    let front = and_left (row_asked q r) (ten && chosen (row_choices q r) a 0) h in
    let back = and_right (row_asked q r) (ten && chosen (row_choices q r) a 0) h in
    let both = and_left (from && isAsked) allow front in
    let parts = sym (chosen_parts q a r) ∙ and_right ten (chosen (row_choices q r) a 0) back in
    let rest = and_right wired (op && (error && (to && onward))) parts in
    let ends = and_right op (error && (to && onward)) rest in
    let last = and_right error (to && onward) ends in (
      and_left ten (chosen (row_choices q r) a 0) back,
      record {
        row = r;
        inside = inside;
        from = and_left from isAsked both;
        to = and_left to onward last;
        is_asked = and_right from isAsked both;
        is_answered = and_both (and_both (and_left wired (op && (error && (to && onward))) parts) (and_left error (to && onward) ends)) (and_right to onward last);
        is_tagged = and_both (and_right (from && isAsked) allow front) (and_left op (error && (to && onward)) rest);
      },
    )

permits_row : (q : Question) (a : List ℕ) → eqb (length a) answer_length ≡ true → (p : Permits (event_with q a) q.tag.0 q.before.0 (byte a 8)) → of_row q a p.row ≡ true
unfolding of_row row_asked asked answered tagged six_of
permits_row q a ten p =
    let r = p.row in
    let wired = same (six_of a) (wire r.answer) in
    let error = byte a 5 ∈? (rules_of r.table).errors r.answer in
    let onward = byte a 9 ∈? on_forward r.answer in
    let allow = tags_allow q.tag.0 r.before r.answer in
    let op = byte a 4 ∈? tag_ops q.tag.0 r.table r.before r.answer in
    let shown = and_left (wired && error) onward p.is_answered in
    and_both
    (and_both (and_both p.from p.is_asked) (and_left allow op p.is_tagged))
    (and_both ten
    (chosen_parts q a r
    ∙ and_both (and_left wired error shown)
    (and_both (and_right allow op p.is_tagged)
    (and_both (and_right wired error shown) (and_both p.to (and_right (wired && error) onward p.is_answered))))))

-- an answer is among those of all rows exactly when it has ten bytes and is permitted
pub rows_members : (q : Question) (a : List ℕ) → any (same a) (answers_of q rows) ≡ eqb (length a) answer_length && permits q a
unfolding permits
rows_members q a = answers_members q a rows ∙ same_truth (any (of_row q a) rows) (eqb (length a) answer_length && permits q a) there back
  where
    there : any (of_row q a) rows ≡ true → eqb (length a) answer_length && permits q a ≡ true
    there h =
        let f = any_found (of_row q a) rows h in
        let k = row_permits q a f.one f.inside f.passes in
        and_both k.0 (row_permitted (event_with q a) q.tag.0 q.before.0 (byte a 8) k.1)

    back : eqb (length a) answer_length && permits q a ≡ true → any (of_row q a) rows ≡ true
    back h =
        let p = permitted_row (event_with q a) q.tag.0 q.before.0 (byte a 8) (and_right (eqb (length a) answer_length) (permits q a) h) in
        found_any (of_row q a) p.inside (permits_row q a (and_left (eqb (length a) answer_length) (permits q a) h) p)

-- The loop over the rows: what each row adds to the seven sets, and that in the end they are the sets of the steps.
-- Assumes nothing.
use mathlib.Core.Path.{◌≡◌, refl, sym, ◌∙◌, ap, ap₂, subst, fun_ext}
use mathlib.Core.Bool.{Bool, true, false, cond, ◌&&◌, ◌||◌}
use mathlib.Core.List.{List, [], ◌∷◌, ◌++◌, map}
use mathlib.Core.Logic.{◌≢◌}
use Prim.Native.Nat.{ℕ, zero, suc, ◌+◌, ◌<◌, ◌≤◌, ◌/◌, ◌^◌}
use native.Mathlib.Nat.{not-suc-le-zero, le_of_suc-le-suc}
use native.Mathlib.Numerals.{add-one}
use borrow.Author.Tests.{eqb-true, eqb-false, eq-eqb, ne_eqb, ltb-true}
use lib.Dec.{eqb, ltb}
use lib.Bits.{bit_and, bit_or, or_zero_r}
use lib.ListN.{length, get_or, set, take, length-set, get_or-map}
use lib.Seq.{take-suc, take_all, ext_get_or, get_or-set_same, get_or-set_other}
use Rattle.kinds.specs.Tests.{any, all, ◌∈?◌}
use Rattle.kinds.specs.Codes.{I, states, state_not_seen, tags, tag_not_seen}
use Rattle.kinds.proofs.Lists.{In, here, there, any_found, found_any, all_at, any_snoc, same_truth, at_state, and_left, and_right, and_both}
use Rattle.sets.specs.Sets.{set_of}
use Rattle.sets.proofs.Laws.{or-set_of, and-set_of, cond-set_of, set_of-ext}
use Rattle.steps.specs.declared.Row as code
use Rattle.rows.specs.Event.{tag_of, state_after_of, seen}
use Rattle.rows.specs.Rows.{Row, row, rows}
use Rattle.rows.specs.declared.Table.{Table}
use Rattle.rows.specs.declared.Table.TheVariants.{B46, B57, B59, B60, Unique, CleanInvalid, MakeInvalid, NdErr}
use Rattle.kinds.specs.Answers.{SnpResp_I, wire}
use Rattle.rows.specs.Permitted.{asked, answered, tagged, permitted, some_tag}
use Rattle.steps.specs.Steps.{steps, set_after, sets_after}
use Rattle.rows.proofs.ByRows.{Permits, permitted_row, row_permitted}
use Rattle.steps.specs.Code.{code_of, row_count, at_key, row_at, event_bytes, row_fits, with_row, wire_key}

-- the row leads from s to s', with some tag state that the event may have and a state after that it may have
unfoldable pub by : List ℕ → ℕ → ℕ → Row → Bool
by e s s' r = eqb s r.before && row_fits e (code_of r) && ((s' ∈? r.finals) && seen state_not_seen (state_after_of e) s')

-- the set of states to which some of the rows lead from s
reach : List ℕ → List Row → ℕ → ℕ
reach e rs s = set_of (λ s'. any (by e s s') rs)

-- the seven sets after some of the rows
pub walked : List ℕ → List Row → List ℕ
walked e rs = map (reach e rs) states

-- one of the seven sets changed
set_state : (f g : ℕ → ℕ) (b v : ℕ) → b < 7 → v ≡ g b → ((s : ℕ) → s ≢ b → f s ≡ g s) → set (map f states) b v ≡ map g states
set_state f g b v h p q = ext_get_or 0 (set (map f states) b v) (map g states) (length-set (map f states) b v) each
  where
    each : (i : ℕ) → i < length (set (map f states) b v) → get_or (set (map f states) b v) i 0 ≡ get_or (map g states) i 0
    each i l = go (eqb i b) refl
      where
        small : i < 7
        small = subst (λ (n : ℕ). i < n) (length-set (map f states) b v) l

        go : (t : Bool) → eqb i b ≡ t → get_or (set (map f states) b v) i 0 ≡ get_or (map g states) i 0
        go true k =
            let e = eqb-true i b k in
            ap (λ (n : ℕ). get_or (set (map f states) b v) n 0) e ∙ get_or-set_same (map f states) b v 0 h ∙ p ∙ sym (ap (λ (n : ℕ). get_or (map g states) n 0) e ∙ at_state g b h)
        go false k =
            get_or-set_other (map f states) b i v 0 (eqb-false i b k) ∙ at_state f i small ∙ q i (eqb-false i b k) ∙ sym (at_state g i small)

-- what a row adds to one of the seven sets
added : (e : List ℕ) (rs : List Row) (r : Row) (s : ℕ)
    → bit_or (reach e rs s) (cond (eqb s r.before && row_fits e (code_of r)) (bit_and (set_of (λ n. n ∈? r.finals)) (set_of (seen state_not_seen (state_after_of e)))) 0)
    ≡ reach e (rs ++ (r ∷ [])) s
unfolding reach by
added e rs r s =
    ap (bit_or (reach e rs s)) (ap (λ (m : ℕ). cond b m 0) (and-set_of p q) ∙ cond-set_of b (λ n. p n && q n))
    ∙ or-set_of (λ s'. any (by e s s') rs) (λ s'. b && (p s' && q s'))
    ∙ set_of-ext (λ s'. any (by e s s') rs || by e s s' r) (λ s'. any (by e s s') (rs ++ (r ∷ []))) (λ s'. sym (any_snoc (by e s s') rs r))
  where
    b : Bool
    b = eqb s r.before && row_fits e (code_of r)

    p : ℕ → Bool
    p n = n ∈? r.finals

    q : ℕ → Bool
    q n = seen state_not_seen (state_after_of e) n

-- one more row
pub walk_one : (e : List ℕ) (rs : List Row) (r : Row) → r.before < 7
    → with_row e (set_of (seen state_not_seen (state_after_of e))) (code_of r) (walked e rs) ≡ walked e (rs ++ (r ∷ []))
unfolding walked with_row
walk_one e rs r h = set_state (reach e rs) (reach e (rs ++ (r ∷ []))) r.before _ h here_more (λ s n. sym (or_zero_r (reach e rs s)) ∙ elsewhere s n)
  where
    more : ℕ
    more = bit_and (set_of (λ n. n ∈? r.finals)) (set_of (seen state_not_seen (state_after_of e)))

    here_more : bit_or (get_or (map (reach e rs) states) r.before 0) (cond (row_fits e (code_of r)) more 0) ≡ reach e (rs ++ (r ∷ [])) r.before
    here_more =
        ap₂ bit_or (at_state (reach e rs) r.before h)
        (ap (λ (t : Bool). cond (t && row_fits e (code_of r)) more 0) (sym (eq-eqb r.before r.before refl)))
        ∙ added e rs r r.before

    elsewhere : (s : ℕ) → s ≢ r.before → bit_or (reach e rs s) 0 ≡ reach e (rs ++ (r ∷ [])) s
    elsewhere s n = ap (λ (t : Bool). bit_or (reach e rs s) (cond (t && row_fits e (code_of r)) more 0)) (sym (ne_eqb s r.before n)) ∙ added e rs r s

-- the copied bytes and the event itself give the same answers
same_bytes : (e : List ℕ) (s s' : ℕ) (r : Row) → by (event_bytes e) s s' r ≡ by e s s' r
unfolding by row_fits asked answered some_tag tagged
same_bytes e s s' r = refl

-- what `by` means, part by part
record Leads (e : List ℕ) (s s' : ℕ) (r : Row) : Type 0 where
  from : eqb s r.before ≡ true
  is_answered : answered e r.table r.answer ≡ true
  is_asked : asked e r.table r.ret r.marked ≡ true
  some : some_tag e r.table r.before r.answer ≡ true
  to : s' ∈? r.finals ≡ true
  saw : seen state_not_seen (state_after_of e) s' ≡ true

leads : (e : List ℕ) (s s' : ℕ) (r : Row) → by e s s' r ≡ true → Leads e s s' r
unfolding by row_fits
leads e s s' r h =
    let a = eqb s r.before in
    let f = row_fits e (code_of r) in
    let m = s' ∈? r.finals in
    let v = seen state_not_seen (state_after_of e) s' in
    let d = answered e r.table r.answer in
    let c = asked e r.table r.ret r.marked in
    let t = some_tag e r.table r.before r.answer in
    let af = and_left (a && f) (m && v) h in
    let mv = and_right (a && f) (m && v) h in
    let dct = and_right a f af in
    let dc = and_left (d && c) t dct in
    record {
      from = and_left a f af;
      is_answered = and_left d c dc;
      is_asked = and_right d c dc;
      some = and_right (d && c) t dct;
      to = and_left m v mv;
      saw = and_right m v mv;
    }

-- some row leads from s to s' exactly when the event is a step from s to s'
row_step : (e : List ℕ) (s s' : ℕ) → any (by e s s') rows ≡ true → steps e s s' ≡ true
unfolding steps some_tag
row_step e s s' h =
    let f = any_found (by e s s') rows h in
    let r = f.one in
    let l = leads e s s' r f.passes in
    let g = any_found (λ t. seen tag_not_seen (tag_of e) t && tagged e t r.table r.before r.answer) tags l.some in
    let t = g.one in
    let saw = seen tag_not_seen (tag_of e) t in
    let tag = tagged e t r.table r.before r.answer in
    let p : Permits e t s s' = record { row = r; inside = f.inside; from = l.from; to = l.to; is_asked = l.is_asked; is_answered = l.is_answered; is_tagged = and_right saw tag g.passes } in
    and_both
    (found_any (λ u. seen tag_not_seen (tag_of e) u && permitted e u s s') g.inside (and_both (and_left saw tag g.passes) (row_permitted e t s s' p)))
    l.saw

step_row : (e : List ℕ) (s s' : ℕ) → steps e s s' ≡ true → any (by e s s') rows ≡ true
unfolding steps some_tag by row_fits
step_row e s s' h =
    let step = any (λ u. seen tag_not_seen (tag_of e) u && permitted e u s s') tags in
    let last = seen state_not_seen (state_after_of e) s' in
    let g = any_found (λ u. seen tag_not_seen (tag_of e) u && permitted e u s s') tags (and_left step last h) in
    let t = g.one in
    let p = permitted_row e t s s' (and_right (seen tag_not_seen (tag_of e) t) (permitted e t s s') g.passes) in
    let r = p.row in
    let fits = and_both (and_left (seen tag_not_seen (tag_of e) t) (permitted e t s s') g.passes) p.is_tagged in
    let some = found_any (λ u. seen tag_not_seen (tag_of e) u && tagged e u r.table r.before r.answer) g.inside fits in
    found_any (by e s s') p.inside
    (and_both (and_both p.from (and_both (and_both p.is_answered p.is_asked) some)) (and_both p.to (and_right step last h)))

-- the event is a step from s to s' exactly when some row leads there
pub rows_steps : (e : List ℕ) (s s' : ℕ) → any (by e s s') rows ≡ steps e s s'
rows_steps e s s' = same_truth (any (by e s s') rows) (steps e s s') (row_step e s s') (step_row e s s')

-- after all rows the seven sets are the sets of the steps
pub walk_all : (e : List ℕ) → walked (event_bytes e) rows ≡ sets_after e
unfolding walked reach set_after
walk_all e = ap (λ (f : ℕ → ℕ). map f states) (fun_ext each)
  where
    each : (s : ℕ) → set_of (λ s'. any (by (event_bytes e) s s') rows) ≡ set_of (steps e s)
    each s =
        set_of-ext (λ s'. any (by (event_bytes e) s s') rows) (steps e s)
        (λ s'.
        ap (λ (f : Row → Bool). any f rows) (fun_ext (same_bytes e s s')) ∙ rows_steps e s s')

-- before the first row the seven sets are empty
pub walk_none : (e : List ℕ) → 0 ∷ 0 ∷ 0 ∷ 0 ∷ 0 ∷ 0 ∷ 0 ∷ [] ≡ walked e []
unfolding walked reach set_of
walk_none e = refl

-- element i of a list is in the list
get_d_In : {A : Type 0} (d : A) (xs : List A) (i : ℕ) → i < length xs → In (get_or xs i d) xs
get_d_In d [] i h = absurd (not-suc-le-zero h)
get_d_In d (x ∷ xs) zero h = here
get_d_In d (x ∷ xs) (suc i) h = there (get_d_In d xs i (le_of_suc-le-suc h))

rows_counted : length rows ≡ row_count
unfolding rows
rows_counted = refl

states_before : all (λ r. ltb r.before 7) rows ≡ true
unfolding rows
states_before = refl

-- the row past the end, which the word 0 past the end stands for
no_row : Row
no_row = row B46 I [] 0 SnpResp_I

no_word : code_of no_row ≡ row_at 0
unfolding no_row row_at set_of
no_word = refl

-- the key's table part, by table
unfoldable pub half : Table → ℕ
half B46 = 0
half B57 = 0
half B59 = 1
half B60 = 1
half Unique = 2
half CleanInvalid = 2
half MakeInvalid = 3
half NdErr = 3

-- the key of a word is that of its table and answer
unfoldable pub keyed : ℕ → Bool
keyed w = eqb (w / 2 ^ at_key) (wire_key (half (row_at w).table) (wire (row_at w).answer))

-- the code's words encode the printed rows, and each word's key is right
pub record Printed (ws : List ℕ) : Type 0 where
  pub same : map row_at ws ≡ map code_of rows
  pub keys : all keyed ws ≡ true

-- word i encodes row i
word_row : {ws : List ℕ} (i : ℕ) → Printed ws → row_at (get_or ws i 0) ≡ code_of (get_or rows i no_row)
word_row {ws} i h =
    sym (get_or-map row_at ws i 0)
    ∙ ap (λ (l : List code.Row). get_or l i (row_at 0)) h.same
    ∙ ap (get_or (map code_of rows) i) (sym no_word)
    ∙ get_or-map code_of rows i no_row

-- the state before of a word's row is one of the seven
pub word_before : {ws : List ℕ} (i : ℕ) (r : code.Row) → Printed ws → i < row_count → r ≡ row_at (get_or ws i 0) → r.before.0 < 7
word_before i r h l k =
    subst (λ (x : code.Row). x.before.0 < 7) (sym (k ∙ word_row i h))
    (ltb-true (get_or rows i no_row).before 7 (all_at (λ x. ltb x.before 7) states_before (get_d_In no_row rows i (subst (λ (n : ℕ). i < n) (sym rows_counted) l))))

-- one iteration of the loop
pub walk_turn : (e : List ℕ) {ws : List ℕ} (i : ℕ) (b : List ℕ) (among : ℕ) (r : code.Row) (sets next : List ℕ)
    → Printed ws → i < row_count → b ≡ event_bytes e → among ≡ set_of (seen state_not_seen (state_after_of b)) → r ≡ row_at (get_or ws i 0)
    → sets ≡ walked (event_bytes e) (take i rows) → next ≡ with_row b among r sets → next ≡ walked (event_bytes e) (take (i + 1) rows)
walk_turn e i b among r sets next h l hb ha hr hs hn =
    hn ∙ rewritten ∙ walk_one (event_bytes e) (take i rows) (get_or rows i no_row) small ∙ ap (walked (event_bytes e)) (sym (ap (λ (n : ℕ). take n rows) (add-one i) ∙ take-suc rows i no_row inside))
  where
    inside : i < length rows
    inside = subst (λ (n : ℕ). i < n) (sym rows_counted) l

    small : (get_or rows i no_row).before < 7
    small = ltb-true (get_or rows i no_row).before 7 (all_at (λ x. ltb x.before 7) states_before (get_d_In no_row rows i inside))

    rewritten : with_row b among r sets ≡ with_row (event_bytes e) (set_of (seen state_not_seen (state_after_of (event_bytes e)))) (code_of (get_or rows i no_row)) (walked (event_bytes e) (take i rows))
    rewritten =
        ap (λ (m : ℕ). with_row b m r sets) (ha ∙ ap (λ (x : List ℕ). set_of (seen state_not_seen (state_after_of x))) hb)
        ∙ ap (λ (x : List ℕ). with_row x (set_of (seen state_not_seen (state_after_of (event_bytes e)))) r sets) hb
        ∙ ap₂ (with_row (event_bytes e) (set_of (seen state_not_seen (state_after_of (event_bytes e))))) (hr ∙ word_row i h) hs

-- the end of the loop
pub walk_end : (e : List ℕ) (i : ℕ) (sets : List ℕ) → row_count ≤ i → sets ≡ walked (event_bytes e) (take i rows) → sets ≡ sets_after e
walk_end e i sets h k = k ∙ ap (walked (event_bytes e)) (take_all i rows (subst (λ (n : ℕ). n ≤ i) (sym rows_counted) h)) ∙ walk_all e

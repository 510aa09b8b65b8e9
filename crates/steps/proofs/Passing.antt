-- Skipped rows: a word whose key differs from the event's adds nothing to the sets.
-- Assumes nothing.
use mathlib.Core.Path.{◌≡◌, refl, sym, ◌∙◌, ap, ap₂}
use mathlib.Core.Bool.{Bool, true, false, cond, ◌&&◌}
use mathlib.Core.List.{List, [], ◌∷◌}
use Prim.Native.Nat.{ℕ, zero, suc, ◌+◌, ◌<◌, ◌/◌, ◌^◌}
use borrow.Author.Tests.{eqb-true}
use lib.Dec.{eqb}
use lib.Bits.{bit_and, bit_or, or_zero_r}
use lib.ListN.{get_or, set, take}
use lib.Seq.{set-get_or}
use Rattle.kinds.specs.Tests.{all, ◌∈?◌}
use Rattle.kinds.specs.Codes.{state_not_seen, NDERR}
use Rattle.kinds.specs.Answers.{wire}
use Rattle.kinds.proofs.Lists.{one_of, and_left, and_right}
use Rattle.sets.specs.Sets.{set_of}
use Rattle.rows.specs.Event.{request_of, resp_err_of, state_after_of, seen}
use Rattle.rows.specs.Rows.{rows}
use Rattle.rows.specs.declared.Table.{Table}
use Rattle.rows.specs.declared.Table.TheVariants.{B46, B57, B59, B60, Unique, CleanInvalid, MakeInvalid, NdErr}
use Rattle.rows.specs.Permitted.{asked, answered, some_tag, rules_of}
use Rattle.rows.proofs.Parts.{is_nd_err, asked_so, answered_so}
use Rattle.steps.specs.declared.Row as code
use Rattle.steps.specs.Code.{row_count, at_key, row_at, event_bytes, row_fits, row_adds, with_row, tables_if, tables_of, wire_key, event_key}
use Rattle.steps.proofs.Walk.{half, keyed, Printed, walked, walk_turn}

-- a test that all words and 0 pass is passed by word i, and by 0 past the end
pub all_get_d : (p : ℕ → Bool) (ws : List ℕ) (i : ℕ) → p 0 ≡ true → all p ws ≡ true → p (get_or ws i 0) ≡ true
all_get_d p [] i z h = z
all_get_d p (w ∷ ws) zero z h = and_left (p w) (all p ws) h
all_get_d p (w ∷ ws) (suc i) z h = all_get_d p ws i z (and_right (p w) (all p ws) h)

keyed_zero : keyed 0 ≡ true
unfolding keyed row_at wire_key half
keyed_zero = refl

-- the key of a word
word_key : (w : ℕ) → keyed w ≡ true → w / 2 ^ at_key ≡ wire_key (half (row_at w).table) (wire (row_at w).answer)
unfolding keyed
word_key w h = eqb-true (w / 2 ^ at_key) (wire_key (half (row_at w).table) (wire (row_at w).answer)) h

-- the key's table part is that of the request and the RespErr
tables_half : (e : List ℕ) (T : Table) → request_of e ∈? (rules_of T).asks ≡ true → eqb (resp_err_of e) NDERR ≡ is_nd_err T → tables_of (request_of e) (resp_err_of e) ≡ half T
unfolding half is_nd_err
tables_half e T h k =
    ap (λ (b : Bool). tables_if b (request_of e)) k
    ∙ eqb-true (tables_if (is_nd_err T) (request_of e)) (half T) (one_of (λ n. eqb (tables_if (is_nd_err T) n) (half T)) (request_of e) (rules_of T).asks h (each T))
  where
    each : (U : Table) → all (λ n. eqb (tables_if (is_nd_err U) n) (half U)) (rules_of U).asks ≡ true
    each B46 = refl
    each B57 = refl
    each B59 = refl
    each B60 = refl
    each Unique = refl
    each CleanInvalid = refl
    each MakeInvalid = refl
    each NdErr = refl

-- a row that fits has the event's key
fits_key : (e : List ℕ) (r : code.Row) → row_fits e r ≡ true → wire_key (half r.table) (wire r.answer) ≡ event_key e
unfolding row_fits
fits_key e r h =
    let T = r.table in
    let a = r.answer in
    let d = answered e T a in
    let c = asked e T r.ret r.marked in
    let dc = and_left (d && c) (some_tag e T r.before.0 a) h in
    let says = answered_so e T a (and_left d c dc) in
    let asks = asked_so e T r.ret r.marked (and_right d c dc) in
    sym (ap₂ wire_key (tables_half e T asks.request says.nderr) says.shown)

-- a row with another key does not fit
none_fits : (e : List ℕ) (r : code.Row) (n : ℕ) → n ≡ wire_key (half r.table) (wire r.answer) → (n ≡ event_key e → ⊥) → row_fits e r ≡ false
none_fits e r n h k = go (row_fits e r) refl
  where
    go : (b : Bool) → row_fits e r ≡ b → row_fits e r ≡ false
    go true s = absurd (k (h ∙ fits_key e r s))
    go false s = s

-- a row that does not fit adds nothing
none_added : (e : List ℕ) (among : ℕ) (r : code.Row) (sets : List ℕ) → row_fits e r ≡ false → with_row e among r sets ≡ sets
unfolding with_row
none_added e among r sets h =
    ap (λ (b : Bool). set sets r.before.0 (bit_or (get_or sets r.before.0 0) (cond b (bit_and r.finals among) 0))) h
    ∙ ap (set sets r.before.0) (or_zero_r (get_or sets r.before.0 0))
    ∙ set-get_or sets r.before.0 0

-- one iteration of the loop that skips its row
pub pass_turn : (e : List ℕ) {ws : List ℕ} (i : ℕ) (b : List ℕ) (among key : ℕ) (sets : List ℕ)
    → Printed ws → i < row_count → b ≡ event_bytes e → among ≡ set_of (seen state_not_seen (state_after_of b)) → key ≡ event_key b
    → (get_or ws i 0 / 2 ^ at_key ≡ key → ⊥) → sets ≡ walked (event_bytes e) (take i rows) → sets ≡ walked (event_bytes e) (take (i + 1) rows)
pass_turn e {ws} i b among key sets h l hb ha hk n hs =
    let w = get_or ws i 0 in
    let other = none_fits b (row_at w) (w / 2 ^ at_key) (word_key w (all_get_d keyed ws i keyed_zero h.keys)) (λ x. n (x ∙ sym hk)) in
    walk_turn e i b among (row_at w) sets sets h l hb ha refl hs (sym (none_added b among (row_at w) sets other))

-- one iteration of the loop that adds its row
pub add_turn : (e : List ℕ) {ws : List ℕ} (i : ℕ) (b : List ℕ) (among : ℕ) (r : code.Row) (sets : List ℕ) (more : ℕ)
    → Printed ws → i < row_count → b ≡ event_bytes e → among ≡ set_of (seen state_not_seen (state_after_of b)) → r ≡ row_at (get_or ws i 0)
    → sets ≡ walked (event_bytes e) (take i rows) → more ≡ row_adds b among r
    → set sets r.before.0 (bit_or (get_or sets r.before.0 0) more) ≡ walked (event_bytes e) (take (i + 1) rows)
unfolding with_row
add_turn e i b among r sets more h l hb ha hr hs hm =
    walk_turn e i b among r sets (set sets r.before.0 (bit_or (get_or sets r.before.0 0) more)) h l hb ha hr hs (ap (λ (v : ℕ). set sets r.before.0 (bit_or (get_or sets r.before.0 0) v)) hm)

-- The effect of an event in range says what the rows for it say. So an event is a step exactly as its effect says.
-- Assumes nothing.
use mathlib.Core.Path.{◌≡◌, refl, sym, ◌∙◌, ap, ap₂, subst, fun_ext}
use mathlib.Core.Bool.{Bool, true, false, cond, not, ◌&&◌, ◌||◌, true≢false}
use mathlib.Core.List.{List, [], ◌∷◌}
use Prim.Native.Nat.{ℕ, zero, suc, ◌+◌, ◌*◌, ◌/◌, ◌%◌, ◌^◌, ◌<◌}
use native.Mathlib.Nat.{zero-add, zero-div, div-one, div-eq_of_lt, mod-eq_of_lt, add-mul-div_left, add-mul-mod_self_left}
use native.Mathlib.Omega.{arith}
use borrow.Author.Tests.{eqb-true}
use lib.Dec.{eqb}
use lib.ListN.{get_or}
use Rattle.kinds.specs.Tests.{any, all, ◌∈?◌}
use Rattle.kinds.specs.Codes.{all_states, requests, tags, tag_not_seen, state_not_seen}
use Rattle.kinds.specs.Answers.{wire}
use Rattle.kinds.proofs.Lists.{any_found, all_at, one_of, if_then, or_and, and_left, and_right}
use Rattle.sets.specs.Sets.{set_of, bit}
use Rattle.sets.proofs.Laws.{bit-set_of, set_of-below}
use Rattle.words.specs.Words.{half}
use Rattle.rows.specs.Event.{request_of, ret_to_src_of, do_not_go_to_sd_of, excl_of, tag_of, channel_of, opcode_of, resp_of, fwd_state_of, tag_op_of, resp_err_of, forwarded_of, forwarded_resp_of, state_after_of, forwarded_err_of, seen}
use Rattle.rows.specs.Rows.{Row, rows}
use Rattle.rows.specs.Permitted.{asked, answered, tagged, some_tag, tags_allow, tag_ops, on_forward, rules_of}
use Rattle.rows.proofs.Parts.{answered_so}
use Rattle.steps.specs.Steps.{steps, duty}
use Rattle.steps.specs.Code.{row_fits}
use Rattle.steps.proofs.Walk.{by, rows_steps}
use Rattle.steps.proofs.Passing.{all_get_d}
use Rattle.lookup.specs.Table.{keys, slots}
use Rattle.lookup.specs.Code.{slot_of, kind_in, kind_of, entry_of, choice_of, effect_in, effect_by, looked_up, packed, effect_of, from, to, told, without_dirty}
use Rattle.lookup.proofs.Looked.{event_of, flags_of, kept, for_answer, for_snoop, says, flag, tag_seen, right_snoop, right_snoops, right_answer, all_right}
use Rattle.lookup.proofs.Looked.{packed_by, keyed_by, keyed, all_keyed, taken, all_taken_lem, no_kind}

-- The bytes of the event are in their ranges, and its request is one of the ten.
pub record InRange (e : List ℕ) : Type 0 where
  pub request : request_of e ∈? requests ≡ true
  pub ret : ret_to_src_of e < 2
  pub no_sd : do_not_go_to_sd_of e < 2
  pub excl : excl_of e < 2
  pub tag : tag_of e < 4
  pub channel : channel_of e < 2
  pub opcode : opcode_of e < 32
  pub resp : resp_of e < 8
  pub fwd_state : fwd_state_of e < 8
  pub tag_op : tag_op_of e < 4
  pub error : resp_err_of e < 4
  pub forwarded : forwarded_of e < 2
  pub forwarded_resp : forwarded_resp_of e < 8
  pub state_after : state_after_of e < 8
  pub forwarded_err : forwarded_err_of e < 4

-- a number below 2 is the value of a flag, and one below 4 that of a tag state
flag_in : (n : ℕ) → n < 2 → n ∈? flag ≡ true
flag_in zero h = refl
flag_in (suc zero) h = refl
flag_in (suc (suc n)) h = absurd (omega arith)

tag_in : (n : ℕ) → n < 4 → n ∈? tag_seen ≡ true
tag_in zero h = refl
tag_in (suc zero) h = refl
tag_in (suc (suc zero)) h = refl
tag_in (suc (suc (suc zero))) h = refl
tag_in (suc (suc (suc (suc n)))) h = absurd (omega arith)

-- a digit of a number, from what stands below it and above it
digit : (k P m r v q : ℕ) → 0 < P → k ≡ r + P * (v + m * q) → r < P → v < m → k / P % m ≡ v
digit k P m r v q p h hr hv =
    ap (λ (n : ℕ). n / P % m) h
    ∙ ap (λ (n : ℕ). n % m) (add-mul-div_left r (v + m * q) p ∙ ap (λ (n : ℕ). n + (v + m * q)) (div-eq_of_lt hr) ∙ zero-add (v + m * q))
    ∙ add-mul-mod_self_left v m q
    ∙ mod-eq_of_lt hv

-- the fields of a packed answer can be read again
module _ (a b c d x y z w v : ℕ) (ha : a < 2) (hb : b < 32) (hc : c < 8) (hd : d < 8) (hx : x < 4) (hy : y < 4) (hz : z < 2) (hw : w < 8) (hv : v < 4) where
  abbrev all_nine : ℕ
  all_nine = a + b * 256 + c * 65536 + d * 16777216 + (x + y * 256 + z * 65536 + w * 16777216) * 32 + v * 2

  pub unpacked : (q r n l t : ℕ) → event_of q r n l t all_nine ≡ q ∷ r ∷ n ∷ l ∷ t ∷ a ∷ b ∷ c ∷ d ∷ x ∷ y ∷ z ∷ w ∷ 7 ∷ v ∷ []
  unpacked q r n l t =
      let k = all_nine in
      let ea : k % 2 ≡ a = ap (λ (i : ℕ). i % 2) (sym (div-one k)) ∙ digit k 1 2 0 a (v + b * 128 + c * 32768 + d * 8388608 + (x + y * 256 + z * 65536 + w * 16777216) * 16) (omega arith) (omega arith) (omega arith) ha in
      let ev : k / 2 % 4 ≡ v = digit k 2 4 a v (x * 4 + b * 32 + y * 1024 + c * 8192 + z * 262144 + d * 2097152 + w * 67108864) (omega arith) (omega arith) (omega arith) hv in
      let ex : k / 32 % 4 ≡ x = digit k 32 4 (a + v * 2) x (b * 2 + y * 64 + c * 512 + z * 16384 + d * 131072 + w * 4194304) (omega arith) (omega arith) (omega arith) hx in
      let eb : k / 256 % 32 ≡ b = digit k 256 32 (a + v * 2 + x * 32) b (y + c * 8 + z * 256 + d * 2048 + w * 65536) (omega arith) (omega arith) (omega arith) hb in
      let ey : k / 8192 % 4 ≡ y = digit k 8192 4 (a + v * 2 + x * 32 + b * 256) y (c * 2 + z * 64 + d * 512 + w * 16384) (omega arith) (omega arith) (omega arith) hy in
      let ec : k / 65536 % 8 ≡ c = digit k 65536 8 (a + v * 2 + x * 32 + b * 256 + y * 8192) c (z * 4 + d * 32 + w * 1024) (omega arith) (omega arith) (omega arith) hc in
      let ez : k / 2097152 % 2 ≡ z = digit k 2097152 2 (a + v * 2 + x * 32 + b * 256 + y * 8192 + c * 65536) z (d * 4 + w * 128) (omega arith) (omega arith) (omega arith) hz in
      let ed : k / 16777216 % 8 ≡ d = digit k 16777216 8 (a + v * 2 + x * 32 + b * 256 + y * 8192 + c * 65536 + z * 2097152) d (w * 4) (omega arith) (omega arith) (omega arith) hd in
      let ew : k / 536870912 % 8 ≡ w = digit k 536870912 8 (a + v * 2 + x * 32 + b * 256 + y * 8192 + c * 65536 + z * 2097152 + d * 16777216) w 0 (omega arith) (omega arith) (omega arith) hw in
      cc (ea, eb, ec, ed, ex, ey, ez, ew, ev)

-- a test on the rows that pass another test
any_kept : (p q : Row → Bool) (rs : List Row) → any q (kept p rs) ≡ any (λ r. p r && q r) rs
unfolding kept
any_kept p q [] = refl
any_kept p q (r ∷ rs) = go (p r) (any_kept p q rs)
  where
    go : (b : Bool) → any q (kept p rs) ≡ any (λ x. p x && q x) rs → any q (cond b (r ∷ kept p rs) (kept p rs)) ≡ (b && q r) || any (λ x. p x && q x) rs
    go true h = ap (λ (t : Bool). q r || t) h
    go false h = h

-- where none passes, none is kept
none_kept : (p : Row → Bool) (rs : List Row) → any p rs ≡ false → kept p rs ≡ []
unfolding kept
none_kept p [] h = refl
none_kept p (r ∷ rs) h = go (p r) h (none_kept p rs)
  where
    go : (b : Bool) → b || any p rs ≡ false → (any p rs ≡ false → kept p rs ≡ []) → cond b (r ∷ kept p rs) (kept p rs) ≡ []
    go true k f = absurd (true≢false k)
    go false k f = f k

-- the rows that are for the event: its answer, its snoop and some tag state
abbrev pub rows_for : List ℕ → List Row
rows_for e = kept (for_snoop e) (kept (for_answer e) rows)

-- the event with its state after not seen
abbrev plain : List ℕ → List ℕ
plain e =
    request_of e ∷ ret_to_src_of e ∷ do_not_go_to_sd_of e ∷ excl_of e ∷ tag_of e
    ∷ channel_of e ∷ opcode_of e ∷ resp_of e ∷ fwd_state_of e ∷ tag_op_of e ∷ resp_err_of e ∷ forwarded_of e ∷ forwarded_resp_of e
    ∷ 7 ∷ forwarded_err_of e ∷ []

module _ (e : List ℕ) (i : InRange e) where
  abbrev key : ℕ
  key = packed e

  abbrev nine : ℕ
  nine = all_nine (channel_of e) (opcode_of e) (resp_of e) (fwd_state_of e) (tag_op_of e) (resp_err_of e) (forwarded_of e) (forwarded_resp_of e) (forwarded_err_of e)
      i.channel i.opcode i.resp i.fwd_state i.tag_op i.error i.forwarded i.forwarded_resp i.forwarded_err

  -- each half of an answer in range is below 2 to the 32
  key_is : key ≡ nine
  unfolding packed half
  key_is =
      ap₂ (λ (x y : ℕ). x + y * 32 + forwarded_err_of e * 2)
      (mod-eq_of_lt {n = channel_of e + opcode_of e * 256 + resp_of e * 65536 + fwd_state_of e * 16777216} {m = 2 ^ 32} (omega (arith, i.channel, i.opcode, i.resp, i.fwd_state)))
      (mod-eq_of_lt {n = tag_op_of e + resp_err_of e * 256 + forwarded_of e * 65536 + forwarded_resp_of e * 16777216} {m = 2 ^ 32} (omega (arith, i.tag_op, i.error, i.forwarded, i.forwarded_resp)))

  restored : event_of (request_of e) (ret_to_src_of e) (do_not_go_to_sd_of e) (excl_of e) (tag_of e) key ≡ plain e
  restored =
      ap (event_of (request_of e) (ret_to_src_of e) (do_not_go_to_sd_of e) (excl_of e) (tag_of e)) key_is
      ∙ unpacked (channel_of e) (opcode_of e) (resp_of e) (fwd_state_of e) (tag_op_of e) (resp_err_of e) (forwarded_of e) (forwarded_resp_of e) (forwarded_err_of e)
      i.channel i.opcode i.resp i.fwd_state i.tag_op i.error i.forwarded i.forwarded_resp i.forwarded_err
      (request_of e) (ret_to_src_of e) (do_not_go_to_sd_of e) (excl_of e) (tag_of e)

  -- an answer of the rows
  by_fact : key ∈? keys ≡ true
      → right_snoop (kind_of key % 32) (kept (for_answer (event_of 0 0 0 0 0 key)) rows) key (request_of e) (ret_to_src_of e) (do_not_go_to_sd_of e) (excl_of e) (tag_of e) ≡ true
  unfolding right_answer right_snoops
  by_fact h =
      let K = kind_of key % 32 in
      let rs = kept (for_answer (event_of 0 0 0 0 0 key)) rows in
      one_of (λ tag. right_snoop K rs key (request_of e) (ret_to_src_of e) (do_not_go_to_sd_of e) (excl_of e) tag) (tag_of e) tag_seen (tag_in (tag_of e) i.tag)
      (one_of (λ excl. all (λ tag. right_snoop K rs key (request_of e) (ret_to_src_of e) (do_not_go_to_sd_of e) excl tag) tag_seen) (excl_of e) flag (flag_in (excl_of e) i.excl)
      (one_of (λ no_sd. all (λ excl. all (λ tag. right_snoop K rs key (request_of e) (ret_to_src_of e) no_sd excl tag) tag_seen) flag) (do_not_go_to_sd_of e) flag (flag_in (do_not_go_to_sd_of e) i.no_sd)
      (one_of (λ ret. all (λ no_sd. all (λ excl. all (λ tag. right_snoop K rs key (request_of e) ret no_sd excl tag) tag_seen) flag) flag) (ret_to_src_of e) flag (flag_in (ret_to_src_of e) i.ret)
      (one_of (λ request. all (λ ret. all (λ no_sd. all (λ excl. all (λ tag. right_snoop K rs key request ret no_sd excl tag) tag_seen) flag) flag) flag) (request_of e) requests i.request
      (one_of right_answer key keys h all_right)))))

  -- the answer alone is read again too
  answer_alone : event_of 0 0 0 0 0 key ≡ 0 ∷ 0 ∷ 0 ∷ 0 ∷ 0 ∷ channel_of e ∷ opcode_of e ∷ resp_of e ∷ fwd_state_of e ∷ tag_op_of e ∷ resp_err_of e ∷ forwarded_of e ∷ forwarded_resp_of e ∷ 7 ∷ forwarded_err_of e ∷ []
  answer_alone =
      ap (event_of 0 0 0 0 0) key_is
      ∙ unpacked (channel_of e) (opcode_of e) (resp_of e) (fwd_state_of e) (tag_op_of e) (resp_err_of e) (forwarded_of e) (forwarded_resp_of e) (forwarded_err_of e)
      i.channel i.opcode i.resp i.fwd_state i.tag_op i.error i.forwarded i.forwarded_resp i.forwarded_err
      0 0 0 0 0

  listed : key ∈? keys ≡ true → says (effect_of e) e (rows_for e) ≡ true
  unfolding effect_of looked_up half right_snoop says for_answer for_snoop asked answered some_tag tagged duty
  listed h =
      let n = effect_by (request_of e) (flags_of (ret_to_src_of e) (do_not_go_to_sd_of e) (excl_of e) (tag_of e)) (kind_of key % 32) in
      subst (λ (v : List ℕ). says n (plain e) (kept (for_snoop (plain e)) (kept (for_answer v) rows)) ≡ true) answer_alone
      (subst (λ (v : List ℕ). says n v (kept (for_snoop v) (kept (for_answer (event_of 0 0 0 0 0 key)) rows)) ≡ true) restored (by_fact h))

-- an answer that no row has is of kind 0
no_answer : (key : ℕ) → key ∈? keys ≡ false → kind_of key ≡ 0
unfolding kind_of
no_answer key h = go (get_or slots (slot_of key) 0) (all_get_d taken slots (slot_of key) refl all_taken_lem)
  where
    go : (slot : ℕ) → taken slot ≡ true → kind_in slot key ≡ 0
    go slot k = test (eqb (slot % 2 ^ 32) key) refl
      where
        test : (b : Bool) → eqb (slot % 2 ^ 32) key ≡ b → cond b (slot / 2 ^ 32) 0 ≡ 0
        test false q = refl
        test true q = empty (eqb slot 0) refl k
          where
            empty : (b : Bool) → eqb slot 0 ≡ b → b || (slot % 2 ^ 32 ∈? keys) ≡ true → slot / 2 ^ 32 ≡ 0
            empty true z l = ap (λ (n : ℕ). n / 2 ^ 32) (eqb-true slot 0 z) ∙ zero-div (2 ^ 32)
            empty false z l = absurd (true≢false (sym l ∙ ap (λ (n : ℕ). n ∈? keys) (eqb-true (slot % 2 ^ 32) key q) ∙ h))

-- an entry without any set has no effect
no_effect : (entry choice : ℕ) → entry ≡ 0 → effect_in entry choice ≡ 0
no_effect entry choice h =
    ap (λ (n : ℕ). effect_in n choice) h
    ∙ ap₂ (λ (x y : ℕ). x % 256 + y * 256) (zero-div (2 ^ (choice * 8))) (zero-div (2 ^ 32))

-- a row for the event has its answer
row_answer : (e : List ℕ) (r : Row) → keyed r ≡ true → for_answer e r && for_snoop e r ≡ true → packed e ∈? keys ≡ true
unfolding for_answer for_snoop keyed keyed_by some_tag tagged answered packed half
row_answer e r k h =
    let T = r.table in
    let s = r.before in
    let a = r.answer in
    let d = answered e T a in
    let c = asked e T r.ret r.marked in
    let says_so = answered_so e T a (and_left d (c && some_tag e T s a) h) in
    let f = any_found (λ t. seen tag_not_seen (tag_of e) t && tagged e t T s a) tags (and_right c (some_tag e T s a) (and_right d (c && some_tag e T s a) h)) in
    let t = f.one in
    let g = and_right (seen tag_not_seen (tag_of e) t) (tagged e t T s a) f.passes in
    let allowed = and_left (tags_allow t s a) (tag_op_of e ∈? tag_ops t T s a) g in
    let op-in = and_right (tags_allow t s a) (tag_op_of e ∈? tag_ops t T s a) g in
    let errors = (rules_of T).errors a in
    let each = all_at (λ u. not (tags_allow u s a) || all (λ op. all (keyed_by a op) errors) (tag_ops u T s a)) k f.inside in
    let ops = if_then (tags_allow t s a) (all (λ op. all (keyed_by a op) errors) (tag_ops t T s a)) allowed each in
    let at_op = one_of (λ op. all (keyed_by a op) errors) (tag_op_of e) (tag_ops t T s a) op-in ops in
    let at-error = one_of (keyed_by a (tag_op_of e)) (resp_err_of e) errors says_so.error at_op in
    ap (λ (w : List ℕ). packed_by w (tag_op_of e) (resp_err_of e) (forwarded_err_of e) ∈? keys) says_so.shown
    ∙ one_of (λ x. packed_by (wire a) (tag_op_of e) (resp_err_of e) x ∈? keys) (forwarded_err_of e) (on_forward a) says_so.on_forward at-error

-- where no row has the answer, no row is for the event
no_rows : (e : List ℕ) → packed e ∈? keys ≡ false → rows_for e ≡ []
no_rows e h = none_kept (for_snoop e) (kept (for_answer e) rows) (any_kept (for_answer e) (for_snoop e) rows ∙ none (any (λ r. for_answer e r && for_snoop e r) rows) refl)
  where
    none : (b : Bool) → any (λ r. for_answer e r && for_snoop e r) rows ≡ b → b ≡ false
    none false k = refl
    none true k =
        let f = any_found (λ r. for_answer e r && for_snoop e r) rows k in
        absurd (true≢false (sym (row_answer e f.one (all_at keyed all_keyed f.inside) f.passes) ∙ h))

no_rows_effect : (e : List ℕ) → InRange e → packed e ∈? keys ≡ false → effect_of e ≡ 0
unfolding effect_of looked_up
no_rows_effect e i h =
    ap (λ (k : ℕ). effect_by (request_of e) (half e 1) (k % 32)) (no_answer (packed e) h)
    ∙ no_effect (entry_of (request_of e) 0) (choice_of 0 (half e 1)) (eqb-true (entry_of (request_of e) 0) 0 (one_of (λ q. eqb (entry_of q 0) 0) (request_of e) requests i.request no_kind))

none_said : (e : List ℕ) → says 0 e [] ≡ true
unfolding says set_of
none_said e = refl

-- THE EFFECT OF AN EVENT IN RANGE says what the rows for it say.
pub says_so : (e : List ℕ) → InRange e → says (effect_of e) e (rows_for e) ≡ true
says_so e i = go (packed e ∈? keys) refl
  where
    go : (b : Bool) → packed e ∈? keys ≡ b → says (effect_of e) e (rows_for e) ≡ true
    go true h = listed e i h
    go false h = ap₂ (λ (n : ℕ) (rs : List Row). says n e rs) (no_rows_effect e i h) (no_rows e h) ∙ none_said e

-- the parts of `by` in the order in which rows are kept
reordered : (a d c t y : Bool) → a && (d && c && t) && y ≡ d && (c && t && (a && y))
reordered true true true true y = refl
reordered true true true false y = refl
reordered true true false t y = refl
reordered true false c t y = refl
reordered false true true true y = refl
reordered false true true false y = refl
reordered false true false t y = refl
reordered false false c t y = refl

module _ (n s s' : ℕ) (saw rest : Bool) (small : s' < 7) where
  -- the rows from s that lead to s', where all rows name the same states after
  one_set : (rs : List Row) → all (λ r. eqb (to n) (set_of (λ m. m ∈? r.finals)) && rest) rs ≡ true
      → any (λ r. eqb s r.before && ((s' ∈? r.finals) && saw)) rs ≡ any (λ r. eqb s r.before) rs && (bit (to n) s' && saw)
  one_set [] h = refl
  one_set (r ∷ rs) h =
      let p = eqb (to n) (set_of (λ m. m ∈? r.finals)) in
      let q = all (λ x. eqb (to n) (set_of (λ m. m ∈? x.finals)) && rest) rs in
      let first = and_left p (rest) (and_left (p && rest) q h) in
      let in-set : bit (to n) s' ≡ s' ∈? r.finals =
      ap (λ (m : ℕ). bit m s') (eqb-true (to n) (set_of (λ m. m ∈? r.finals)) first) ∙ bit-set_of (λ m. m ∈? r.finals) s' small in
      ap₂ (λ (x y : Bool). (eqb s r.before && (x && saw)) || y) (sym in-set) (one_set rs (and_right (p && rest) q h))
      ∙ or_and (eqb s r.before) (any (λ x. eqb s x.before) rs) (bit (to n) s' && saw)

-- the rows that lead from s to s' are among those for the event
by-rows_for : (e : List ℕ) (s s' : ℕ)
    → any (by e s s') rows ≡ any (λ r. eqb s r.before && ((s' ∈? r.finals) && seen state_not_seen (state_after_of e) s')) (rows_for e)
unfolding by row_fits for_answer for_snoop
by-rows_for e s s' =
    let last : Row → Bool = λ r. eqb s r.before && ((s' ∈? r.finals) && seen state_not_seen (state_after_of e) s') in
    ap (λ (f : Row → Bool). any f rows)
    (fun_ext
    (λ r.
    reordered (eqb s r.before) (answered e r.table r.answer) (asked e r.table r.ret r.marked) (some_tag e r.table r.before r.answer)
    ((s' ∈? r.finals) && seen state_not_seen (state_after_of e) s')))
    ∙ sym (any_kept (for_answer e) (λ r. for_snoop e r && last r) rows)
    ∙ sym (any_kept (for_snoop e) last (kept (for_answer e) rows))

module _ (e : List ℕ) (i : InRange e) where
  abbrev n : ℕ
  n = effect_of e

  -- the duty that is looked up is right
  abbrev duty_right : Bool
  duty_right = eqb (told n) (duty e all_states) && eqb (without_dirty (told n)) (duty e 0)

  from_rows : from n ≡ set_of (λ s. any (λ r. eqb s r.before) (rows_for e))
  unfolding says
  from_rows =
      eqb-true (from n) (set_of (λ s. any (λ r. eqb s r.before) (rows_for e)))
      (and_left (eqb (from n) (set_of (λ s. any (λ r. eqb s r.before) (rows_for e))))
      (all (λ r. eqb (to n) (set_of (λ s. s ∈? r.finals)) && duty_right) (rows_for e))
      (says_so e i))

  to_rows : all (λ r. eqb (to n) (set_of (λ s. s ∈? r.finals)) && duty_right) (rows_for e) ≡ true
  unfolding says
  to_rows =
      and_right (eqb (from n) (set_of (λ s. any (λ r. eqb s r.before) (rows_for e))))
      (all (λ r. eqb (to n) (set_of (λ s. s ∈? r.finals)) && duty_right) (rows_for e))
      (says_so e i)

  bit_from : (s : ℕ) → s < 7 → any (λ r. eqb s r.before) (rows_for e) ≡ bit (from n) s
  bit_from s h = sym (ap (λ (m : ℕ). bit m s) from_rows ∙ bit-set_of (λ x. any (λ r. eqb x r.before) (rows_for e)) s h)

  -- AN EVENT IN RANGE IS A STEP exactly from the states and to the states that are looked up, if they were seen.
  pub looked_steps : (s s' : ℕ) → s < 7 → s' < 7 → steps e s s' ≡ bit (from n) s && (bit (to n) s' && seen state_not_seen (state_after_of e) s')
  looked_steps s s' h k =
      sym (rows_steps e s s')
      ∙ by-rows_for e s s'
      ∙ one_set n s s' (seen state_not_seen (state_after_of e) s') duty_right k (rows_for e) to_rows
      ∙ ap (λ (b : Bool). b && (bit (to n) s' && seen state_not_seen (state_after_of e) s')) (bit_from s h)

  -- the set of states before holds only the seven states
  pub from_below : from n < 128
  from_below = subst (λ (m : ℕ). m < 128) (sym from_rows) (set_of-below (λ s. any (λ r. eqb s r.before) (rows_for e)))

  -- where the event is a step from some state, so does the set of states after, and the duty is the one that is looked up
  pub record LookedDuty : Type 0 where
    pub to_below : to n < 128
    pub with_dirty : told n ≡ duty e all_states
    pub without_dirty : without_dirty (told n) ≡ duty e 0

  pub looked_duty : (s : ℕ) → s < 7 → bit (from n) s ≡ true → LookedDuty
  looked_duty s h k =
      let f = any_found (λ r. eqb s r.before) (rows_for e) (bit_from s h ∙ k) in
      let r = f.one in
      let both = all_at (λ x. eqb (to n) (set_of (λ m. m ∈? x.finals)) && duty_right) to_rows f.inside in
      let p = eqb (to n) (set_of (λ m. m ∈? r.finals)) in
      let a = eqb (told n) (duty e all_states) in
      let b = eqb (without_dirty (told n)) (duty e 0) in
      record {
        to_below = subst (λ (m : ℕ). m < 128) (sym (eqb-true (to n) (set_of (λ m. m ∈? r.finals)) (and_left p duty_right both))) (set_of-below (λ m. m ∈? r.finals));
        with_dirty = eqb-true (told n) (duty e all_states) (and_left a b (and_right p duty_right both));
        without_dirty = eqb-true (without_dirty (told n)) (duty e 0) (and_right a b (and_right p duty_right both));
      }

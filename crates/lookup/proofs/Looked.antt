-- What is looked up is what the rows permit: one fact, computed for every snoop in range and every answer of the rows.
-- Assumes nothing.
use mathlib.Core.Path.{◌≡◌, refl}
use mathlib.Core.Bool.{Bool, true, cond, not, ◌&&◌, ◌||◌}
use mathlib.Core.List.{List, [], ◌∷◌}
use Prim.Native.Nat.{ℕ, ◌+◌, ◌*◌, ◌/◌, ◌%◌, ◌^◌}
use lib.Dec.{eqb}
use Rattle.kinds.specs.Tests.{any, all, ◌∈?◌}
use Rattle.kinds.specs.Codes.{all_states, requests, tags}
use Rattle.kinds.specs.declared.Answer.{Answer}
use Rattle.kinds.specs.Answers.{wire}
use Rattle.sets.specs.Sets.{set_of, bit}
use Rattle.rows.specs.Event.{byte}
use Rattle.rows.specs.Rows.{Row, rows}
use Rattle.rows.specs.Permitted.{asked, answered, tagged, some_tag, tags_allow, tag_ops, on_forward, rules_of}
use Rattle.steps.specs.Steps.{duty}
use Rattle.lookup.specs.Table.{keys, slots}
use Rattle.lookup.specs.Code.{kind_of, entry_of, effect_by, from, to, told, without_dirty}

-- the event with this snoop and this packed answer, whose state after was not seen
abbrev pub event_of : ℕ → ℕ → ℕ → ℕ → ℕ → ℕ → List ℕ
event_of request ret no_sd excl tag key =
    request ∷ ret ∷ no_sd ∷ excl ∷ tag
    ∷ key % 2 ∷ key / 256 % 32 ∷ key / 65536 % 8 ∷ key / 16777216 % 8 ∷ key / 32 % 4 ∷ key / 8192 % 4 ∷ key / 2097152 % 2 ∷ key / 536870912 % 8
    ∷ 7 ∷ key / 2 % 4 ∷ []

-- the flags of a snoop in one number
abbrev pub flags_of : ℕ → ℕ → ℕ → ℕ → ℕ
flags_of ret no_sd excl tag = ret + no_sd * 256 + excl * 65536 + tag * 16777216

-- the rows that pass a test
unfoldable pub kept : (Row → Bool) → List Row → List Row
kept p [] = []
kept p (r ∷ rs) = cond (p r) (r ∷ kept p rs) (kept p rs)

-- the row has the event's answer
unfoldable pub for_answer : List ℕ → Row → Bool
for_answer e r = answered e r.table r.answer

-- the row is for the event's snoop, with some tag state
unfoldable pub for_snoop : List ℕ → Row → Bool
for_snoop e r = asked e r.table r.ret r.marked && some_tag e r.table r.before r.answer

-- an effect says what these rows say of the event: their states before, and for each the states after and the duty, from a set with a
-- Dirty state and from one without
unfoldable pub says : ℕ → List ℕ → List Row → Bool
says n e rs =
    eqb (from n) (set_of (λ s. any (λ r. eqb s r.before) rs))
    && all (λ r. eqb (to n) (set_of (λ s. s ∈? r.finals)) && (eqb (told n) (duty e all_states) && eqb (without_dirty (told n)) (duty e 0))) rs

-- the effect of an answer, of which these are the kind and the rows, says what its rows for a snoop say
unfoldable pub right_snoop : ℕ → List Row → ℕ → ℕ → ℕ → ℕ → ℕ → ℕ → Bool
right_snoop kind rs key request ret no_sd excl tag =
    let e = event_of request ret no_sd excl tag key in
    says (effect_by request (flags_of ret no_sd excl tag) kind) e (kept (for_snoop e) rs)

-- the values of a flag, and of a tag state that may not have been seen
abbrev pub flag : List ℕ
flag = 0 ∷ 1 ∷ []

abbrev pub tag_seen : List ℕ
tag_seen = 0 ∷ 1 ∷ 2 ∷ 3 ∷ []

-- the same for every snoop in range
unfoldable pub right_snoops : ℕ → List Row → ℕ → Bool
right_snoops kind rs key =
    all (λ request. all (λ ret. all (λ no_sd. all (λ excl. all (λ tag. right_snoop kind rs key request ret no_sd excl tag) tag_seen) flag) flag) flag) requests

unfoldable pub right_answer : ℕ → Bool
right_answer key = right_snoops (kind_of key % 32) (kept (for_answer (event_of 0 0 0 0 0 key)) rows) key

-- THE COMPUTED FACT
pub all_right : all right_answer keys ≡ true
unfolding right_answer right_snoops right_snoop says duty for_answer for_snoop kept rows asked answered tagged some_tag set_of bit kind_of
all_right = refl

-- the packed answer, from its six bytes, TagOp, RespErr and the error field of its forwarded data
abbrev pub packed_by : List ℕ → ℕ → ℕ → ℕ → ℕ
packed_by w op error x =
    (byte w 0 + byte w 1 * 256 + byte w 2 * 65536 + byte w 3 * 16777216) % 2 ^ 32
    + (op + error * 256 + byte w 4 * 65536 + byte w 5 * 16777216) % 2 ^ 32 * 32
    + x * 2

-- the answer of a row, with a TagOp and a RespErr, is among the answers with each error field that its forwarded data may have
unfoldable pub keyed_by : Answer → ℕ → ℕ → Bool
keyed_by a op error = all (λ x. packed_by (wire a) op error x ∈? keys) (on_forward a)

-- the answer of every row, with each TagOp and RespErr that the row permits with some tag state, is among the answers
unfoldable pub keyed : Row → Bool
keyed r =
    all
    (λ t.
    not (tags_allow t r.before r.answer)
    || all (λ op. all (keyed_by r.answer op) ((rules_of r.table).errors r.answer)) (tag_ops t r.table r.before r.answer))
    tags

pub all_keyed : all keyed rows ≡ true
unfolding keyed keyed_by rows
all_keyed = refl

-- a slot is empty, or has one of the answers
abbrev pub taken : ℕ → Bool
taken slot = eqb slot 0 || (slot % 2 ^ 32 ∈? keys)

pub all_taken_lem : all taken slots ≡ true
all_taken_lem = refl

-- no request has an entry for kind 0
pub no_kind : all (λ request. eqb (entry_of request 0) 0) requests ≡ true
no_kind = refl

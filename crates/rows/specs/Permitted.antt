-- Which steps the rows permit (definition 5.6 to 5.13).
use Rattle.std.specs.Prelude.{ℕ, Bool, cond, not, ◌&&◌, ◌||◌, List, [], ◌∷◌, eqb}
use Rattle.kinds.specs.Tests.{any, ◌∈?◌, same}
use Rattle.kinds.specs.Codes.{UD, UDP, SD, tag_dirty, tags, tag_not_seen, op_invalid, op_transfer, op_update, OK, DERR, NDERR, requests, resp_pd, fwd_pd}
use Rattle.kinds.specs.Codes.{SnpShared, SnpClean, SnpNotSharedDirty, SnpUnique, SnpCleanInvalid, SnpMakeInvalid, SnpCleanFwd, SnpNotSharedDirtyFwd, SnpPreferUnique, SnpPreferUniqueFwd}
use Rattle.kinds.specs.declared.Answer.{Answer}
use Rattle.kinds.specs.Answers.{wire, present, has_data, forward_of, answer_resp, answer_fwd}
use Rattle.rows.specs.declared.Table.{Table}
use Rattle.rows.specs.declared.Table.TheVariants.{B46, B57, B59, B60, Unique, CleanInvalid, MakeInvalid, NdErr}
use Rattle.rows.specs.Event.{seen, request_of, ret_to_src_of, do_not_go_to_sd_of, excl_of, tag_of, answer_of, tag_op_of, resp_err_of, forwarded_err_of}
use Rattle.rows.specs.Rows.{Row, X, rows}

-- The rules that hold for all rows of a table.
pub record Rules : Type 0 where
  -- the requests that the table is for
  pub asks : List ℕ
  -- the excl that it is for; X for both
  pub excl : ℕ
  -- the RespErr values that an answer may carry
  pub errors : Answer → List ℕ
  -- the TagOp values that an answer with data may carry, by tag state, state before and answer
  pub on_data : ℕ → ℕ → Answer → List ℕ

-- OK, or DERR with data (definition 5.10)
abbrev pub ok_or_derr : Answer → List ℕ
ok_or_derr a = cond (has_data a) (OK ∷ DERR ∷ []) (OK ∷ [])

-- the error fields that forwarded data may have: OK or DERR; without a forward the byte is 0 (definition 5.13)
abbrev pub on_forward : Answer → List ℕ
on_forward a = cond (present (forward_of a)) (OK ∷ DERR ∷ []) (0 ∷ [])

-- with Dirty tags: Update if Resp carries PD, else Transfer; with other tags: Invalid or Transfer, and only Invalid from UDP
-- (definition 5.9)
abbrev pub by_tags : ℕ → ℕ → Answer → List ℕ
by_tags t s a =
    cond (eqb t tag_dirty)
    (cond (resp_pd (answer_resp a)) (op_update ∷ []) (op_transfer ∷ []))
    (cond (eqb s UDP) (op_invalid ∷ []) (op_invalid ∷ op_transfer ∷ []))

-- SnpPreferUniqueFwd uses B4.59 with either excl, and B4.60 too with excl 0 (definition 5.6); the row of NDERR has no data (5.11).
-- The `on_data` of B4.46 and of the three snoops of the bench copy is a house rule, until their printed tag columns are at hand (5.9).
abbrev pub rules_of : Table → Rules
rules_of B46 = record { asks = SnpShared ∷ SnpClean ∷ SnpNotSharedDirty ∷ SnpPreferUnique ∷ []; excl = X; errors = ok_or_derr; on_data = by_tags }
rules_of B57 = record { asks = SnpCleanFwd ∷ SnpNotSharedDirtyFwd ∷ []; excl = X; errors = ok_or_derr; on_data = by_tags }
rules_of B59 = record { asks = SnpPreferUniqueFwd ∷ []; excl = X; errors = ok_or_derr; on_data = by_tags }
rules_of B60 = record { asks = SnpPreferUniqueFwd ∷ []; excl = 0; errors = ok_or_derr; on_data = by_tags }
rules_of Unique = record { asks = SnpUnique ∷ []; excl = X; errors = ok_or_derr; on_data = by_tags }
rules_of CleanInvalid = record { asks = SnpCleanInvalid ∷ []; excl = X; errors = ok_or_derr; on_data = by_tags }
rules_of MakeInvalid = record { asks = SnpMakeInvalid ∷ []; excl = X; errors = ok_or_derr; on_data = by_tags }
rules_of NdErr = record { asks = requests; excl = X; errors = λ a. NDERR ∷ []; on_data = λ t s a. [] }

-- a column (0, 1 or X) fits a flag
abbrev pub fits : ℕ → ℕ → Bool
fits column flag = eqb column X || eqb column flag

-- the row is for the event's snoop: request, excl, RetToSrc and DoNotGoToSD (definition 5.1, 5.6, 5.7)
unfoldable pub asked : List ℕ → Table → ℕ → Bool → Bool
asked e T ret marked =
    (request_of e ∈? (rules_of T).asks)
    && fits (rules_of T).excl (excl_of e)
    && fits ret (ret_to_src_of e)
    && not (marked && eqb (do_not_go_to_sd_of e) 1)

-- the event has the row's answer, a RespErr that it may carry, and an error field that its forwarded data may have (definition 5.10, 5.13)
unfoldable pub answered : List ℕ → Table → Answer → Bool
answered e T a = same (answer_of e) (wire a) && (resp_err_of e ∈? (rules_of T).errors a) && (forwarded_err_of e ∈? on_forward a)

-- the TagOp values that an answer may carry; only Invalid without data (definition 5.9)
abbrev pub tag_ops : ℕ → Table → ℕ → Answer → List ℕ
tag_ops t T s a = cond (has_data a) ((rules_of T).on_data t s a) (op_invalid ∷ [])

-- Dirty tags exist only with UD and SD, and forbid a forward with PD (definition 5.8)
abbrev pub tags_allow : ℕ → ℕ → Answer → Bool
tags_allow t s a = not (eqb t tag_dirty) || ((s ∈? (UD ∷ SD ∷ [])) && not (fwd_pd (answer_fwd a)))

-- the row permits the tag state t and the event's TagOp
unfoldable pub tagged : List ℕ → ℕ → Table → ℕ → Answer → Bool
tagged e t T s a = tags_allow t s a && (tag_op_of e ∈? tag_ops t T s a)

-- the row permits some tag state: the one that was seen, or any of the three if none was seen (definition 6.1)
unfoldable pub some_tag : List ℕ → Table → ℕ → Answer → Bool
some_tag e T s a = any (λ t. seen tag_not_seen (tag_of e) t && tagged e t T s a) tags

-- row r permits the event as a step from s to s' with tag state t
abbrev pub holds : List ℕ → ℕ → ℕ → ℕ → Row → Bool
holds e t s s' r =
    eqb s r.before
    && (s' ∈? r.finals)
    && asked e r.table r.ret r.marked
    && answered e r.table r.answer
    && tagged e t r.table r.before r.answer

-- some row permits the event as a step from s to s' with tag state t
unfoldable pub permitted : List ℕ → ℕ → ℕ → ℕ → Bool
permitted e t s s' = any (holds e t s s') rows

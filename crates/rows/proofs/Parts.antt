-- What `asked` and `answered` mean for an event, part by part.
-- Assumes nothing.
use mathlib.Core.Path.{◌≡◌, refl, ◌∙◌, ap}
use mathlib.Core.Bool.{Bool, true, false, cond, not, ◌&&◌}
use mathlib.Core.List.{List, [], ◌∷◌}
use Prim.Native.Nat.{ℕ}
use borrow.Author.Tests.{not-true}
use lib.Dec.{eqb}
use Rattle.kinds.specs.Tests.{◌∈?◌, same}
use Rattle.kinds.specs.Codes.{OK, DERR, NDERR}
use Rattle.kinds.specs.declared.Answer.{Answer}
use Rattle.kinds.specs.declared.Answer.TheVariants.{SnpResp, SnpRespData, SnpRespDataPtl}
use Rattle.kinds.specs.declared.Forward.TheVariants.{NoForward, CompData}
use Rattle.kinds.specs.Answers.{wire, has_data, answer_resp, answer_fwd}
use Rattle.kinds.proofs.Lists.{one_of, same_equal, and_left, and_right}
use Rattle.rows.specs.declared.Table.{Table}
use Rattle.rows.specs.declared.Table.TheVariants.{B46, B57, B59, B60, Unique, CleanInvalid, MakeInvalid, NdErr}
use Rattle.rows.specs.Event.{byte, request_of, ret_to_src_of, do_not_go_to_sd_of, excl_of, answer_of, resp_of, fwd_state_of, resp_err_of, forwarded_of, forwarded_resp_of, forwarded_err_of}
use Rattle.rows.specs.Permitted.{rules_of, on_forward, fits, asked, answered}

-- `asked`: the table is for the request and the excl, RetToSrc is the row's, and DoNotGoToSD does not forbid the row
pub record AskedSo (e : List ℕ) (T : Table) (ret : ℕ) (marked : Bool) : Type 0 where
  pub request : request_of e ∈? (rules_of T).asks ≡ true
  pub excl : fits (rules_of T).excl (excl_of e) ≡ true
  pub ret_to_src : fits ret (ret_to_src_of e) ≡ true
  pub not_forbidden : not (marked && eqb (do_not_go_to_sd_of e) 1) ≡ true

pub asked_so : (e : List ℕ) (T : Table) (ret : ℕ) (marked : Bool) → asked e T ret marked ≡ true → AskedSo e T ret marked
unfolding asked
asked_so e T ret marked h =
    let a = request_of e ∈? (rules_of T).asks in
    let b = fits (rules_of T).excl (excl_of e) in
    let c = fits ret (ret_to_src_of e) in
    let d = not (marked && eqb (do_not_go_to_sd_of e) 1) in
    let abc = and_left (a && b && c) d h in
    let ab = and_left (a && b) c abc in
    record { request = and_left a b ab; excl = and_right a b ab; ret_to_src = and_right (a && b) c abc; not_forbidden = and_right (a && b && c) d h }

-- the table is that of NDERR
unfoldable pub is_nd_err : Table → Bool
is_nd_err B46 = false
is_nd_err B57 = false
is_nd_err B59 = false
is_nd_err B60 = false
is_nd_err Unique = false
is_nd_err CleanInvalid = false
is_nd_err MakeInvalid = false
is_nd_err NdErr = true

-- `answered`: the event has the row's answer, field by field, a RespErr of the table, and an error field of forwarded data; only the row of
-- NDERR has NDERR
pub record AnsweredSo (e : List ℕ) (T : Table) (a : Answer) : Type 0 where
  pub shown : answer_of e ≡ wire a
  pub resp : resp_of e ≡ answer_resp a
  pub fwd_state : fwd_state_of e ≡ answer_fwd a
  pub forwarded : forwarded_of e ≡ byte (wire a) 4
  pub forwarded_resp : forwarded_resp_of e ≡ byte (wire a) 5
  pub error : resp_err_of e ∈? (rules_of T).errors a ≡ true
  pub nderr : eqb (resp_err_of e) NDERR ≡ is_nd_err T
  pub on_forward : forwarded_err_of e ∈? on_forward a ≡ true

-- bytes 2 and 3 of an answer's six bytes are its Resp and its FwdState
wire_resp : (a : Answer) → byte (wire a) 2 ≡ answer_resp a
wire_resp (SnpResp r NoForward) = refl
wire_resp (SnpResp r (CompData f x)) = refl
wire_resp (SnpRespData r NoForward) = refl
wire_resp (SnpRespData r (CompData f x)) = refl
wire_resp (SnpRespDataPtl r) = refl

wire_fwd : (a : Answer) → byte (wire a) 3 ≡ answer_fwd a
wire_fwd (SnpResp r NoForward) = refl
wire_fwd (SnpResp r (CompData f x)) = refl
wire_fwd (SnpRespData r NoForward) = refl
wire_fwd (SnpRespData r (CompData f x)) = refl
wire_fwd (SnpRespDataPtl r) = refl

-- no answer of a printed table carries NDERR
usual : (n : ℕ) (b : Bool) → n ∈? cond b (OK ∷ DERR ∷ []) (OK ∷ []) ≡ true → eqb n NDERR ≡ false
usual n true h = not-true (eqb n NDERR) (one_of (λ m. not (eqb m NDERR)) n (OK ∷ DERR ∷ []) h refl)
usual n false h = not-true (eqb n NDERR) (one_of (λ m. not (eqb m NDERR)) n (OK ∷ []) h refl)

error_row : (n : ℕ) (T : Table) (a : Answer) → n ∈? (rules_of T).errors a ≡ true → eqb n NDERR ≡ is_nd_err T
unfolding is_nd_err
error_row n B46 a h = usual n (has_data a) h
error_row n B57 a h = usual n (has_data a) h
error_row n B59 a h = usual n (has_data a) h
error_row n B60 a h = usual n (has_data a) h
error_row n Unique a h = usual n (has_data a) h
error_row n CleanInvalid a h = usual n (has_data a) h
error_row n MakeInvalid a h = usual n (has_data a) h
error_row n NdErr a h = one_of (λ m. eqb m NDERR) n (NDERR ∷ []) h refl

pub answered_so : (e : List ℕ) (T : Table) (a : Answer) → answered e T a ≡ true → AnsweredSo e T a
unfolding answered
answered_so e T a h =
    let s = same (answer_of e) (wire a) in
    let x = resp_err_of e ∈? (rules_of T).errors a in
    let y = forwarded_err_of e ∈? on_forward a in
    let both = and_left (s && x) y h in
    let shown = same_equal (answer_of e) (wire a) (and_left s x both) in
    let error = and_right s x both in
    record {
      shown = shown;
      resp = ap (λ (w : List ℕ). byte w 2) shown ∙ wire_resp a;
      fwd_state = ap (λ (w : List ℕ). byte w 3) shown ∙ wire_fwd a;
      forwarded = ap (λ (w : List ℕ). byte w 4) shown;
      forwarded_resp = ap (λ (w : List ℕ). byte w 5) shown;
      error = error;
      nderr = error_row (resp_err_of e) T a error;
      on_forward = and_right (s && x) y h;
    }

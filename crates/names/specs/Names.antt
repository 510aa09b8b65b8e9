-- The names that may stand in each column, with the code of each (definition 8.4).
use Rattle.std.specs.Prelude.{ℕ, suc, ◌+◌, ◌*◌, ◌-◌, Bool, cond, not, ◌&&◌, List, [], ◌∷◌, Option, Some, None, map, eqb, ltb, leb, length, get_or}
use Prim.Native.String.{String}
use Rattle.text.specs.Text.{bytes}
use Rattle.kinds.specs.Tests.{same, all}
use Rattle.kinds.specs.Codes.{SnpShared, SnpClean, SnpNotSharedDirty, SnpUnique, SnpCleanInvalid, SnpMakeInvalid, SnpCleanFwd, SnpNotSharedDirtyFwd, SnpPreferUnique, SnpPreferUniqueFwd}
use Rattle.kinds.specs.Codes.{tag_invalid, tag_clean, tag_dirty, tag_not_seen, op_invalid, op_transfer, op_update, op_match, OK, EXOK, DERR, NDERR}
use Rattle.kinds.specs.Codes.{Fwd_SC, Fwd_UC, Fwd_UD_PD, Fwd_SD_PD, I, UC, UCE, UD, UDP, SC, SD, state_not_seen}
use Rattle.kinds.specs.declared.Answer.{Answer}
use Rattle.kinds.specs.Answers.{SnpResp_I, SnpResp_SC, SnpRespData_I, SnpRespData_SC, SnpRespData_SD, SnpRespData_I_PD, SnpRespData_SC_PD, SnpRespDataPtl_I_PD}
use Rattle.kinds.specs.Answers.{SnpResp_I_Fwded_SC, SnpResp_SC_Fwded_SC, SnpResp_SD_Fwded_SC, SnpResp_I_Fwded_SD_PD, SnpResp_SC_Fwded_SD_PD, SnpResp_I_Fwded_UC, SnpResp_I_Fwded_UD_PD}
use Rattle.kinds.specs.Answers.{SnpRespData_I_Fwded_SC, SnpRespData_SC_Fwded_SC, SnpRespData_SD_Fwded_SC, SnpRespData_I_Fwded_SD_PD, SnpRespData_SC_Fwded_SD_PD, SnpRespData_I_PD_Fwded_SC, SnpRespData_SC_PD_Fwded_SC}

-- a name and its code
pub record Named : Type 0 where
  pub name : List ℕ
  pub code : ℕ

-- a name, written as text, with its code
abbrev pub named : String → ℕ → Named
named text code = record { name = bytes text; code = code }

-- sentinel for a field that its column does not know; no code is as high
abbrev pub unknown : ℕ
unknown = 4294967295

-- a code that may be unknown: none if it is
abbrev pub known_as : ℕ → Option ℕ
known_as code = cond (eqb code unknown) None (Some code)

-- the code of the name that equals the field, or unknown
unfoldable pub code_of : List Named → List ℕ → ℕ
code_of [] field = unknown
code_of (n ∷ ns) field = cond (same field n.name) n.code (code_of ns field)

-- The names of each column, in the order of the header.
-- the ten requests
unfoldable pub request_names : List Named
request_names =
    named "SnpShared" SnpShared ∷
    named "SnpClean" SnpClean ∷
    named "SnpNotSharedDirty" SnpNotSharedDirty ∷
    named "SnpUnique" SnpUnique ∷
    named "SnpCleanInvalid" SnpCleanInvalid ∷
    named "SnpMakeInvalid" SnpMakeInvalid ∷
    named "SnpCleanFwd" SnpCleanFwd ∷
    named "SnpNotSharedDirtyFwd" SnpNotSharedDirtyFwd ∷
    named "SnpPreferUnique" SnpPreferUnique ∷
    named "SnpPreferUniqueFwd" SnpPreferUniqueFwd ∷
    []

-- the two values of RetToSrc, DoNotGoToSD and excl
unfoldable pub flag_names : List Named
flag_names = named "0" 0 ∷ named "1" 1 ∷ []

-- the tag states; ? is not seen
unfoldable pub tag_names : List Named
tag_names = named "Invalid" tag_invalid ∷ named "Clean" tag_clean ∷ named "Dirty" tag_dirty ∷ named "?" tag_not_seen ∷ []

-- a response: its name, and the answer that it means
pub record Response : Type 0 where
  pub name : List ℕ
  pub answer : Answer

-- a response, written as text, with its answer
abbrev pub response : String → Answer → Response
response text answer = record { name = bytes text; answer = answer }

-- the 22 responses, those without a forward first (definition 2.8)
unfoldable pub responses : List Response
responses =
    response "SnpResp_I" SnpResp_I ∷
    response "SnpResp_SC" SnpResp_SC ∷
    response "SnpRespData_I" SnpRespData_I ∷
    response "SnpRespData_SC" SnpRespData_SC ∷
    response "SnpRespData_SD" SnpRespData_SD ∷
    response "SnpRespData_I_PD" SnpRespData_I_PD ∷
    response "SnpRespData_SC_PD" SnpRespData_SC_PD ∷
    response "SnpRespDataPtl_I_PD" SnpRespDataPtl_I_PD ∷
    response "SnpResp_I_Fwded_SC" SnpResp_I_Fwded_SC ∷
    response "SnpResp_SC_Fwded_SC" SnpResp_SC_Fwded_SC ∷
    response "SnpResp_SD_Fwded_SC" SnpResp_SD_Fwded_SC ∷
    response "SnpResp_I_Fwded_SD_PD" SnpResp_I_Fwded_SD_PD ∷
    response "SnpResp_SC_Fwded_SD_PD" SnpResp_SC_Fwded_SD_PD ∷
    response "SnpResp_I_Fwded_UC" SnpResp_I_Fwded_UC ∷
    response "SnpResp_I_Fwded_UD_PD" SnpResp_I_Fwded_UD_PD ∷
    response "SnpRespData_I_Fwded_SC" SnpRespData_I_Fwded_SC ∷
    response "SnpRespData_SC_Fwded_SC" SnpRespData_SC_Fwded_SC ∷
    response "SnpRespData_SD_Fwded_SC" SnpRespData_SD_Fwded_SC ∷
    response "SnpRespData_I_Fwded_SD_PD" SnpRespData_I_Fwded_SD_PD ∷
    response "SnpRespData_SC_Fwded_SD_PD" SnpRespData_SC_Fwded_SD_PD ∷
    response "SnpRespData_I_PD_Fwded_SC" SnpRespData_I_PD_Fwded_SC ∷
    response "SnpRespData_SC_PD_Fwded_SC" SnpRespData_SC_PD_Fwded_SC ∷
    []

-- a response's code is its index in the list, counted from k
abbrev pub numbered : ℕ → List Response → List Named
numbered k [] = []
numbered k (r ∷ rs) = record { name = r.name; code = k } ∷ numbered (suc k) rs

-- the responses as names with codes
unfoldable pub response_names : List Named
response_names = numbered 0 responses

-- the answers of the responses, in the same order
unfoldable pub answers : List Answer
answers = map (λ (r : Response). r.answer) responses

-- the answer of the response with this code; past the last, the first
abbrev pub answer_at : ℕ → Answer
answer_at place = get_or answers place SnpResp_I

-- TagOp
unfoldable pub tag_op_names : List Named
tag_op_names = named "Invalid" op_invalid ∷ named "Transfer" op_transfer ∷ named "Update" op_update ∷ named "Match" op_match ∷ []

-- RespErr
unfoldable pub resp_err_names : List Named
resp_err_names = named "OK" OK ∷ named "EXOK" EXOK ∷ named "DERR" DERR ∷ named "NDERR" NDERR ∷ []

-- the forwards by their FwdState; - is none
unfoldable pub forward_names : List Named
forward_names =
    named "-" 0 ∷
    named "CompData_SC" Fwd_SC ∷
    named "CompData_UC" Fwd_UC ∷
    named "CompData_UD_PD" Fwd_UD_PD ∷
    named "CompData_SD_PD" Fwd_SD_PD ∷
    []

-- the states after; ? is not seen
unfoldable pub final_names : List Named
final_names =
    named "I" I ∷
    named "UC" UC ∷
    named "UCE" UCE ∷
    named "UD" UD ∷
    named "UDP" UDP ∷
    named "SC" SC ∷
    named "SD" SD ∷
    named "?" state_not_seen ∷
    []

-- the code of - in the column fwdErr: no data is forwarded; it is no error field's
abbrev pub no_fwd_err : ℕ
no_fwd_err = 4

-- the error fields of forwarded data, with the names of RespErr; - is none
unfoldable pub fwd_err_names : List Named
fwd_err_names = named "-" no_fwd_err ∷ resp_err_names

-- The pair's field is a number, not a name.
-- the byte of the digit 0
abbrev pub zero_digit : ℕ
zero_digit = 48

-- the byte of the digit 9
abbrev pub nine_digit : ℕ
nine_digit = 57

-- the byte is a digit
abbrev pub is_digit : ℕ → Bool
is_digit b = leb zero_digit b && leb b nine_digit

-- the first byte is 0, and more bytes follow
abbrev pub leading_zero : List ℕ → Bool
leading_zero field = eqb (get_or field 0 0) zero_digit && ltb 1 (length field)

-- the most digits of a pair number
abbrev pub most_digits : ℕ
most_digits = 5

-- 1 to 5 digits without a leading zero
unfoldable pub is_pair : List ℕ → Bool
is_pair field = all is_digit field && ltb 0 (length field) && leb (length field) most_digits && not (leading_zero field)

-- the number that digits stand for, read on from v
unfoldable pub read_decimal : ℕ → List ℕ → ℕ
read_decimal v [] = v
read_decimal v (d ∷ ds) = read_decimal (v * 10 + (d - zero_digit)) ds

-- the pair number, or unknown
unfoldable pub pair_of : List ℕ → ℕ
pair_of field = cond (is_pair field) (read_decimal 0 field) unknown

-- how each column of the header reads a field: pair, request, RetToSrc, DoNotGoToSD, excl, tag, response, TagOp, RespErr, forward, final,
-- fwdErr
unfoldable pub columns : List (List ℕ → ℕ)
columns =
    pair_of ∷
    code_of request_names ∷
    code_of flag_names ∷
    code_of flag_names ∷
    code_of flag_names ∷
    code_of tag_names ∷
    code_of response_names ∷
    code_of tag_op_names ∷
    code_of resp_err_names ∷
    code_of forward_names ∷
    code_of final_names ∷
    code_of fwd_err_names ∷
    []

-- the code of a field in the column with this number, counted from 0; unknown past the last
unfoldable pub in_column : ℕ → List ℕ → ℕ
in_column number = get_or columns number (λ (field : List ℕ). unknown)

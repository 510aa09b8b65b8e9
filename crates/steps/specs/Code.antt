-- What private functions compute. No public claim names this file.
use Rattle.std.specs.Prelude.{ℕ, zero, suc, ◌+◌, ◌-◌, ◌*◌, ◌/◌, ◌%◌, ◌^◌, Bool, cond, ◌&&◌, ◌||◌, List, [], ◌∷◌, get_or, set, eqb}
use Rattle.std.specs.Int.Bits.{bit_and, bit_or}
use Rattle.kinds.specs.Tests.{◌∈?◌}
use Rattle.kinds.specs.Places.{event_length}
use Rattle.kinds.specs.Codes.{RSP, op_SnpRespDataPtl, OK, NDERR, SnpUnique, SnpCleanInvalid, SnpMakeInvalid, SnpPreferUniqueFwd}
use Rattle.kinds.specs.declared.Answer.{Answer}
use Rattle.kinds.specs.declared.Answer.TheVariants.{SnpResp, SnpRespData, SnpRespDataPtl}
use Rattle.kinds.specs.Answers.{forward_at}
use Rattle.sets.specs.Sets.{set_of}
use Rattle.rows.specs.declared.Table.{Table}
use Rattle.rows.specs.declared.Table.TheVariants.{B46, B57, B59, B60, Unique, CleanInvalid, MakeInvalid, NdErr}
use Rattle.steps.specs.declared.Row as code
use Rattle.rows.specs.Event.{byte, request_of, answer_of, resp_err_of}
use Rattle.rows.specs.Rows.{Row}
use Rattle.rows.specs.Permitted.{asked, answered, some_tag}

-- n bytes of an event from offset i, and then all of them
abbrev pub bytes_from : List ℕ → ℕ → ℕ → List ℕ
bytes_from e i zero = []
bytes_from e i (suc n) = byte e i ∷ bytes_from e (suc i) n

abbrev pub event_bytes : List ℕ → List ℕ
event_bytes e = bytes_from e 0 event_length

-- a printed row as the code's type
abbrev pub code_of : Row → code.Row
code_of r = record { table = r.table; before = record { 0 = r.before }; ret = r.ret; answer = r.answer; finals = set_of (λ s. s ∈? r.finals); marked = r.marked }

-- the number of rows
abbrev pub row_count : ℕ
row_count = 96

-- the star's bit in a word; the set of states after lies below it
abbrev pub mark : ℕ
mark = 128

-- The bit at which each column starts; a column has four bits.
abbrev pub at_before : ℕ
at_before = 8

abbrev pub at_ret : ℕ
at_ret = 12

abbrev pub at_table : ℕ
at_table = 16

abbrev pub at_resp : ℕ
at_resp = 20

abbrev pub at_fwd : ℕ
at_fwd = 24

abbrev pub at_message : ℕ
at_message = 28

-- the bit at which the key starts: table (without its lowest bit), Resp, FwdState and message
abbrev pub at_key : ℕ
at_key = at_table + 1

-- the column of a word that starts at bit `place`
abbrev pub column_at : ℕ → ℕ → ℕ
column_at w place = w / 2 ^ place % 16

-- the table with this number
abbrev pub table_at : ℕ → Table
table_at n =
    cond (eqb n 0) B46
    (cond (eqb n 1) B57
    (cond (eqb n 2) B59
    (cond (eqb n 3) B60
    (cond (eqb n 4) Unique
    (cond (eqb n 5) CleanInvalid
    (cond (eqb n 6) MakeInvalid NdErr))))))

-- the answer, from its message, Resp and FwdState
abbrev pub answer_at : ℕ → ℕ → ℕ → Answer
answer_at m r f = cond (eqb m 0) (SnpResp (record { 0 = r }) (forward_at f OK)) (cond (eqb m 1) (SnpRespData (record { 0 = r }) (forward_at f OK)) (SnpRespDataPtl (record { 0 = r })))

-- the row that a word encodes
unfoldable pub row_at : ℕ → code.Row
row_at w =
    record {
      table = table_at (column_at w at_table);
      before = record { 0 = column_at w at_before };
      ret = column_at w at_ret;
      answer = answer_at (column_at w at_message) (column_at w at_resp) (column_at w at_fwd);
      finals = w % mark;
      marked = eqb (w / mark % 2) 1;
    }

-- the row permits the event, from the row's own state before
unfoldable pub row_fits : List ℕ → code.Row → Bool
row_fits e r = answered e r.table r.answer && asked e r.table r.ret r.marked && some_tag e r.table r.before.0 r.answer

-- the states that the row adds to the set of its state before
abbrev pub row_adds : List ℕ → ℕ → code.Row → ℕ
row_adds e among r = cond (row_fits e r) (bit_and r.finals among) 0

-- the seven sets, after the row has added its states
unfoldable pub with_row : List ℕ → ℕ → code.Row → List ℕ → List ℕ
with_row e among r sets = set sets r.before.0 (bit_or (get_or sets r.before.0 0) (row_adds e among r))

-- the key's table part (the table's number halved), by whether RespErr is NDERR and by the request
abbrev pub tables_if : Bool → ℕ → ℕ
tables_if nderr request =
    cond (nderr || eqb request SnpMakeInvalid) 3
    (cond (eqb request SnpUnique || eqb request SnpCleanInvalid) 2 (cond (eqb request SnpPreferUniqueFwd) 1 0))

abbrev pub tables_of : ℕ → ℕ → ℕ
tables_of request error = tables_if (eqb error NDERR) request

-- the key's message part, by channel and opcode
abbrev pub message_of : ℕ → ℕ → ℕ
message_of channel opcode = cond (eqb channel RSP) 0 (cond (eqb opcode op_SnpRespDataPtl) 2 1)

-- the key of a row: the upper bits of its word
abbrev pub row_key : ℕ → ℕ → ℕ → ℕ → ℕ
row_key tables message resp forward =
    tables + 2 ^ (at_resp - at_key) * resp + 2 ^ (at_fwd - at_key) * forward + 2 ^ (at_message - at_key) * message

-- the key, from its table part and the bytes of an answer
unfoldable pub wire_key : ℕ → List ℕ → ℕ
wire_key tables w = row_key tables (message_of (byte w 0) (byte w 1)) (byte w 2) (byte w 3)

-- the key of the event: every row that fits it has this key
abbrev pub event_key : List ℕ → ℕ
event_key e = wire_key (tables_of (request_of e) (resp_err_of e)) (answer_of e)

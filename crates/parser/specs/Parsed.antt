-- A line of the bench sheet as a pair and an event, or the number of its refusal (definition 8.4, 8.7).
use Rattle.std.specs.Prelude.{ℕ, Bool, cond, not, ◌&&◌, List, [], ◌∷◌, ◌++◌, Result, Ok, Err, eqb, ltb, length, take, replicate}
use Rattle.kinds.specs.Tests.{all}
use Rattle.kinds.specs.declared.Forward.{Forward}
use Rattle.kinds.specs.declared.Refusal.{Refusal}
use Rattle.kinds.specs.Refusals.{refusal_number}
use Rattle.kinds.specs.Answers.{forward_at, wire, forward_wire, forward_error}
use Rattle.kinds.specs.Places.{event_length, highest_pair}
use Rattle.fields.specs.Fields.{fields_of}
use Rattle.names.specs.Names.{unknown, answer_at, no_fwd_err, columns}
use Rattle.names.specs.Columns.{pair_code, request_code, ret_to_src_code, do_not_go_to_sd_code, excl_code, tag_code, response_code, tag_op_code, resp_err_code, forward_code, final_code, fwd_err_code}
use Rattle.parser.specs.declared.Line.{Line}

-- the code of each field in its column; a missing field is unknown
abbrev pub codes_of : List (List ℕ → ℕ) → List (List ℕ) → List ℕ
codes_of [] fields = []
codes_of (column ∷ others) [] = unknown ∷ codes_of others []
codes_of (column ∷ others) (field ∷ fields) = column field ∷ codes_of others fields

-- the codes of a line's fields, in the order of the header
abbrev pub line_codes : List ℕ → List ℕ
line_codes line = codes_of columns (fields_of line)

-- the column knows the field
abbrev pub known : ℕ → Bool
known code = not (eqb code unknown)

-- - stands in both of forward and fwdErr, or in neither
abbrev pub dashes_agree : List ℕ → Bool
dashes_agree codes = cond (eqb (forward_code codes) 0) (eqb (fwd_err_code codes) no_fwd_err) (not (eqb (fwd_err_code codes) no_fwd_err))

-- twelve fields, each known in its column, and - in both of forward and fwdErr or in neither
unfoldable pub well_formed : List ℕ → Bool
well_formed line = eqb (length (fields_of line)) (length columns) && all known (line_codes line) && dashes_agree (line_codes line)

-- what a line says is forwarded, by its columns forward and fwdErr
abbrev pub sent_of : List ℕ → Forward
sent_of codes = forward_at (forward_code codes) (fwd_err_code codes)

-- the event's bytes, from the codes of the fields: bytes 5 to 8 come from the response, bytes 11, 12 and 14 from what is forwarded
-- (definition 8.4)
unfoldable pub event_of : List ℕ → List ℕ
event_of codes =
    request_code codes ∷
    ret_to_src_code codes ∷
    do_not_go_to_sd_code codes ∷
    excl_code codes ∷
    tag_code codes ∷
    (take 4 (wire (answer_at (response_code codes)))
    ++ (tag_op_code codes ∷ resp_err_code codes ∷ (forward_wire (sent_of codes) ++ (final_code codes ∷ forward_error (sent_of codes) ∷ []))))

-- a line parsed: its refusal's number, 0 if it is accepted, its pair and its event
pub record Parsed : Type 0 where
  pub number : ℕ
  pub pair : ℕ
  pub event : List ℕ

-- an accepted line: its pair and its event
abbrev pub parsed_as : ℕ → List ℕ → Parsed
parsed_as pair event = record { number = 0; pair = pair; event = event }

-- a refused line: its number, pair 0 and an event of zeros
abbrev pub refused_parse : ℕ → Parsed
refused_parse number = record { number = number; pair = 0; event = replicate event_length 0 }

-- what the code hands back, in numbers
abbrev pub in_numbers : Result Line Refusal → Parsed
in_numbers (Ok line) = parsed_as line.pair.0 line.event
in_numbers (Err refusal) = refused_parse (refusal_number refusal)

-- a line parsed: 8 if it is not well formed, then 3 for a pair above 65,535, else its pair and its event (definition 8.7, 8.8)
unfoldable pub parsed : List ℕ → Parsed
parsed line =
    cond (well_formed line)
    (cond (ltb highest_pair (pair_code (line_codes line))) (refused_parse 3) (parsed_as (pair_code (line_codes line)) (event_of (line_codes line))))
    (refused_parse 8)

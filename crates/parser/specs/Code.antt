-- What functions compute on the way to a parsed line. The claim of `line_of` names this file, and no other public claim.
use Rattle.std.specs.Prelude.{ℕ, ◌+◌, ◌-◌, ◌%◌, cond, List, [], ◌∷◌, Option, Some, None, map, leb, ltb, length, take, drop}
use Rattle.kinds.specs.Tests.{all}
use Rattle.kinds.specs.Places.{highest_pair}
use Rattle.fields.specs.Fields.{field_end}
use Rattle.names.specs.Names.{unknown, in_column}
use Rattle.names.specs.Columns.{pair_code}
use Rattle.parser.specs.declared.Taken.{Taken}
use Rattle.parser.specs.declared.Codes.{Codes}
use Rattle.parser.specs.Parsed.{Parsed, known, line_codes, well_formed, event_of, parsed_as, refused_parse}

-- the field at an offset, read by a column, and the offset behind its comma; past the end of the line unknown, and the same offset
unfoldable pub taken_by : (List ℕ → ℕ) → List ℕ → ℕ → Taken
taken_by column line at =
    cond (leb at (length line))
    (record { code = column (take (field_end line at - at) (drop at line)); next = field_end line at + 1 })
    (record { code = unknown; next = at })

-- the same for the column with this number
unfoldable pub taken_at : ℕ → List ℕ → ℕ → Taken
taken_at number line at = taken_by (in_column number) line at

-- a field, if its column knows it
abbrev pub if_known : Taken → Option Taken
if_known field = cond (known field.code) (Some field) None

-- a field for each column, one after another, each behind the comma of the one before
abbrev pub taken_from : List (List ℕ → ℕ) → List ℕ → ℕ → Codes
taken_from [] line at = record { codes = []; end = at }
taken_from (column ∷ others) line at = record {
  codes = (taken_by column line at).code ∷ (taken_from others line (taken_by column line at).next).codes;
  end = (taken_from others line (taken_by column line at).next).end;
}

-- the codes, if each column knows its field
abbrev pub if_all_known : Codes → Option Codes
if_all_known taken = cond (all known taken.codes) (Some taken) None

-- the codes of a line's fields, if it is well formed
abbrev pub codes_in : List ℕ → Option (List ℕ)
codes_in line = cond (well_formed line) (Some (line_codes line)) None

-- a code modulo 256
abbrev pub as_byte : ℕ → ℕ
as_byte code = code % 256

-- the line that codes stand for: 3 for a pair above 65,535, else the pair, and the event of the codes as bytes
abbrev pub line_of : List ℕ → Parsed
line_of codes = cond (ltb highest_pair (pair_code codes)) (refused_parse 3) (parsed_as (pair_code codes) (event_of (map as_byte codes)))

-- The first line of a text, parsed (definition 8.1, 8.4).
use Rattle.std.specs.Prelude.{ℕ, Bool, cond, ◌&&◌, ◌||◌, List, leb, take, drop}
use Rattle.lines.specs.Lines.{crlf}
use Rattle.lines.specs.Seen.{longest, too_long, reach}
use Rattle.parser.specs.Parsed.{Parsed, in_numbers, refused_parse, parsed}
use Rattle.first_line.specs.declared.FirstLine.{FirstLine}

-- the first line of a text: parsed, the offset at which it ends, and whether its CR LF is there
pub record First : Type 0 where
  pub line : Parsed
  pub end : ℕ
  pub whole : Bool

-- what the code hands back, in numbers
abbrev pub first_in_numbers : FirstLine → First
first_in_numbers found = record { line = in_numbers found.line; end = found.end; whole = found.whole }

-- a line that ends at an offset, parsed if it is to be parsed and is not too long
abbrev pub line_to : Bool → ℕ → List ℕ → Parsed
line_to parse end text = cond (parse && leb end longest) (parsed (take end text)) (refused_parse 8)

-- the line up to its CR LF, or up to too_long bytes of it; it is to be parsed if that is asked for and its end is known, because its CR LF is
-- there or nothing follows the text
unfoldable pub first_line : Bool → Bool → List ℕ → First
first_line asked ended text = record {
  line = line_to (asked && (crlf (drop (reach too_long text) text) || ended)) (reach too_long text) text;
  end = reach too_long text;
  whole = crlf (drop (reach too_long text) text);
}

-- `parser::parse_line` meets its contract: 8 if the line is not well formed, else what its codes stand for.
use Rattle.std.proofs.Common.{◌∙◌}
use Rattle.parser.proofs.Events.{found_ill, found_well}
use Rattle.parser.proofs.parse_line.Goals as goal

pub returns-in_default : goal.returns-in_default
returns-in_default c = found_ill c.args.line.now c.codes_of.result c.codes_of.ensures c.in_default.is

pub returns : goal.returns
returns c = c.line_of.ensures ∙ found_well c.args.line.now c.codes_of.result c.codes_of.ensures c.in-Some.is

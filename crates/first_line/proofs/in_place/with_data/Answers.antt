-- `first_line::in_place::with_data` meets its contract: each name, where it stands.
use Rattle.std.proofs.Common.{rules}
use Rattle.names.specs.Names.{code_of, response_names, responses}
use Rattle.first_line.proofs.Matching.{fields}
use Rattle.first_line.proofs.in_place.with_data.Goals as goal

pub returns : goal.returns
unfolding code_of response_names responses
returns c = search (rules, fields)

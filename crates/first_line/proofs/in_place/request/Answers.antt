-- `first_line::in_place::request` meets its contract: each name, where it stands.
use Rattle.std.proofs.Common.{rules}
use Rattle.names.specs.Names.{code_of, request_names}
use Rattle.first_line.proofs.Matching.{fields}
use Rattle.first_line.proofs.in_place.request.Goals as goal

pub returns : goal.returns
unfolding code_of request_names
returns c = search (rules, fields)

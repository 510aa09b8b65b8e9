-- `names::response` meets its contract: its table has the names of the column.
use Rattle.std.proofs.Common.{refl, ◌∙◌}
use Rattle.names.specs.Names.{responses, response_names}
use Rattle.names.proofs.Laws.{found_known}
use Rattle.names.proofs.response.Goals as goal

pub returns : goal.returns
unfolding responses response_names
returns c = c.code_in.ensures ∙ found_known response_names c.args.field.now refl

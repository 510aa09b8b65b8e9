-- `names::request` meets its contract: its table has the names of the column.
use Rattle.std.proofs.Common.{refl, ◌∙◌}
use Rattle.names.specs.Names.{request_names}
use Rattle.names.proofs.Laws.{found_known}
use Rattle.names.proofs.request.Goals as goal

pub returns : goal.returns
unfolding request_names
returns c = c.code_in.ensures ∙ found_known request_names c.args.field.now refl

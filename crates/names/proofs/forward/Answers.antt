-- `names::forward` meets its contract: its table has the names of the column.
use Rattle.std.proofs.Common.{refl, ◌∙◌}
use Rattle.names.specs.Names.{forward_names}
use Rattle.names.proofs.Laws.{found_known}
use Rattle.names.proofs.forward.Goals as goal

pub returns : goal.returns
unfolding forward_names
returns c = c.code_in.ensures ∙ found_known forward_names c.args.field.now refl

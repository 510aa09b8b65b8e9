-- `names::state_after` meets its contract: its table has the names of the column.
use Rattle.std.proofs.Common.{refl, ◌∙◌}
use Rattle.names.specs.Names.{final_names}
use Rattle.names.proofs.Laws.{found_known}
use Rattle.names.proofs.state_after.Goals as goal

pub returns : goal.returns
unfolding final_names
returns c = c.code_in.ensures ∙ found_known final_names c.args.field.now refl

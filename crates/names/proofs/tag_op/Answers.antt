-- `names::tag_op` meets its contract: its table has the names of the column.
use Rattle.std.proofs.Common.{refl, ◌∙◌}
use Rattle.names.specs.Names.{tag_op_names}
use Rattle.names.proofs.Laws.{found_known}
use Rattle.names.proofs.tag_op.Goals as goal

pub returns : goal.returns
unfolding tag_op_names
returns c = c.code_in.ensures ∙ found_known tag_op_names c.args.field.now refl

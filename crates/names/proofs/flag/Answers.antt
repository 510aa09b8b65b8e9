-- `names::flag` meets its contract: its table has the names of the column.
use Rattle.std.proofs.Common.{refl, ◌∙◌}
use Rattle.names.specs.Names.{flag_names}
use Rattle.names.proofs.Laws.{found_known}
use Rattle.names.proofs.flag.Goals as goal

pub returns : goal.returns
unfolding flag_names
returns c = c.code_in.ensures ∙ found_known flag_names c.args.field.now refl

-- `names::resp_err` meets its contract: its table has the names of the column.
use Rattle.std.proofs.Common.{refl, ◌∙◌}
use Rattle.names.specs.Names.{resp_err_names}
use Rattle.names.proofs.Laws.{found_known}
use Rattle.names.proofs.resp_err.Goals as goal

pub returns : goal.returns
unfolding resp_err_names
returns c = c.code_in.ensures ∙ found_known resp_err_names c.args.field.now refl

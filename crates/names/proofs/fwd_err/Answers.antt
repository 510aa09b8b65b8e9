-- `names::fwd_err` meets its contract: the dash, and behind it the names of RespErr.
use Rattle.std.proofs.Common.{refl, ap, ◌∙◌, Some}
use Rattle.names.specs.Names.{named, no_fwd_err, resp_err_names, fwd_err_names}
use Rattle.names.proofs.Laws.{first_known, others_known}
use Rattle.names.proofs.fwd_err.Goals as goal

pub returns-then-is : goal.returns-then-is
unfolding fwd_err_names
returns-then-is c = ap Some c.into.ensures ∙ first_known (named "-" no_fwd_err) resp_err_names c.args.field.now c.is.ensures c.if-is.true refl

pub returns : goal.returns
unfolding fwd_err_names
returns c = c.resp_err.ensures ∙ others_known (named "-" no_fwd_err) resp_err_names c.args.field.now c.is.ensures c.if-is.false

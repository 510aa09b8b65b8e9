-- `names::code_in` meets its contract: no name before the one that is looked at is the field.
use Rattle.std.proofs.Common.{◌≡◌, drop}
use Rattle.names.specs.Code.{as_names, code_in}
use Rattle.names.proofs.code_in.Given as goal

abbrev pub invariant-loop-name : goal.invariant-loop-name
invariant-loop-name l = code_in (as_names (drop l.name-index l.names)) l.field ≡ code_in (as_names l.names) l.field

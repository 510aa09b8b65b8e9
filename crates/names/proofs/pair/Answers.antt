-- `names::pair` meets its contract: of a field that may be a pair's, the digits decide.
use Rattle.std.proofs.Common.{arith, ◌∙◌}
use borrow.Author.Tests.{ltb-true}
use Rattle.names.proofs.Laws.{pair_known}
use Rattle.names.proofs.pair.Goals as goal

pub returns : goal.returns
returns c = c.digits.ensures ∙ pair_known c.args.field.now (omega arith) (omega arith) (λ l e. grind (arith, ltb-true))

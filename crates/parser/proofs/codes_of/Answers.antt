-- `parser::codes_of` meets its contract: every code is known, nothing is left of the line, and the dashes agree.
use Rattle.std.proofs.Common.{arith, sym, ◌∙◌}
use Rattle.std.proofs.lemmas.Grind.{common_steps}
use borrow.Author.Tests.{lt-ltb}
use Rattle.kinds.proofs.Lists.{and_both}
use Rattle.parser.proofs.Laws.{none_found, ill_found, well_found}
use Rattle.parser.proofs.codes_of.Goals as goal

pub returns-in_err-taken : goal.returns-in_err-taken
returns-in_err-taken c = c.from_residual.ensures ∙ none_found c.args.line.now c.take_all.result c.take_all.ensures c.in_err-taken.was

pub returns-then-dashes_agree : goal.returns-then-dashes_agree
returns-then-dashes_agree c =
    well_found c.args.line.now c.take_all.result c.take_all.ensures c.in_ok-taken.was
    (and_both (lt-ltb _ _ c.if-line-taken.true) (sym c.dashes_agree.ensures ∙ c.if-dashes_agree.true))

pub returns : goal.returns
returns c =
    ill_found c.args.line.now c.take_all.result c.take_all.ensures c.in_ok-taken.was (grind (arith, common_steps))

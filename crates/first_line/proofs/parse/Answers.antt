-- `first_line::parse` meets its contract: a line whose fields are taken in place, or any line.
use mathlib.Core.Path.{sym, ◌∙◌, ap}
use mathlib.Core.Bool.{Bool}
use native.Mathlib.Omega.{arith}
use Rattle.first_line.specs.First.{first_line, first_in_numbers}
use Rattle.first_line.proofs.Good.{first_good}
use Rattle.first_line.proofs.parse.Goals as goal

pub returns-in-Some : goal.returns-in-Some
returns-in-Some c =
    let args = c.args in
    first_good args.text.now 162 (first_in_numbers c.in-Some.good) args.ended (omega arith) c.in-Some.ensures
    ∙ ap (λ (b : Bool). first_line b args.ended args.text.now) (sym c.if-asked.true)

-- `answers::row` meets its contract: the code's answers are those of the definitions.
use Rattle.answers.proofs.Laws.{answer_there}
use Rattle.answers.proofs.row.Goals as goal

pub returns : goal.returns
returns c = answer_there c.args.answer c.requires

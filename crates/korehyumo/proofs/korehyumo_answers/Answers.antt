-- `korehyumo::korehyumo_answers` meets its contract: every count is small.
use Rattle.korehyumo.proofs.Laws.{list_count}
use Rattle.korehyumo.proofs.korehyumo_answers.Goals as goal

pub with_more-requires-clause-more_le_most_answers : goal.with_more-requires-clause-more_le_most_answers
with_more-requires-clause-more_le_most_answers c = list_count _ _ _ c.in-Ok.ensures

-- `answers::context` meets its contract: the tables are one of seven.
use native.Mathlib.Omega.{arith}
use Rattle.answers.proofs.Laws.{few_tables, bit_below}
use Rattle.answers.proofs.context.Goals as goal

pub overflow_add-result-2 : goal.overflow_add-result-2
overflow_add-result-2 c = let h = few_tables c.tables_for-tables.result in let k = bit_below c.eq.result in omega (arith, h, k)

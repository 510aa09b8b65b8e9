-- `judge_sheet::judge` is safe: no more is held than the piece has.
use Rattle.std.proofs.Common.{◌≤◌}
use Rattle.judge_sheet.proofs.judge.Given as goal

abbrev pub invariant-loop : goal.invariant-loop
invariant-loop l = l.run.carried.held ≤ 65536

-- `sheet::judge_event` meets its contract: the set of its pair moves, and the answer is put.
use mathlib.Core.Path.{◌∙◌}
use Rattle.event.proofs.Ranges.{in_range_lem}
use Rattle.verdicts.proofs.Looked.{found_finding}
use Rattle.sheet.proofs.Laws.{answer_put}
use Rattle.sheet.proofs.judge_event.Goals as goal

pub returns : goal.returns
returns c =
    answer_put c.args.lines c.args.at c.put_answer.result c.args.table.now c.args.out.now _ _ c.args.line.pair.0 c.args.line.event c.found-found.result
    c.set_in-before.result c.requires.not_header c.requires.not_too_many c.requires.roomy c.set_in-before.ensures
    (c.found-found.ensures ∙ found_finding c.args.line.event (in_range_lem c.args.line.event c.requires.no_fault) c.set_in-before.result)
    c.put_in.ensures c.put_answer.ensures

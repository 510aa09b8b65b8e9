-- `trace::Trace::judge_on_table` meets its contract: the pair's set is judged, and the set after is put in its place.
use mathlib.Core.Path.{◌∙◌, ap}
use Rattle.verdicts.specs.Looked.{found_by}
use Rattle.trace.proofs.Loop.{on_table}
use Rattle.trace.proofs.Trace.judge_on_table.Goals as goal

pub returns : goal.returns
returns c =
    let by_set = c.found-found.ensures ∙ ap (found_by c.event.result.now) c.set_in.ensures in
    let judged = on_table c.pair_in-pair.result.0 c.event.result.now c.found-found.result c.requires c.pair_in-pair.ensures c.event.ensures by_set in
    record { is_found = judged.is_found; in_table = c.put_in.ensures ∙ judged.in_table }

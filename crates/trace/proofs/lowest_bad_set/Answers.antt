-- `trace::lowest_bad_set` meets its contract: the first bad set behind those that `good_sets` found.
use Rattle.std.proofs.Common.{◌≡◌, sym, ◌∙◌, ◌-◌, rules, tests, length, take, drop}
use Rattle.std.proofs.lemmas.Iterator.{YieldsList-from_slice}
use Rattle.std.proofs.lemmas.Iterator.Search.{position_from_yields_List}
use Rattle.std.specs.List.{position}
use Rattle.trace.specs.Refusals.{is_bad_set}
use Rattle.trace.proofs.Laws.{bad_behind, none_behind}
use Rattle.trace.proofs.lowest_bad_set.Goals as goal

pub returns-in_err-further-clause-lowest : goal.returns-in_err-further-clause-lowest
returns-in_err-further-clause-lowest c =
    let table = c.args.table.now in
    let good = c.good_sets-good.result in
    let found : c.position.result ≡ position is_bad_set (take (length table - good) (drop good table)) =
    position_from_yields_List is_bad_set _ _ c.position.result c.position.ensures.ran (YieldsList-from_slice _ c.iter.ensures.rest)
    (λ x b q k. search (rules, tests)) in
    let e = none_behind c.good_sets-good.ensures (sym c.in_err-further.was ∙ found) in
    search rules

pub returns-clause-lowest : goal.returns-clause-lowest
returns-clause-lowest c =
    let table = c.args.table.now in
    let good = c.good_sets-good.result in
    let found : c.position.result ≡ position is_bad_set (take (length table - good) (drop good table)) =
    position_from_yields_List is_bad_set _ _ c.position.result c.position.ensures.ran (YieldsList-from_slice _ c.iter.ensures.rest)
    (λ x b q k. search (rules, tests)) in
    bad_behind c.good_sets-good.ensures (sym c.in_ok-further.was ∙ found)

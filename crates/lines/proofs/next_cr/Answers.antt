-- `lines::next_cr` meets its contract: the search stops at the first CR, or at the end of what is searched.
use Rattle.std.proofs.Common.{◌≡◌, ap, ◌∙◌, rules, tests, ◌+◌, ◌-◌, drop}
use Rattle.std.proofs.lemmas.Iterator.{YieldsList-from_slice}
use Rattle.std.proofs.lemmas.Iterator.Search.{position_from_yields_List}
use lib.ListN.{take}
use Rattle.std.specs.List.{position}
use Rattle.lines.proofs.Laws.{is_CR, found_CR}
use Rattle.lines.proofs.next_cr.Goals as goal

pub returns : goal.returns
returns c =
    let start = c.args.start in
    let many = c.args.last - start in
    let s = drop start c.args.text.now in
    let found : c.position-cr.result ≡ position is_CR (take many s) =
    position_from_yields_List is_CR _ _ c.position-cr.result c.position-cr.ensures.ran (YieldsList-from_slice _ c.iter.ensures.rest)
    (λ x b q k. search (rules, tests)) in
    ap (λ n. start + n) (c.unwrap_or.ensures ∙ found_CR many s c.position-cr.result found)

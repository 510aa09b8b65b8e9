-- `fields::end_of` meets its contract: past the end of the line, and where the search for a comma stops.
use Rattle.std.proofs.Common.{◌≡◌, ap, sym, ◌∙◌, rules, tests, arith, ℕ, ◌+◌, drop}
use Rattle.std.proofs.lemmas.Iterator.{YieldsList-from_slice}
use Rattle.std.proofs.lemmas.Iterator.Search.{position_from_yields_List}
use lib.Seq.{take_all}
use lib.ListN.{length-drop}
use Rattle.std.specs.List.{position}
use Rattle.fields.proofs.Laws.{end_at_end, is_comma, end_found}
use Rattle.fields.proofs.end_of.Goals as goal

pub returns-in_default : goal.returns-in_default
returns-in_default c = sym (end_at_end c.args.line.now c.args.at (grind arith))

pub returns : goal.returns
returns c =
    let line = c.args.line.now in
    let at = c.args.at in
    let rest = c.in-Some.rest.now in
    let behind : rest ≡ drop at line = c.in-Some.ensures.lookup.0.2 ∙ take_all _ (drop at line) (omega (arith, length-drop {A = ℕ})) in
    let found : c.position-comma.result ≡ position is_comma rest =
    position_from_yields_List is_comma _ _ c.position-comma.result c.position-comma.ensures.ran (YieldsList-from_slice _ c.iter.ensures.rest)
    (λ x b q k. search (rules, tests)) in
    ap (λ n. at + n) c.unwrap_or.ensures ∙ end_found line at rest c.position-comma.result behind found

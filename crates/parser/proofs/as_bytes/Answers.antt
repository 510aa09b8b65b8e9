-- `parser::as_bytes` meets its contract: each code is cut.
use Rattle.std.proofs.Common.{◌≡◌, length, arith, rules, tests, sym, ◌∙◌}
use Rattle.parser.specs.Code.{as_byte}
use Rattle.parser.proofs.Laws.{map_at}
use Rattle.parser.proofs.as_bytes.Goals as goal

pub returns : goal.returns
returns c =
    let many : length c.args.codes ≡ 12 = omega arith in
    map_at as_byte c.args.codes c.map.result (c.map.ensures.items.long ∙ sym many)
    (λ i h. let cut = (c.map.ensures.items.at i 0 0 (omega arith)).2 in search (rules, tests))

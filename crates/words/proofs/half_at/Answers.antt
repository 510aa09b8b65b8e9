-- `words::half_at` meets its contract: where fewer than four bytes are left, those past the end are 0.
use Rattle.std.proofs.Common.{rules, ◌≤◌, ◌+◌, length, arith}
use mathlib.Core.Path.{◌∙◌}
use Rattle.words.specs.Words.{half}
use Rattle.words.proofs.Laws.{half_last}
use Rattle.words.proofs.half_at.Goals as goal
use Rattle.words.proofs.half_at.Goals.{then-bytes-lt4-via-then-bytes-lt4, then-bytes-lt4-via-else-bytes-lt4+then-at-bytes}

pub returns-then-bytes-lt4 : goal.returns-then-bytes-lt4
returns-then-bytes-lt4 c =
    let few : length c.args.bytes.now ≤ c.args.at + 4
    = elim c.then-bytes-lt4.branch [ then-bytes-lt4-via-then-bytes-lt4 w ↦ omega arith | then-bytes-lt4-via-else-bytes-lt4+then-at-bytes w ↦ omega arith ] in
    c.last.ensures ∙ half_last c.args.bytes.now c.args.at few

pub returns : goal.returns
unfolding half
returns c = search rules

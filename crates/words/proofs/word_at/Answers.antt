-- `words::word_at` meets its contract: where fewer than eight bytes are left, those past the end are 0.
use Rattle.std.proofs.Common.{◌≤◌, ◌+◌, length, arith}
use mathlib.Core.Path.{◌∙◌}
use Rattle.words.proofs.Laws.{word_last, word_sum}
use Rattle.words.proofs.word_at.Goals as goal
use Rattle.words.proofs.word_at.Goals.{then-bytes-lt8-via-then-bytes-lt8, then-bytes-lt8-via-else-bytes-lt8+then-at-bytes}

pub returns-then-bytes-lt8 : goal.returns-then-bytes-lt8
returns-then-bytes-lt8 c =
    let few : length c.args.bytes.now ≤ c.args.at + 8
    = elim c.then-bytes-lt8.branch [ then-bytes-lt8-via-then-bytes-lt8 w ↦ omega arith | then-bytes-lt8-via-else-bytes-lt8+then-at-bytes w ↦ omega arith ] in
    c.last.ensures ∙ word_last c.args.bytes.now c.args.at few

pub returns : goal.returns
returns c = c.from_le_bytes.ensures ∙ word_sum c.args.bytes.now c.args.at

-- `first_line::in_place::behind` meets its contract: as many bytes of the text as the name has are the same number.
use Rattle.std.proofs.Common.{length}
use Rattle.first_line.proofs.Matching.{roomy, matched}
use Rattle.first_line.proofs.in_place.behind.Goals as goal

pub returns : goal.returns
returns c =
    let args = c.args in
    matched args.text.now args.name.now c.type_inv.text c.type_inv.name c.if-n-gt-WORD.false
    (roomy args.at (length args.text.now) c.if-not-at_hand.ensures) c.word_at.ensures c.first_bytes.ensures c.word_at-2.ensures c.if-first_bytes-word_at.false

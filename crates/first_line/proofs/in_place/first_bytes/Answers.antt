-- `first_line::in_place::first_bytes` meets its contract: the numbers of so many bytes lie below a power of 256.
use Rattle.first_line.proofs.Matching.{shifted, whole_word}
use Rattle.first_line.proofs.in_place.first_bytes.Goals as goal

pub returns-then-count-lt-WORD : goal.returns-then-count-lt-WORD
returns-then-count-lt-WORD c = shifted c.args.word c.args.count c.if-count-lt-WORD.true

pub returns-else-count-lt-WORD : goal.returns-else-count-lt-WORD
returns-else-count-lt-WORD c = whole_word c.args.word c.args.count c.ranges.word.fits c.if-count-lt-WORD.false

-- `parser::event_of` meets its contract: each byte is its column's, or of what the bus shows of the answer and the forward.
use Rattle.parser.proofs.Laws.{event_parts}
use Rattle.parser.proofs.event_of.Goals as goal

pub returns : goal.returns
returns c =
    event_parts c.args.codes c.wire.result c.wire-2.result c.error.result.0 c.answer.ensures c.wire.ensures c.from_state-forward.ensures
    c.wire-2.ensures c.error.ensures

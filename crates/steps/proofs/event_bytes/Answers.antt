-- `steps::event_bytes` meets its contract: each of the 15 is the event's byte of that number.
use Rattle.std.proofs.Common.{rules, arith}
use borrow.Author.Tests.{tests}
use Rattle.std.proofs.lemmas.List.FromFn.{fill_by_all}
use Rattle.rows.specs.Event.{byte}
use Rattle.steps.proofs.Laws.{made_by}
use Rattle.steps.proofs.event_bytes.Goals as goal

pub returns : goal.returns
returns c =
    fill_by_all (byte c.args.event.now) c.from_fn.result 15 0 c.from_fn.ensures.items.long
    (λ k h. made_by _ _ (byte c.args.event.now) (λ i y q called. search (rules, tests)) c.from_fn.result 0 15 c.from_fn.ensures.items.each k (omega arith) h)

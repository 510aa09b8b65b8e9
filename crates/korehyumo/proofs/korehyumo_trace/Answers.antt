-- `korehyumo::korehyumo_trace` meets its contract: every place is small.
use mathlib.Core.Path.{sym, subst}
use Prim.Native.Nat.{◌<◌}
use Rattle.event.specs.Refusals.{issue_e}
use Rattle.trace.specs.Lent.{Left}
use Rattle.korehyumo.specs.Calls.{places_end}
use Rattle.korehyumo.proofs.Laws.{place_of_trace}
use Rattle.korehyumo.proofs.korehyumo_trace.Goals as goal

pub in_one-requires : goal.in_one-requires
in_one-requires c = subst (λ (l : Left). l.outcome.place < places_end) (sym c.in-Ok.ensures) (place_of_trace issue_e _)

pub in_one-requires-in-Err : goal.in_one-requires-in-Err
in_one-requires-in-Err c = subst (λ (l : Left). l.outcome.place < places_end) (sym c.in-Err.ensures) (place_of_trace issue_e _)

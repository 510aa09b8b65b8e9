-- `event::duties_alone` meets its contract: seven duties, each from its own state.
use mathlib.Core.Path.{refl, ◌∙◌}
use Rattle.kinds.proofs.Lists.{seven}
use Rattle.sets.specs.Sets.{bit}
use Rattle.steps.specs.Steps.{duty_alone}
use Rattle.steps.proofs.Laws.{duty_like}
use Rattle.event.proofs.Laws.{duty_at_lem}
use Rattle.event.proofs.duties_alone.Goals as goal

pub returns : goal.returns
unfolding bit
returns c =
    let e = c.args.event.now in
    seven (duty_alone e) c.duty_from.result c.duty_from-2.result c.duty_from-3.result c.duty_from-4.result
    c.duty_from-5.result c.duty_from-6.result c.duty_from-7.result
    (duty_at_lem e c.args.sets 0 c.duty-clean.result.0 c.duty_from.result c.requires refl c.duty-clean.ensures c.duty_from.ensures)
    (duty_at_lem e c.args.sets 1 c.duty-clean.result.0 c.duty_from-2.result c.requires refl (c.duty-clean.ensures ∙ duty_like e 1 2 refl) c.duty_from-2.ensures)
    (duty_at_lem e c.args.sets 2 c.duty-clean.result.0 c.duty_from-3.result c.requires refl (c.duty-clean.ensures ∙ duty_like e 1 4 refl) c.duty_from-3.ensures)
    (duty_at_lem e c.args.sets 3 c.duty-dirty.result.0 c.duty_from-4.result c.requires refl c.duty-dirty.ensures c.duty_from-4.ensures)
    (duty_at_lem e c.args.sets 4 c.duty-dirty.result.0 c.duty_from-5.result c.requires refl (c.duty-dirty.ensures ∙ duty_like e 8 16 refl) c.duty_from-5.ensures)
    (duty_at_lem e c.args.sets 5 c.duty-clean.result.0 c.duty_from-6.result c.requires refl (c.duty-clean.ensures ∙ duty_like e 1 32 refl) c.duty_from-6.ensures)
    (duty_at_lem e c.args.sets 6 c.duty-dirty.result.0 c.duty_from-7.result c.requires refl (c.duty-dirty.ensures ∙ duty_like e 8 64 refl) c.duty_from-7.ensures)

-- `parser::take_all` meets its contract: each field is read behind the one before, and together they are all fields of the line.
use Rattle.std.proofs.Common.{refl, sym, ap, ◌∙◌}
use Rattle.names.specs.Names.{columns}
use Rattle.parser.specs.Code.{if_known, taken_at}
use Rattle.parser.proofs.Laws.{taken_start, unknown_next, known_next, all_next}
use Rattle.parser.proofs.take_all.Goals as goal

pub loop-number-init : goal.loop-number-init
unfolding columns
loop-number-init c = record { taken = taken_start c.args.line.now _ refl; same = refl }

pub returns-in_err-field : goal.returns-in_err-field
unfolding columns
returns-in_err-field c =
    let i = c.loop-number.invariant in
    c.from_residual.ensures
    ∙ unknown_next i.taken c.loop-number-test.true
    (sym c.in_err-field.was ∙ c.field_at.ensures ∙ ap (λ line. if_known (taken_at c.loop-number.number line c.loop-number.fields.at)) i.same)

pub loop-number-preserved : goal.loop-number-preserved
unfolding columns
loop-number-preserved c =
    let i = c.loop-number.invariant in
    record {
      taken = known_next i.taken c.loop-number-test.true
          (sym c.in_ok-field.was ∙ c.field_at.ensures ∙ ap (λ line. if_known (taken_at c.loop-number.number line c.loop-number.fields.at)) i.same);
      same = i.same;
    }

pub returns : goal.returns
unfolding columns
returns c = all_next c.loop-number.invariant.taken c.loop-number-test.false

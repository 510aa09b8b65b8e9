-- `answers::span` meets its contract: one lookup after another, each within its table.
use mathlib.Core.Path.{sym, ◌∙◌, ap, subst}
use Prim.Native.Nat.{ℕ, ◌<◌, ◌/◌, ◌%◌}
use lib.ListN.{length, get_or}
use Rattle.answers.specs.declared.table.TheConstants.{LISTS}
use Rattle.answers.specs.Table.{spans}
use Rattle.answers.specs.Code.{span_of}
use Rattle.answers.proofs.Laws.{start_there, count_there}
use Rattle.answers.proofs.Whole.{in_lists, list_found, in_spans}
use Rattle.answers.proofs.span.Goals as goal

pub bounds-context : goal.bounds-context
bounds-context c = subst (λ (n : ℕ). n < length LISTS) (sym c.context.ensures) (in_lists c.args.q c.requires)

pub bounds-start-list : goal.bounds-start-list
bounds-start-list c = in_spans c.args.q c.requires c.context.result c.context.ensures

pub bounds-count-list : goal.bounds-count-list
bounds-count-list c = in_spans c.args.q c.requires c.context.result c.context.ensures

pub returns-clause-start : goal.returns-clause-start
unfolding span_of
returns-clause-start c =
    start_there (get_or LISTS c.context.result 0) (in_spans c.args.q c.requires c.context.result c.context.ensures)
    ∙ ap (λ (n : ℕ). get_or spans n 0 / 64) (list_found c.args.q c.requires c.context.result c.context.ensures)

pub returns-clause-count : goal.returns-clause-count
unfolding span_of
returns-clause-count c =
    count_there (get_or LISTS c.context.result 0) (in_spans c.args.q c.requires c.context.result c.context.ensures)
    ∙ ap (λ (n : ℕ). get_or spans n 0 % 64) (list_found c.args.q c.requires c.context.result c.context.ensures)

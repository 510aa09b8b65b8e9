-- `sets::apply` meets its contract.
use Rattle.std.proofs.Common.{rules, ◌≡◌, length, ◌∙◌, ap, sym}
use mathlib.Core.Logic.{◌⊎◌, inl, inr}
use borrow.Author.Tests.{tests}
use lib.Bits.{bit_or, or_zero_r}
use Rattle.sets.proofs.Laws.{left_all, left_none, left_turn}
use Rattle.sets.proofs.apply.Goals as goal

pub loop-state-init : goal.loop-state-init
loop-state-init c =
    let all : length c.args.sets ≡ 7 = search rules in
    let all = left_all c.args.sets c.args.before all in
    cc

pub loop-state-preserved : goal.loop-state-preserved
loop-state-preserved c =
    left_turn c.loop-state.union c.from_state-union.result c.args.before c.in-Some.field-0-1.now _ c.in-Some.field-0-0.now _ _ _ _
    c.in-Some.ensures.steps.0 c.in-Some.ensures.steps.1 (search (rules, tests)) c.loop-state.invariant

pub returns : goal.returns
returns c =
    let out : (length c.loop-state.state-iterator.a.rest.now ≡ 0) ⊎ (length c.loop-state.state-iterator.b.rest.now ≡ 0)
    = elim c.in-None.ensures.steps [ inl w ↦ inl w.1.0 | inr w ↦ inr w.1.0 ] in
    let none = left_none c.loop-state.state-iterator.a.rest.now c.loop-state.state-iterator.b.rest.now c.args.before out in
    sym (or_zero_r c.loop-state.union) ∙ ap (bit_or c.loop-state.union) (sym none) ∙ c.loop-state.invariant

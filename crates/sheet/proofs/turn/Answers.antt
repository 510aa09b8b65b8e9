-- `sheet::turn` meets its contract: what is held is eaten, its rest is moved to the front, and what is left is carried on.
use mathlib.Core.Path.{◌≡◌, refl, sym, ◌∙◌}
use mathlib.Core.Bool.{true, false}
use native.Mathlib.Omega.{arith}
use lib.ListN.{length-take}
use Rattle.sheet.specs.Turns.{wanted, ended_by}
use Rattle.sheet.proofs.Laws.{ate_most, ends_by, turn_is}
use Rattle.sheet.proofs.turn.Goals.{then-carried, else-carried+then-wants_more, else-carried+else-wants_more}
use Rattle.sheet.proofs.turn.Goals as goal

pub copy_within-requires-clause-start_le_end : goal.copy_within-requires-clause-start_le_end
copy_within-requires-clause-start_le_end c =
    omega (arith, ate_most _ _ _ _ _ _ c.eat-ate.ensures, length-take c.min-held.result c.args.piece.now)

pub overflow_sub-next : goal.overflow_sub-next
overflow_sub-next c =
    omega (arith, ate_most _ _ _ _ _ _ c.eat-ate.ensures, length-take c.min-held.result c.args.piece.now)

pub returns : goal.returns
returns c =
    let ended : c.if-carried.ended ≡ ended_by c.args.carried c.args.got =
    elim c.if-carried.branch [
      | then-carried w ↦ w.ended-is ∙ w.if-carried.true ∙ ends_by c.args.carried c.args.got true (wanted c.args.carried) (sym w.if-carried.true) refl
      | else-carried+then-wants_more w ↦ w.ended-is ∙ ends_by c.args.carried c.args.got false true (sym w.if-carried.false) w.if-wants_more.ensures
      | else-carried+else-wants_more w ↦ w.ended-is ∙ w.wants_more.ensures ∙ sym w.if-wants_more.ensures ∙ ends_by c.args.carried c.args.got false false (sym w.if-carried.false) w.if-wants_more.ensures
    ] in
    turn_is c.args.carried c.args.got c.args.piece.now c.args.table.now c.args.out.now ended (omega (arith, c.min-held.ensures, c.saturating_add.ensures))
    c.eat-ate.ensures (grind (arith, c.copy_within.ensures.after, ate_most _ _ _ _ _ _ c.eat-ate.ensures, length-take c.min-held.result c.args.piece.now)) c.answer.ensures

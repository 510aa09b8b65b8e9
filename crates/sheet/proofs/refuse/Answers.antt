-- `sheet::refuse` meets its contract: the refusal's line fits.
use mathlib.Core.Path.{◌∙◌, ap}
use native.Mathlib.Omega.{arith}
use Prim.Native.Nat.{ℕ, ◌+◌}
use Rattle.std.proofs.Common.{rules}
use Rattle.replies.specs.Laid.{laid, lay_all}
use Rattle.replies.specs.Replies.{refusal_texts}
use Rattle.kinds.specs.Refusals.{refusal_number}
use Rattle.sheet.proofs.Laws.{refuse_put}
use Rattle.sheet.proofs.refuse.Goals as goal

pub returns : goal.returns
returns c =
    refuse_put (refusal_number c.args.refusal) c.args.lines c.args.at c.put_refusal.result c.args.out.now _
    (omega (arith, c.from.ensures, c.from.type_inv)) (search rules) c.requires
    (c.put_refusal.ensures ∙ ap (λ (n : ℕ). lay_all (laid c.args.at c.args.out.now) (refusal_texts n (c.args.lines + 1))) c.from.ensures)

-- `words::last` meets its contract: before one more of at most eight bytes the number is below 2 ^ 56.
use Rattle.std.proofs.Common.{arith}
use Rattle.words.proofs.Laws.{read_small}
use Rattle.words.proofs.last.Goals as goal

pub overflow_mul-number : goal.overflow_mul-number
overflow_mul-number c =
    let l = c.loop-byte in
    let each = λ (k : _). (c.type_inv.bytes k).fits in
    omega (arith, read_small _ _ l.number _ _ _ _ each c.requires c.in-Some.ensures.steps l.invariant.1 l.invariant.2)

pub overflow_add-number : goal.overflow_add-number
overflow_add-number c =
    let l = c.loop-byte in
    let each = λ (k : _). (c.type_inv.bytes k).fits in
    omega (arith, read_small _ _ l.number _ _ _ _ each c.requires c.in-Some.ensures.steps l.invariant.1 l.invariant.2)

-- `sets::apply` meets its contract. The invariant: with the sets that are left to ask, the union is that of all.
use mathlib.Core.Path.{◌≡◌}
use lib.Bits.{bit_or}
use Rattle.sets.specs.Sets.{apply}
use Rattle.sets.proofs.Laws.{left}
use Rattle.sets.proofs.apply.Given as goal

abbrev pub invariant-loop-state : goal.invariant-loop-state
invariant-loop-state l = bit_or l.union (left l.state-iterator.a.rest.now l.state-iterator.b.rest.now l.before) ≡ apply l.fn.sets l.fn.before

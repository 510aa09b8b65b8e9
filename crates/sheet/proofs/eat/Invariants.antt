-- `sheet::eat` meets its contract: what is left to eat is what was to be eaten. The measure is the bytes that are held.
use Prim.Native.Nat.{◌-◌}
use lib.ListN.{length}
use Rattle.sheet.specs.Pieces.{held}
use Rattle.sheet.proofs.Laws.{Eating}
use Rattle.sheet.proofs.eat.Given as goal

abbrev pub invariant-loop-next : goal.invariant-loop-next
invariant-loop-next l = Eating l.ended l.piece l.initial.out (held l.piece l.lines l.initial.table l.going) l.table l.out l.taken l.put l.count l.going

abbrev pub decreases-loop-next : goal.decreases-loop-next
decreases-loop-next l = length l.piece - l.taken

-- `lookup::entry_of` meets its contract: the request's entries start at 192 at most, and a kind is below 32.
use Prim.Native.Nat.{◌%◌}
use native.Mathlib.Omega.{arith}
use Rattle.lookup.proofs.Laws.{start_most, entry_in_place}
use Rattle.lookup.proofs.entry_of.Goals as goal

pub bounds-request-2 : goal.bounds-request-2
bounds-request-2 c = omega (arith, start_most (c.args.request % 32))

pub returns : goal.returns
returns c = entry_in_place c.args.request c.args.kind (omega arith) c.requires

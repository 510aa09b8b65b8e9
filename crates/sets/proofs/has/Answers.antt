-- `sets::has` meets its contract: a shift and a remainder are `bit`, and no state past the seventh weight is in a byte.
use native.Mathlib.Omega.{arith}
use mathlib.Core.Path.{◌≡◌, refl}
use mathlib.Core.Bool.{false}
use Rattle.std.proofs.Common.{rules}
use borrow.Author.Tests.{tests}
use Rattle.sets.specs.Sets.{bit}
use Rattle.sets.proofs.Laws.{bit_past}
use Rattle.sets.proofs.has.Goals as goal

pub returns-then-state-lt8 : goal.returns-then-state-lt8
unfolding bit
returns-then-state-lt8 c = refl

pub returns-else-state-lt8 : goal.returns-else-state-lt8
returns-else-state-lt8 c = let past : bit c.args.set c.args.state.0 ≡ false = bit_past c.args.set c.args.state.0 (omega arith) c.if-state-lt8.false in search (rules, tests)

-- `words::last` meets its contract. The invariant: the bytes from the offset on are those left to read, then those read, whose number it has.
use mathlib.Core.Path.{◌≡◌}
use mathlib.Core.List.{List, ◌++◌}
use Prim.Native.Nat.{ℕ}
use lib.ListN.{drop}
use Rattle.words.specs.Words.{word_of}
use Rattle.words.proofs.last.Given as goal

abbrev pub invariant-loop-byte : goal.invariant-loop-byte
invariant-loop-byte l = (read : List ℕ) × (drop l.at l.bytes ≡ l.byte-iterator.iter.rest.now ++ read) × (l.number ≡ word_of read)

-- `answers::put_answers` meets its contract: after k answers those stand at the front of the room.
use Rattle.std.proofs.Common.{◌*◌, ◌≡◌, ◌++◌, map, take, drop}
use Rattle.answers.specs.Listed.{answer_length, joined}
use Rattle.answers.specs.Code.{answer_at}
use Rattle.answers.proofs.put_answers.Given as goal

abbrev pub invariant-loop-k : goal.invariant-loop-k
invariant-loop-k l = l.room ≡ joined (map answer_at (take l.k l.numbers)) ++ drop (answer_length * l.k) l.initial.room

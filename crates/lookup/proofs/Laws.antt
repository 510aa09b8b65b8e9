-- The code's tables are the lists of the definitions, without the 256 zeros that two of them start with.
-- Assumes nothing.
use Prim.Native.Nat.{ℕ, ◌+◌, ◌*◌, ◌/◌, ◌%◌, ◌^◌, ◌<◌, ◌≤◌}
use mathlib.Core.Path.{◌≡◌, refl, sym, ◌∙◌, ap}
use mathlib.Core.List.{List}
use native.Mathlib.Omega.{arith}
use borrow.Author.Tests.{eqb-true, leb-true}
use lib.Dec.{eqb, leb}
use lib.ListN.{get_or, drop}
use lib.Seq.{get_or-drop}
use Rattle.kinds.proofs.Lists.{each_below}
use Rattle.steps.proofs.Passing.{all_get_d}
use Rattle.lookup.specs.Table.{factor, slots, starts, choices, entries}
use Rattle.lookup.specs.Code.{kind_in, kind_of, entry_of}
use Rattle.lookup.specs.declared.table.TheConstants.{SLOTS, STARTS, CHOICES, ENTRIES}

from_256 : (table list : List ℕ) → drop 256 list ≡ table → (n : ℕ) → get_or table n 0 ≡ get_or list (n + 256) 0
from_256 table list h n = ap (λ (l : List ℕ). get_or l n 0) (sym h) ∙ get_or-drop 256 list n 0 ∙ ap (λ (i : ℕ). get_or list i 0) (omega arith)

pub slot_there : (n : ℕ) → get_or SLOTS n 0 ≡ get_or slots (n + 256) 0
slot_there = from_256 SLOTS slots refl

pub entry_there : (n : ℕ) → get_or ENTRIES n 0 ≡ get_or entries (n + 256) 0
entry_there = from_256 ENTRIES entries refl

pub start_there : (n : ℕ) → n < 32 → get_or STARTS n 0 + 256 ≡ get_or starts n 0
start_there n h = eqb-true _ _ (each_below (λ (k : ℕ). eqb (get_or STARTS k 0 + 256) (get_or starts k 0)) 32 refl n h)

pub choices_there : CHOICES ≡ choices
choices_there = refl

-- where the entries of a request start, 192 at most
pub start_most : (n : ℕ) → get_or STARTS n 0 ≤ 192
start_most n = leb-true (get_or STARTS n 0) 192 (all_get_d (λ m. leb m 192) STARTS n refl refl)

-- the kind of an answer by the code's slots
pub kind_there : (answer : ℕ) → kind_of answer ≡ kind_in (get_or SLOTS (answer % 2 ^ 32 * factor / 2 ^ 24 % 256) 0) answer
unfolding kind_of
kind_there answer = ap (λ (slot : ℕ). kind_in slot answer) (sym (slot_there (answer % 2 ^ 32 * factor / 2 ^ 24 % 256)))

-- an entry by the code's starts and entries
pub entry_in_place : (request kind : ℕ) → request % 32 < 32 → kind < 32 → get_or ENTRIES (get_or STARTS (request % 32) 0 + kind) 0 ≡ entry_of request kind
entry_in_place request kind h k =
    let small : get_or STARTS (request % 32) 0 + kind + 256 ≡ (get_or starts (request % 32) 0 + kind) % 512 =
    omega (arith, start_there (request % 32) h, start_most (request % 32)) in
    entry_there (get_or STARTS (request % 32) 0 + kind) ∙ ap (λ (i : ℕ). get_or entries i 0) small

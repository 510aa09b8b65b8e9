-- Each refusal has a number of its own, and none has 0 (definition 4.1).
-- Assumes nothing.
use mathlib.Core.Path.{◌≡◌, refl, sym, ap}
use Prim.Native.Nat.{ℕ}
use Rattle.std.specs.Prelude.{cond, eqb, ⊤, Option, Some, None, Result, Ok, Err}
use Rattle.kinds.specs.Refusals.{refusal_number, number_of}
use Rattle.kinds.specs.declared.Refusal.{Refusal}
use Rattle.kinds.specs.declared.Refusal.TheVariants.{Lengths, Set, Pair, Range, Request, Header, Line, Fields, Room}

-- the refusal with a number
abbrev refusal_at : ℕ → Option Refusal
refusal_at n =
    cond (eqb n 1) (Some Lengths)
    (cond (eqb n 2) (Some Set)
    (cond (eqb n 3) (Some Pair)
    (cond (eqb n 4) (Some Range)
    (cond (eqb n 5) (Some Request)
    (cond (eqb n 6) (Some Header)
    (cond (eqb n 7) (Some Line)
    (cond (eqb n 8) (Some Fields)
    (cond (eqb n 9) (Some Room) None))))))))

at_number : (r : Refusal) → refusal_at (refusal_number r) ≡ Some r
at_number Lengths = refl
at_number Set = refl
at_number Pair = refl
at_number Range = refl
at_number Request = refl
at_number Header = refl
at_number Line = refl
at_number Fields = refl
at_number Room = refl

-- THE NUMBER OF A REFUSAL IS ONE TO ONE.
pub one_to_one : {r s : Refusal} → refusal_number r ≡ refusal_number s → r ≡ s
one_to_one {r} {s} h = cc (at_number r, at_number s, ap refusal_at h)

-- no refusal has 0, the number of an answer that is accepted
pub not_accepted : (r : Refusal) → refusal_number r ≡ 0 → ⊥
not_accepted r h = cc (at_number r, ap refusal_at h)

-- Of a call that returns nothing else, the number fixes the result.
pub same_number_of : (r s : Result ⊤ Refusal) → number_of r ≡ number_of s → r ≡ s
same_number_of (Ok a) (Ok b) h = refl
same_number_of (Ok a) (Err s) h = absurd (not_accepted s (sym h))
same_number_of (Err r) (Ok b) h = absurd (not_accepted r h)
same_number_of (Err r) (Err s) h = ap (λ (x : Refusal). Err x) (one_to_one h)

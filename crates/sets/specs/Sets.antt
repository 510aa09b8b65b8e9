-- A set of states is a byte: state n adds 2 to the n (definition 2.2).
use Rattle.std.specs.Prelude.{ℕ, ◌+◌, ◌*◌, ◌/◌, ◌%◌, ◌^◌, Bool, cond, ◌&&◌, List, [], ◌∷◌, map, eqb, get_or}
use Rattle.std.specs.Int.Bits.{bit_or}
use Rattle.kinds.specs.Tests.{any}
use Rattle.kinds.specs.Codes.{I, UC, UCE, UD, UDP, SC, SD, states, dirty}

-- 1 if the test is true, else 0
abbrev pub one : Bool → ℕ
one b = cond b 1 0

-- the set of all states that pass the test
unfoldable pub set_of : (ℕ → Bool) → ℕ
set_of p = one (p I) * 1 + one (p UC) * 2 + one (p UCE) * 4 + one (p UD) * 8 + one (p UDP) * 16 + one (p SC) * 32 + one (p SD) * 64

-- state n is in the set m
unfoldable pub bit : ℕ → ℕ → Bool
bit m n = eqb (m / 2 ^ n % 2) 1

-- the set holds a Dirty state
abbrev pub holds_dirty : ℕ → Bool
holds_dirty m = any (λ s. dirty s && bit m s) states

-- the union of sets
abbrev pub union : List ℕ → ℕ
union [] = 0
union (m ∷ ms) = bit_or m (union ms)

-- given one set per state, the union of the sets of all states in m
unfoldable pub apply : List ℕ → ℕ → ℕ
apply sets m = union (map (λ s. cond (bit m s) (get_or sets s 0) 0) states)

-- Lists of bytes sorted, each once: sorting changes no member.
-- Assumes nothing.
use mathlib.Core.Path.{◌≡◌, refl, sym, ◌∙◌, ap, ap₂}
use mathlib.Core.Bool.{Bool, true, false, cond, ◌&&◌, ◌||◌, false≢true, or_self_left}
use mathlib.Core.List.{List, [], ◌∷◌}
use Prim.Native.Nat.{ℕ}
use borrow.Author.Tests.{eqb-true}
use lib.Dec.{eqb, ltb}
use Rattle.kinds.specs.Tests.{any, same}
use Rattle.kinds.proofs.Lists.{and_left, and_right, same_equal}

-- how two lists of bytes lie to each other
pub data Order : Type 0 where
  first : Order
  equal : Order
  later : Order

abbrev pub by_order : {A : Type 0} → Order → A → A → A → A
by_order first x y z = x
by_order equal x y z = y
by_order later x y z = z

unfoldable pub order : List ℕ → List ℕ → Order
order [] [] = equal
order [] (y ∷ ys) = first
order (x ∷ xs) [] = later
order (x ∷ xs) (y ∷ ys) = cond (ltb x y) first (cond (eqb x y) (order xs ys) later)

-- a list put into its place among sorted ones, unless it is there
unfoldable pub insert : List ℕ → List (List ℕ) → List (List ℕ)
insert l [] = l ∷ []
insert l (m ∷ ms) = by_order (order l m) (l ∷ m ∷ ms) (m ∷ ms) (m ∷ insert l ms)

unfoldable pub sorted : List (List ℕ) → List (List ℕ)
sorted [] = []
sorted (l ∷ ls) = insert l (sorted ls)

-- the two lists are the same, list by list
unfoldable pub alike : List (List ℕ) → List (List ℕ) → Bool
alike [] [] = true
alike [] (m ∷ ms) = false
alike (l ∷ ls) [] = false
alike (l ∷ ls) (m ∷ ms) = same l m && alike ls ms

pub alike_equal : (ls ms : List (List ℕ)) → alike ls ms ≡ true → ls ≡ ms
unfolding alike
alike_equal [] [] h = refl
alike_equal [] (m ∷ ms) h = absurd (false≢true h)
alike_equal (l ∷ ls) [] h = absurd (false≢true h)
alike_equal (l ∷ ls) (m ∷ ms) h =
    ap₂ ◌∷◌ (same_equal l m (and_left (same l m) (alike ls ms) h)) (alike_equal ls ms (and_right (same l m) (alike ls ms) h))

-- whether two lists lie so
is_equal : Order → Bool
is_equal first = false
is_equal equal = true
is_equal later = false

order_equal : (l m : List ℕ) → is_equal (order l m) ≡ true → l ≡ m
unfolding order is_equal
order_equal [] [] h = refl
order_equal [] (y ∷ ys) h = absurd (false≢true h)
order_equal (x ∷ xs) [] h = absurd (false≢true h)
order_equal (x ∷ xs) (y ∷ ys) h = go (ltb x y) (eqb x y) refl h (order_equal xs ys)
  where
    go : (b e : Bool) → eqb x y ≡ e → is_equal (cond b first (cond e (order xs ys) later)) ≡ true → (is_equal (order xs ys) ≡ true → xs ≡ ys) → x ∷ xs ≡ y ∷ ys
    go true e p k rest = absurd (false≢true k)
    go false true p k rest = ap₂ ◌∷◌ (eqb-true x y p) (rest k)
    go false false p k rest = absurd (false≢true k)

-- of three tests the first two exchanged
or_exchanged : (a b c : Bool) → a || (b || c) ≡ b || (a || c)
or_exchanged true true c = refl
or_exchanged true false c = refl
or_exchanged false b c = refl

insert_members : (a l : List ℕ) (ms : List (List ℕ)) → any (same a) (insert l ms) ≡ same a l || any (same a) ms
unfolding insert is_equal
insert_members a l [] = refl
insert_members a l (m ∷ ms) = go (order l m) refl (insert_members a l ms)
  where
    go : (o : Order) → order l m ≡ o → any (same a) (insert l ms) ≡ same a l || any (same a) ms
        → any (same a) (by_order o (l ∷ m ∷ ms) (m ∷ ms) (m ∷ insert l ms)) ≡ same a l || (same a m || any (same a) ms)
    go first e rest = refl
    go equal e rest =
        sym (or_self_left (same a m) (any (same a) ms))
        ∙ ap (λ (x : List ℕ). same a x || (same a m || any (same a) ms)) (sym (order_equal l m (ap is_equal e)))
    go later e rest = ap (λ (b : Bool). same a m || b) rest ∙ or_exchanged (same a m) (same a l) (any (same a) ms)

pub sorted_members : (a : List ℕ) (ls : List (List ℕ)) → any (same a) (sorted ls) ≡ any (same a) ls
unfolding sorted
sorted_members a [] = refl
sorted_members a (l ∷ ls) = insert_members a l (sorted ls) ∙ ap (λ (b : Bool). same a l || b) (sorted_members a ls)

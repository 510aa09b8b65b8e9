-- What `choices`, `all_below` and `keep` hold, and that they ascend.
-- Assumes nothing.
use mathlib.Core.Path.{◌≡◌, refl, sym, ◌∙◌, ap, ap₂, subst}
use mathlib.Core.Bool.{Bool, true, false, cond, ◌&&◌, ◌||◌, false≢true, and-false, or_assoc, and-or_distrib_left, and-or_distrib_right}
use mathlib.Core.List.{List, [], ◌∷◌, ◌++◌, map}
use Prim.Native.Nat.{ℕ, zero, suc, ◌+◌, ◌<◌, ◌≤◌}
use native.Mathlib.Nat.{zero-add}
use native.Mathlib.Omega.{arith}
use borrow.Author.Tests.{ltb-true, eqb-true, eqb-false, lt-ltb}
use lib.Dec.{eqb, ltb, eqb-zero-suc, eqb-suc-zero, eqb-suc-suc}
use lib.ListN.{length}
use Rattle.kinds.specs.Tests.{any, all, same, ◌∈?◌}
use Rattle.kinds.proofs.Lists.{and_left, and_right, and_both, or_left, same_truth, same_equal, all_append}
use Rattle.rows.specs.Event.{byte}
use Rattle.event.specs.Refusals.{below}
use Rattle.answers.specs.Answers.{numbers_from, in_front, choices, all_below, keep}
use Rattle.answers.specs.Ascending.{comes_before, ascending}
use Rattle.answers.proofs.Ascending.{behind_same}

-- `any` of two lists joined; of `all` it is `all_append` of kinds
pub any_append : {A : Type 0} (p : A → Bool) (xs ys : List A) → any p (xs ++ ys) ≡ any p xs || any p ys
any_append p [] ys = refl
any_append p (x ∷ xs) ys = ap (λ (b : Bool). p x || b) (any_append p xs ys) ∙ sym (or_assoc (p x) (any p xs) (any p ys))

-- a list among those with the number x in front
front_members : (x y : ℕ) (ys : List ℕ) (ls : List (List ℕ)) → any (same (y ∷ ys)) (map (λ l. x ∷ l) ls) ≡ eqb y x && any (same ys) ls
front_members x y ys [] = sym (and-false (eqb y x))
front_members x y ys (l ∷ ls) =
    ap (λ (b : Bool). (eqb y x && same ys l) || b) (front_members x y ys ls)
    ∙ sym (and-or_distrib_left (eqb y x) (same ys l) (any (same ys) ls))

front_no_empty : (x : ℕ) (ls : List (List ℕ)) → any (same []) (map (λ l. x ∷ l) ls) ≡ false
front_no_empty x [] = refl
front_no_empty x (l ∷ ls) = front_no_empty x ls

in_front-members : (c : List ℕ) (y : ℕ) (ys : List ℕ) (ls : List (List ℕ)) → any (same (y ∷ ys)) (in_front c ls) ≡ (y ∈? c) && any (same ys) ls
in_front-members [] y ys ls = refl
in_front-members (x ∷ c) y ys ls =
    any_append (same (y ∷ ys)) (map (λ l. x ∷ l) ls) (in_front c ls)
    ∙ ap₂ ◌||◌ (front_members x y ys ls) (in_front-members c y ys ls)
    ∙ sym (and-or_distrib_right (eqb y x) (y ∈? c) (any (same ys) ls))

in_front-no_empty : (c : List ℕ) (ls : List (List ℕ)) → any (same []) (in_front c ls) ≡ false
in_front-no_empty [] ls = refl
in_front-no_empty (x ∷ c) ls =
    any_append (same []) (map (λ l. x ∷ l) ls) (in_front c ls) ∙ ap₂ ◌||◌ (front_no_empty x ls) (in_front-no_empty c ls)

-- each byte from offset i on is one of its choice
abbrev pub chosen : List (List ℕ) → List ℕ → ℕ → Bool
chosen [] a i = true
chosen (c ∷ cs) a i = (byte a i ∈? c) && chosen cs a (suc i)

chosen_behind : (cs : List (List ℕ)) (x : ℕ) (a : List ℕ) (i : ℕ) → chosen cs (x ∷ a) (suc i) ≡ chosen cs a i
chosen_behind [] x a i = refl
chosen_behind (c ∷ cs) x a i = ap (λ (b : Bool). (byte a i ∈? c) && b) (chosen_behind cs x a (suc i))

exchanged : (a b c : Bool) → a && (b && c) ≡ b && (a && c)
exchanged true b c = refl
exchanged false true c = refl
exchanged false false c = refl

-- the members of `choices`: lists of that length with each number of its choice
pub choices_members : (cs : List (List ℕ)) (a : List ℕ) → any (same a) (choices cs) ≡ eqb (length a) (length cs) && chosen cs a 0
choices_members [] [] = refl
choices_members [] (x ∷ a) = sym (ap (λ (b : Bool). b && true) (eqb-suc-zero (length a)))
choices_members (c ∷ cs) [] = in_front-no_empty c (choices cs) ∙ sym (ap (λ (b : Bool). b && chosen (c ∷ cs) [] 0) (eqb-zero-suc (length cs)))
choices_members (c ∷ cs) (x ∷ a) =
    in_front-members c x a (choices cs)
    ∙ ap (λ (b : Bool). (x ∈? c) && b) (choices_members cs a)
    ∙ exchanged (x ∈? c) (eqb (length a) (length cs)) (chosen cs a 0)
    ∙ ap₂ (λ (b d : Bool). b && ((x ∈? c) && d)) (sym (eqb-suc-suc (length a) (length cs))) (sym (chosen_behind cs x a 0))

-- the numbers from k on, n of them
numbers_in : (k n x : ℕ) → k ≤ x → x < k + n → x ∈? numbers_from k n ≡ true
numbers_in k zero x h l = absurd (omega arith)
numbers_in k (suc n) x h l = go (eqb x k) refl (numbers_in (suc k) n x)
  where
    go : (b : Bool) → eqb x k ≡ b → (suc k ≤ x → x < suc k + n → x ∈? numbers_from (suc k) n ≡ true) → b || x ∈? numbers_from (suc k) n ≡ true
    go true e rest = refl
    go false e rest = let other : x ≡ k → ⊥ = eqb-false x k e in rest (omega (arith, other)) (omega arith)

numbers_only : (k n x : ℕ) → x ∈? numbers_from k n ≡ true → x < k + n
numbers_only k zero x h = absurd (false≢true h)
numbers_only k (suc n) x h = go (eqb x k) refl h (numbers_only (suc k) n x)
  where
    go : (b : Bool) → eqb x k ≡ b → b || x ∈? numbers_from (suc k) n ≡ true → (x ∈? numbers_from (suc k) n ≡ true → x < suc k + n) → x < k + suc n
    go true e r rest = omega (arith, eqb-true x k e)
    go false e r rest = omega (arith, rest r)

below_number : (n x : ℕ) → x ∈? numbers_from 0 n ≡ ltb x n
below_number n x =
    same_truth (x ∈? numbers_from 0 n) (ltb x n)
    (λ h. lt-ltb x n (subst (λ (m : ℕ). x < m) (zero-add n) (numbers_only 0 n x h)))
    (λ h. numbers_in 0 n x (omega arith) (omega (arith, ltb-true x n h)))

pub chosen_below : (limits a : List ℕ) (i : ℕ) → chosen (map (numbers_from 0) limits) a i ≡ below a i limits
chosen_below [] a i = refl
chosen_below (l ∷ ls) a i = ap₂ ◌&&◌ (below_number l (byte a i)) (chosen_below ls a (suc i))

length_each : (limits : List ℕ) → length (map (numbers_from 0) limits) ≡ length limits
length_each [] = refl
length_each (l ∷ ls) = ap suc (length_each ls)

-- the members of `all_below`: lists as long as the limits, with each byte below its limit
pub all_below-members : (limits a : List ℕ) → any (same a) (all_below limits) ≡ eqb (length a) (length limits) && below a 0 limits
unfolding all_below
all_below-members limits a =
    choices_members (map (numbers_from 0) limits) a ∙ ap₂ (λ (n : ℕ) (b : Bool). eqb (length a) n && b) (length_each limits) (chosen_below limits a 0)

-- the members of `keep`: those that pass the test
pub keep_members : (p : List ℕ → Bool) (ls : List (List ℕ)) (a : List ℕ) → any (same a) (keep p ls) ≡ p a && any (same a) ls
keep_members p [] a = sym (and-false (p a))
keep_members p (l ∷ ls) a = go (p l) (same a l) refl refl (keep_members p ls a)
  where
    go : (b s : Bool) → p l ≡ b → same a l ≡ s → any (same a) (keep p ls) ≡ p a && any (same a) ls
        → any (same a) (cond b (l ∷ keep p ls) (keep p ls)) ≡ p a && (same a l || any (same a) ls)
    go true true h e rest =
        or_left (any (same a) (keep p ls)) e
        ∙ sym (and_both (ap p (same_equal a l e) ∙ h) (or_left (any (same a) ls) e))
    go true false h e rest =
        ap (λ (x : Bool). x || any (same a) (keep p ls)) e
        ∙ rest
        ∙ ap (λ (x : Bool). p a && (x || any (same a) ls)) (sym e)
    go false true h e rest =
        let fails = ap p (same_equal a l e) ∙ h in
        rest ∙ ap (λ (x : Bool). x && any (same a) ls) fails ∙ sym (ap (λ (x : Bool). x && (same a l || any (same a) ls)) fails)
    go false false h e rest = rest ∙ ap (λ (x : Bool). p a && (x || any (same a) ls)) (sym e)

-- what all lists pass, those that are kept pass
all_keep : (p r : List ℕ → Bool) (ls : List (List ℕ)) → all r ls ≡ true → all r (keep p ls) ≡ true
all_keep p r [] h = refl
all_keep p r (l ∷ ls) h = go (p l) (all_keep p r ls (and_right (r l) (all r ls) h))
  where
    go : (b : Bool) → all r (keep p ls) ≡ true → all r (cond b (l ∷ keep p ls) (keep p ls)) ≡ true
    go true rest = and_both (and_left (r l) (all r ls) h) rest
    go false rest = rest

pub keep_ascending : (p : List ℕ → Bool) (ls : List (List ℕ)) → ascending ls ≡ true → ascending (keep p ls) ≡ true
keep_ascending p [] h = refl
keep_ascending p (l ∷ ls) h = go (p l) (keep_ascending p ls (and_right (all (comes_before l) ls) (ascending ls) h))
  where
    go : (b : Bool) → ascending (keep p ls) ≡ true → ascending (cond b (l ∷ keep p ls) (keep p ls)) ≡ true
    go true rest = and_both (all_keep p (comes_before l) ls (and_left (all (comes_before l) ls) (ascending ls) h)) rest
    go false rest = rest

-- behind the same number in front, the order stays
front_all : (x : ℕ) (l : List ℕ) (ls : List (List ℕ)) → all (comes_before (x ∷ l)) (map (λ m. x ∷ m) ls) ≡ all (comes_before l) ls
front_all x l [] = refl
front_all x l (m ∷ ls) = ap₂ ◌&&◌ (behind_same x l m) (front_all x l ls)

front_ascending : (x : ℕ) (ls : List (List ℕ)) → ascending (map (λ l. x ∷ l) ls) ≡ ascending ls
front_ascending x [] = refl
front_ascending x (l ∷ ls) = ap₂ ◌&&◌ (front_all x l ls) (front_ascending x ls)

append_ascending : (ls ms : List (List ℕ)) → ascending ls ≡ true → ascending ms ≡ true → all (λ l. all (comes_before l) ms) ls ≡ true → ascending (ls ++ ms) ≡ true
append_ascending [] ms h k c = k
append_ascending (l ∷ ls) ms h k c =
    and_both
    (all_append (comes_before l) ls ms
    ∙ and_both (and_left (all (comes_before l) ls) (ascending ls) h) (and_left (all (comes_before l) ms) (all (λ m. all (comes_before m) ms) ls) c))
    (append_ascending ls ms (and_right (all (comes_before l) ls) (ascending ls) h) k (and_right (all (comes_before l) ms) (all (λ m. all (comes_before m) ms) ls) c))

-- a lower number in front comes before all higher ones
lower_front : (x y : ℕ) (l : List ℕ) (ls : List (List ℕ)) → x < y → all (comes_before (x ∷ l)) (map (λ m. y ∷ m) ls) ≡ true
lower_front x y l [] h = refl
lower_front x y l (m ∷ ls) h = and_both (or_left (eqb x y && comes_before l m) (lt-ltb x y h)) (lower_front x y l ls h)

lower_all : (x k n : ℕ) (l : List ℕ) (ls : List (List ℕ)) → x < k → all (comes_before (x ∷ l)) (in_front (numbers_from k n) ls) ≡ true
lower_all x k zero l ls h = refl
lower_all x k (suc n) l ls h =
    all_append (comes_before (x ∷ l)) (map (λ m. k ∷ m) ls) (in_front (numbers_from (suc k) n) ls)
    ∙ and_both (lower_front x k l ls h) (lower_all x (suc k) n l ls (omega arith))

lower_each : (k n : ℕ) (ls ms : List (List ℕ)) → all (λ l. all (comes_before l) (in_front (numbers_from (suc k) n) ms)) (map (λ l. k ∷ l) ls) ≡ true
lower_each k n [] ms = refl
lower_each k n (l ∷ ls) ms = and_both (lower_all k (suc k) n l ms (omega arith)) (lower_each k n ls ms)

in_front-ascending : (k n : ℕ) (ls : List (List ℕ)) → ascending ls ≡ true → ascending (in_front (numbers_from k n) ls) ≡ true
in_front-ascending k zero ls h = refl
in_front-ascending k (suc n) ls h =
    append_ascending (map (λ l. k ∷ l) ls) (in_front (numbers_from (suc k) n) ls)
    (front_ascending k ls ∙ h)
    (in_front-ascending (suc k) n ls h)
    (lower_each k n ls ls)

pub all_below-ascending : (limits : List ℕ) → ascending (all_below limits) ≡ true
unfolding all_below
all_below-ascending [] = refl
all_below-ascending (l ∷ ls) = in_front-ascending 0 l (choices (map (numbers_from 0) ls)) (all_below-ascending ls)

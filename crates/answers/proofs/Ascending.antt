-- Lists that ascend byte by byte: two of them with the same members are equal.
-- Assumes nothing.
use mathlib.Core.Path.{◌≡◌, refl, sym, ◌∙◌, ap, ap₂, subst}
use mathlib.Core.Bool.{Bool, true, false, ◌&&◌, ◌||◌, false≢true}
use mathlib.Core.List.{List, [], ◌∷◌}
use Prim.Native.Nat.{ℕ, zero, suc, ◌<◌}
use native.Mathlib.Nat.{le_of_suc-le-suc}
use native.Mathlib.Omega.{arith}
use borrow.Author.Tests.{ltb-true, eqb-true, eq-eqb, ne_eqb, le-ltb}
use lib.Dec.{eqb, ltb}
use lib.ListN.{length, get_or}
use Rattle.kinds.specs.Tests.{any, all, same}
use Rattle.kinds.proofs.Lists.{and_left, and_right, and_both, or_left, any_found, all_at, same_equal}
use Rattle.answers.specs.Ascending.{comes_before, ascending}

-- a number equals itself, and is not below itself
pub eqb_self : (n : ℕ) → eqb n n ≡ true
eqb_self n = eq-eqb n n refl

pub ltb_self : (n : ℕ) → ltb n n ≡ false
ltb_self n = le-ltb n n (omega arith)

-- a list is the same as itself
pub same_self : (l : List ℕ) → same l l ≡ true
same_self [] = refl
same_self (x ∷ xs) = and_both (eqb_self x) (same_self xs)

-- behind the same first byte the rest decides
pub behind_same : (x : ℕ) (xs ys : List ℕ) → comes_before (x ∷ xs) (x ∷ ys) ≡ comes_before xs ys
behind_same x xs ys = ap₂ (λ (a b : Bool). a || (b && comes_before xs ys)) (ltb_self x) (eqb_self x)

-- no list comes before itself
pub not_itself : (l : List ℕ) → comes_before l l ≡ false
not_itself [] = refl
not_itself (x ∷ xs) = behind_same x xs xs ∙ not_itself xs

-- of two lists at most one comes before the other
pub not_both : (xs ys : List ℕ) → comes_before xs ys ≡ true → comes_before ys xs ≡ true → ⊥
not_both [] ys h k = false≢true h
not_both (x ∷ xs) [] h k = false≢true h
not_both (x ∷ xs) (y ∷ ys) h k = go (ltb x y) (eqb x y) refl refl h (not_both xs ys)
  where
    go : (l e : Bool) → ltb x y ≡ l → eqb x y ≡ e → l || (e && comes_before xs ys) ≡ true → (comes_before xs ys ≡ true → comes_before ys xs ≡ true → ⊥) → ⊥
    go true e p q r rest =
        let lower = ltb-true x y p in
        false≢true (sym (ap₂ (λ (a b : Bool). a || (b && comes_before ys xs)) (le-ltb y x (omega arith)) (ne_eqb y x (λ (z : y ≡ x). omega arith))) ∙ k)
    go false true p q r rest =
        let equal = eqb-true x y q in
        rest r (sym (behind_same x ys xs) ∙ subst (λ (n : ℕ). comes_before (n ∷ ys) (x ∷ xs) ≡ true) (sym equal) k)
    go false false p q r rest = false≢true r

-- what holds for all lists of a list holds for each that is in it
pub all_member : (p : List ℕ → Bool) (ls : List (List ℕ)) (a : List ℕ) → all p ls ≡ true → any (same a) ls ≡ true → p a ≡ true
all_member p ls a h k =
    let f = any_found (same a) ls k in
    ap p (same_equal a f.one f.passes) ∙ all_at p h f.inside

-- a list does not stand among those that all come after it
pub not_among : (a x : List ℕ) (ls : List (List ℕ)) → all (comes_before x) ls ≡ true → same a x ≡ true → any (same a) ls ≡ false
not_among a x ls h e = go (any (same a) ls) refl
  where
    go : (b : Bool) → any (same a) ls ≡ b → b ≡ false
    go true k =
        let equal = same_equal a x e in
        absurd (false≢true (sym (not_itself x) ∙ subst (λ (y : List ℕ). comes_before x y ≡ true) equal (all_member (comes_before x) ls a h k)))
    go false k = refl

-- two ascending lists with the same members are equal
pub same_members : (ls ms : List (List ℕ)) → ascending ls ≡ true → ascending ms ≡ true
    → ((a : List ℕ) → any (same a) ls ≡ any (same a) ms) → ls ≡ ms
same_members [] [] h k f = refl
same_members [] (m ∷ ms) h k f = absurd (false≢true (f m ∙ or_left (any (same m) ms) (same_self m)))
same_members (l ∷ ls) [] h k f = absurd (false≢true (sym (f l) ∙ or_left (any (same l) ls) (same_self l)))
same_members (l ∷ ls) (m ∷ ms) h k f =
    go (same l m) refl
    (same_members ls ms (and_right (all (comes_before l) ls) (ascending ls) h) (and_right (all (comes_before m) ms) (ascending ms) k))
  where
    lowest : all (comes_before l) ls ≡ true
    lowest = and_left (all (comes_before l) ls) (ascending ls) h

    lowest' : all (comes_before m) ms ≡ true
    lowest' = and_left (all (comes_before m) ms) (ascending ms) k

    rest : l ≡ m → (a : List ℕ) → any (same a) ls ≡ any (same a) ms
    rest e a = by (same a l) refl
      where
        by : (b : Bool) → same a l ≡ b → any (same a) ls ≡ any (same a) ms
        by true p = not_among a l ls lowest p ∙ sym (not_among a m ms lowest' (subst (λ (x : List ℕ). same a x ≡ true) e p))
        by false p =
            sym (ap (λ (x : Bool). x || any (same a) ls) p)
            ∙ f a
            ∙ ap (λ (x : Bool). x || any (same a) ms) (subst (λ (x : List ℕ). same a x ≡ false) e p)

    go : (b : Bool) → same l m ≡ b → (((a : List ℕ) → any (same a) ls ≡ any (same a) ms) → ls ≡ ms) → l ∷ ls ≡ m ∷ ms
    go true p tails =
        let e = same_equal l m p in
        ap₂ ◌∷◌ e (tails (rest e))
    go false p tails = absurd (not_both l m before after)
      where
        other : same m l ≡ false
        other = by (same m l) refl
          where
            by : (b : Bool) → same m l ≡ b → b ≡ false
            by true q = absurd (false≢true (sym p ∙ subst (λ (x : List ℕ). same l x ≡ true) (sym (same_equal m l q)) (same_self l)))
            by false q = refl

        before : comes_before l m ≡ true
        before =
            all_member (comes_before l) ls m lowest
            (sym (ap (λ (x : Bool). x || any (same m) ls) other) ∙ f m ∙ or_left (any (same m) ms) (same_self m))

        after : comes_before m l ≡ true
        after =
            all_member (comes_before m) ms l lowest'
            (sym (ap (λ (x : Bool). x || any (same l) ms) p) ∙ sym (f l) ∙ or_left (any (same l) ls) (same_self l))

-- in an ascending list an earlier one comes before a later one
pub ascending_at : (ls : List (List ℕ)) → ascending ls ≡ true → (i j : ℕ) → i < j → j < length ls → comes_before (get_or ls i []) (get_or ls j []) ≡ true
ascending_at [] h i j l b = absurd (omega arith)
ascending_at (x ∷ ls) h i zero l b = absurd (omega arith)
ascending_at (x ∷ ls) h zero (suc j) l b =
    each ls j (le_of_suc-le-suc b) (and_left (all (comes_before x) ls) (ascending ls) h)
  where
    each : (ms : List (List ℕ)) (k : ℕ) → k < length ms → all (comes_before x) ms ≡ true → comes_before x (get_or ms k []) ≡ true
    each [] k m a = absurd (omega arith)
    each (y ∷ ms) zero m a = and_left (comes_before x y) (all (comes_before x) ms) a
    each (y ∷ ms) (suc k) m a = each ms k (le_of_suc-le-suc m) (and_right (comes_before x y) (all (comes_before x) ms) a)
ascending_at (x ∷ ls) h (suc i) (suc j) l b =
    ascending_at ls (and_right (all (comes_before x) ls) (ascending ls) h) i j (le_of_suc-le-suc l) (le_of_suc-le-suc b)

-- Laws about tests on lists: `any`, `all`, the equality of lists, and the seven states one by one.
-- Assumes nothing.
use mathlib.Core.Path.{◌≡◌, refl, sym, ◌∙◌, ap, ap₂}
use mathlib.Core.Bool.{Bool, true, false, ◌&&◌, ◌||◌, not, false≢true, or-false, or_assoc, and_assoc}
use mathlib.Core.List.{List, [], ◌∷◌, ◌++◌, map}
use Prim.Native.Nat.{ℕ, zero, suc, ◌<◌}
use native.Mathlib.Omega.{arith}
use borrow.Author.Tests.{eqb-true, eqb-false}
use lib.Dec.{eqb}
use lib.ListN.{get_or}
use Rattle.kinds.specs.Tests.{any, all, same, ◌∈?◌}
use Rattle.kinds.specs.Codes.{I, UC, UCE, UD, UDP, SC, SD, states}

-- the element is in the list
pub data In {ℓ} {A : Type ℓ} : A → List A → Type ℓ where
  here : {x : A} {xs : List A} → In x (x ∷ xs)
  there : {x y : A} {xs : List A} → In x xs → In x (y ∷ xs)

-- two tests that imply each other are equal
pub same_truth : (a b : Bool) → (a ≡ true → b ≡ true) → (b ≡ true → a ≡ true) → a ≡ b
same_truth true true f g = refl
same_truth true false f g = sym (f refl)
same_truth false true f g = g refl
same_truth false false f g = refl

-- the two tests say the same
abbrev pub agree : Bool → Bool → Bool
agree true b = b
agree false b = not b

-- then they are equal
pub agree_same : (a b : Bool) → agree a b ≡ true → a ≡ b
agree_same true b h = sym h
agree_same false true h = h
agree_same false false h = refl

-- `&&` and `||` from their two sides, and back
pub and_left : (a b : Bool) → a && b ≡ true → a ≡ true
and_left true b h = refl
and_left false b h = h

pub and_right : (a b : Bool) → a && b ≡ true → b ≡ true
and_right true b h = h
and_right false b h = absurd (false≢true h)

pub and_both : {a b : Bool} → a ≡ true → b ≡ true → a && b ≡ true
and_both {a} {b} p q = ap (λ (x : Bool). x && b) p ∙ q

-- "not, or": where the first holds, so does the second
pub if_then : (a b : Bool) → a ≡ true → not a || b ≡ true → b ≡ true
if_then true b p q = q
if_then false b p q = absurd (false≢true p)

pub or_and : (a b c : Bool) → (a && c) || (b && c) ≡ (a || b) && c
or_and true true true = refl
or_and true true false = refl
or_and true false true = refl
or_and true false false = refl
or_and false b c = refl

pub or_right : (a b : Bool) → b ≡ true → a || b ≡ true
or_right true b h = refl
or_right false b h = h

pub or_left : {a : Bool} (b : Bool) → a ≡ true → a || b ≡ true
or_left b h = ap (λ (x : Bool). x || b) h

pub neither : (a b : Bool) → a || b ≡ false → (a ≡ false) × (b ≡ false)
neither true b h = absurd (false≢true (sym h))
neither false b h = (refl, h)

-- what holds for each of the seven states holds for every number below seven
pub each_state {ℓ} : (P : ℕ → Type ℓ) → P I → P UC → P UCE → P UD → P UDP → P SC → P SD → (n : ℕ) → n < 7 → P n
each_state P i uc uce ud udp sc sd zero h = i
each_state P i uc uce ud udp sc sd (suc zero) h = uc
each_state P i uc uce ud udp sc sd (suc (suc zero)) h = uce
each_state P i uc uce ud udp sc sd (suc (suc (suc zero))) h = ud
each_state P i uc uce ud udp sc sd (suc (suc (suc (suc zero)))) h = udp
each_state P i uc uce ud udp sc sd (suc (suc (suc (suc (suc zero))))) h = sc
each_state P i uc uce ud udp sc sd (suc (suc (suc (suc (suc (suc zero)))))) h = sd
each_state P i uc uce ud udp sc sd (suc (suc (suc (suc (suc (suc (suc n))))))) h = absurd (omega arith)

-- every number below seven is a state
pub state_in : (n : ℕ) → n < 7 → In n states
state_in =
    each_state (λ n. In n states)
    here (there here) (there (there here)) (there (there (there here)))
    (there (there (there (there here)))) (there (there (there (there (there here)))))
    (there (there (there (there (there (there here))))))

-- element n of a list with one value per state
pub at_state : (f : ℕ → ℕ) (n : ℕ) → n < 7 → get_or (map f states) n 0 ≡ f n
at_state f = each_state (λ n. get_or (map f states) n 0 ≡ f n) refl refl refl refl refl refl refl

-- seven numbers, one per state
pub seven : (f : ℕ → ℕ) (x₀ x₁ x₂ x₃ x₄ x₅ x₆ : ℕ)
    → x₀ ≡ f 0 → x₁ ≡ f 1 → x₂ ≡ f 2 → x₃ ≡ f 3 → x₄ ≡ f 4 → x₅ ≡ f 5 → x₆ ≡ f 6
    → x₀ ∷ x₁ ∷ x₂ ∷ x₃ ∷ x₄ ∷ x₅ ∷ x₆ ∷ [] ≡ map f states
seven f x₀ x₁ x₂ x₃ x₄ x₅ x₆ h₀ h₁ h₂ h₃ h₄ h₅ h₆ =
    ap₂ ◌∷◌ h₀ (ap₂ ◌∷◌ h₁ (ap₂ ◌∷◌ h₂ (ap₂ ◌∷◌ h₃ (ap₂ ◌∷◌ h₄ (ap₂ ◌∷◌ h₅ (ap₂ ◌∷◌ h₆ refl))))))

-- functions that agree on the seven states give the same list
pub map_states : (f g : ℕ → ℕ) → ((s : ℕ) → s < 7 → f s ≡ g s) → map f states ≡ map g states
map_states f g h =
    seven g (f 0) (f 1) (f 2) (f 3) (f 4) (f 5) (f 6)
    (h 0 (omega arith)) (h 1 (omega arith)) (h 2 (omega arith)) (h 3 (omega arith)) (h 4 (omega arith)) (h 5 (omega arith)) (h 6 (omega arith))

-- tests that agree on the seven states agree on whether some state passes
pub any_states : (p q : ℕ → Bool) → ((s : ℕ) → s < 7 → p s ≡ q s) → any p states ≡ any q states
any_states p q h =
    cc (h 0 (omega arith), h 1 (omega arith), h 2 (omega arith), h 3 (omega arith), h 4 (omega arith), h 5 (omega arith), h 6 (omega arith))

module _ {ℓ} {A : Type ℓ} where
  -- an element that passes the test
  pub record Found (p : A → Bool) (xs : List A) : Type ℓ where
    pub one : A
    pub inside : In one xs
    pub passes : p one ≡ true

  pub any_found : (p : A → Bool) (xs : List A) → any p xs ≡ true → Found p xs
  any_found p [] h = absurd (false≢true h)
  any_found p (x ∷ xs) h = go (p x) refl h (any_found p xs)
    where
      go : (b : Bool) → p x ≡ b → b || any p xs ≡ true → (any p xs ≡ true → Found p xs) → Found p (x ∷ xs)
      go true e k f = record { one = x; inside = here; passes = e }
      go false e k f = let r = f k in record { one = r.one; inside = there r.inside; passes = r.passes }

  pub found_any : (p : A → Bool) {x : A} {xs : List A} → In x xs → p x ≡ true → any p xs ≡ true
  found_any p (here {xs = xs}) h = or_left (any p xs) h
  found_any p (there {y = y} {xs = xs} i) h = or_right (p y) (any p xs) (found_any p i h)

  -- what holds for all elements holds for each
  pub all_at : (p : A → Bool) {x : A} {xs : List A} → all p xs ≡ true → In x xs → p x ≡ true
  all_at p {xs = xs} h (here {x = x} {xs = ys}) = and_left (p x) (all p ys) h
  all_at p {xs = xs} h (there {y = y} {xs = ys} i) = all_at p (and_right (p y) (all p ys) h) i

  -- `all` of two lists joined
  pub all_append : (p : A → Bool) (xs ys : List A) → all p (xs ++ ys) ≡ all p xs && all p ys
  all_append p [] ys = refl
  all_append p (x ∷ xs) ys = ap (λ (b : Bool). p x && b) (all_append p xs ys) ∙ sym (and_assoc (p x) (all p xs) (all p ys))

  -- `any` of tests that share one side of `&&`
  pub any_and : (p : A → Bool) (b : Bool) (xs : List A) → any (λ x. p x && b) xs ≡ any p xs && b
  any_and p b [] = refl
  any_and p b (x ∷ xs) = ap (λ (t : Bool). (p x && b) || t) (any_and p b xs) ∙ or_and (p x) (any p xs) b

  -- `any` on a list with one more element at the end
  pub any_snoc : (p : A → Bool) (xs : List A) (x : A) → any p (xs ++ (x ∷ [])) ≡ any p xs || p x
  any_snoc p [] x = or-false (p x)
  any_snoc p (y ∷ ys) x = ap (λ (b : Bool). p y || b) (any_snoc p ys x) ∙ sym (or_assoc (p y) (any p ys) (p x))

-- a test that all numbers of a list pass is passed by every number in the list
pub one_of : (p : ℕ → Bool) (n : ℕ) (ns : List ℕ) → n ∈? ns ≡ true → all p ns ≡ true → p n ≡ true
one_of p n ns h k =
    let f = any_found (eqb n) ns h in
    ap p (eqb-true n f.one f.passes) ∙ all_at p k f.inside

-- every number below n passes the test
abbrev pub every_below : (ℕ → Bool) → ℕ → Bool
every_below p zero = true
every_below p (suc n) = p n && every_below p n

-- a test that is computed for every number below n holds for each
pub each_below : (p : ℕ → Bool) (n : ℕ) → every_below p n ≡ true → (k : ℕ) → k < n → p k ≡ true
each_below p zero h k l = absurd (omega arith)
each_below p (suc n) h k l = go (eqb k n) refl (each_below p n (and_right (p n) (every_below p n) h) k)
  where
    go : (t : Bool) → eqb k n ≡ t → (k < n → p k ≡ true) → p k ≡ true
    go true e f = ap p (eqb-true k n e) ∙ and_left (p n) (every_below p n) h
    go false e f = let d = eqb-false k n e in f (omega arith)

-- two lists that are the same number by number are equal
pub same_equal : (xs ys : List ℕ) → same xs ys ≡ true → xs ≡ ys
same_equal [] [] h = refl
same_equal [] (y ∷ ys) h = absurd (false≢true h)
same_equal (x ∷ xs) [] h = absurd (false≢true h)
same_equal (x ∷ xs) (y ∷ ys) h =
    ap₂ ◌∷◌ (eqb-true x y (and_left (eqb x y) (same xs ys) h)) (same_equal xs ys (and_right (eqb x y) (same xs ys) h))

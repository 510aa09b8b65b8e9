-- The parts of a set's text make the text: the names of its states with spaces between them.
-- Assumes nothing.
use mathlib.Core.Path.{◌≡◌, refl, sym, ◌∙◌, ap}
use mathlib.Core.Bool.{Bool, true, false, cond, ◌&&◌, not, and-true, and-false}
use mathlib.Core.List.{List, [], ◌∷◌, ◌++◌, append-nil}
use Prim.Native.Nat.{ℕ, zero, suc, ◌+◌, ◌*◌, ◌/◌, ◌%◌, ◌^◌, ◌<◌}
use native.Mathlib.Nat.{mod-lt, mod-one, zero-lt-suc}
use native.Mathlib.Omega.{arith}
use borrow.Author.Tests.{eq-eqb, ne_eqb}
use lib.Dec.{eqb}
use lib.Pow.{mod-pow-add, pow_pos}
use Rattle.sets.specs.Sets.{bit}
use Rattle.replies.specs.Laid.{concat}
use Rattle.replies.specs.Replies.{space, state_names, names_in, spaced, states_text, state_text, states_texts}

-- names, each after a space
led : List (List ℕ) → List ℕ
led [] = []
led (name ∷ names) = (space ∷ name) ++ led names

spaced_led : (name : List ℕ) (names : List (List ℕ)) → spaced (name ∷ names) ≡ name ++ led names
unfolding led
spaced_led name [] = sym (append-nil name)
spaced_led name (next ∷ names) = ap (λ (s : List ℕ). name ++ space ∷ s) (spaced_led next names)

-- no state up to n is in the set: none below n, and not n itself
below : (t r p s : ℕ) → t ≡ s * p + r → 0 < p → s < 2 → eqb t 0 ≡ (eqb r 0 && not (eqb s 1))
below t r p zero e h k = ap (λ (x : ℕ). eqb x 0) (let f : t ≡ r = omega arith in f) ∙ sym (and-true (eqb r 0))
below t r p (suc zero) e h k = ne_eqb t 0 (λ z. omega arith) ∙ sym (and-false (eqb r 0))
below t r p (suc (suc s)) e h k = absurd (omega arith)

none_below : (m n : ℕ) → eqb (m % 2 ^ suc n) 0 ≡ (eqb (m % 2 ^ n) 0 && not (bit m n))
unfolding bit
none_below m n =
    below (m % 2 ^ suc n) (m % 2 ^ n) (2 ^ n) (m / 2 ^ n % 2)
    (ap (λ (k : ℕ). m % 2 ^ k) (let f : suc n ≡ 1 + n = omega arith in f) ∙ mod-pow-add m 1 n)
    (pow_pos n) (mod-lt (m / 2 ^ n) (zero-lt-suc 1))

-- the parts of a set's text, from state n on
parts_from_lem : ℕ → ℕ → List (List ℕ) → List (List ℕ)
parts_from_lem m n [] = []
parts_from_lem m n (name ∷ names) = state_text m n name ∷ parts_from_lem m (suc n) names

-- the parts joined: the first name has no space before it if no lower state is in the set
parts_by : (first has : Bool) (name rest : List ℕ) (names : List (List ℕ))
    → rest ≡ cond (first && not has) (spaced names) (led names)
    → cond has (cond first name (space ∷ name)) [] ++ rest
    ≡ cond first (spaced (cond has (name ∷ names) names)) (led (cond has (name ∷ names) names))
unfolding led
parts_by true true name rest names e = ap (λ (s : List ℕ). name ++ s) e ∙ sym (spaced_led name names)
parts_by true false name rest names e = e
parts_by false true name rest names e = ap (λ (s : List ℕ). (space ∷ name) ++ s) e
parts_by false false name rest names e = e

parts_from : (m n : ℕ) (names : List (List ℕ))
    → concat (parts_from_lem m n names) ≡ cond (eqb (m % 2 ^ n) 0) (spaced (names_in m n names)) (led (names_in m n names))
unfolding parts_from_lem led
parts_from m n [] = nothing (eqb (m % 2 ^ n) 0)
  where
    nothing : (b : Bool) → ◌≡◌ {A = List ℕ} [] (cond b [] [])
    nothing true = refl
    nothing false = refl
parts_from m n (name ∷ names) =
    parts_by (eqb (m % 2 ^ n) 0) (bit m n) name (concat (parts_from_lem m (suc n) names)) (names_in m (suc n) names)
    (parts_from m (suc n) names
    ∙ ap (λ (b : Bool). cond b (spaced (names_in m (suc n) names)) (led (names_in m (suc n) names))) (none_below m n))

-- the parts of a set's text make the text
pub concat_states : (m : ℕ) → concat (states_texts m) ≡ states_text m
unfolding states_texts states_text parts_from_lem
concat_states m =
    parts_from m 0 state_names
    ∙ ap (λ (b : Bool). cond b (spaced (names_in m 0 state_names)) (led (names_in m 0 state_names))) (eq-eqb (m % 1) 0 (mod-one m))

-- What the bytes at hand show of the lines of a text, whatever follows them.
-- Assumes nothing.
use mathlib.Core.Path.{◌≡◌, refl, sym, ◌∙◌, ap}
use mathlib.Core.Bool.{Bool, true, false, cond, false≢true}
use mathlib.Core.List.{List, [], ◌∷◌, ◌++◌}
use Prim.Native.Nat.{ℕ, zero, suc, ◌+◌, ◌≤◌, ◌<◌, min}
use native.Mathlib.Nat.{zero-min, min-zero, suc-min-suc}
use native.Mathlib.Omega.{arith}
use lib.ListN.{length, take, drop}
use lib.Seq.{drop-nil}
use Rattle.text.specs.Text.{on_first}
use Rattle.lines.specs.Lines.{crlf, lines_of}
use Rattle.lines.specs.Seen.{reach}

-- if the search stops at a CR LF, the bytes before it are the first line, and the other lines follow after it
pub whole_line : (n : ℕ) (s more : List ℕ) → crlf (drop (reach n s) s) ≡ true
    → lines_of (s ++ more) ≡ take (reach n s) s ∷ lines_of (drop (reach n s + 2) s ++ more)
whole_line zero [] more h = absurd (false≢true h)
whole_line zero (x ∷ []) more h = absurd (false≢true h)
whole_line zero (x ∷ y ∷ s) more h = ap (λ b. cond b ([] ∷ lines_of (s ++ more)) (on_first x (lines_of (y ∷ s ++ more)))) h
whole_line (suc n) [] more h = absurd (false≢true h)
whole_line (suc n) (x ∷ []) more h = absurd (false≢true (sym (ap crlf (drop-nil (reach n []))) ∙ h))
whole_line (suc n) (x ∷ y ∷ s) more h = go (crlf (x ∷ y ∷ s)) refl h (whole_line n (y ∷ s) more)
  where
    r : ℕ
    r = reach n (y ∷ s)

    go : (b : Bool) → crlf (x ∷ y ∷ s) ≡ b → crlf (drop (cond b 0 (suc r)) (x ∷ y ∷ s)) ≡ true
        → (crlf (drop r (y ∷ s)) ≡ true → lines_of (y ∷ s ++ more) ≡ take r (y ∷ s) ∷ lines_of (drop (r + 2) (y ∷ s) ++ more))
        → cond b ([] ∷ lines_of (s ++ more)) (on_first x (lines_of (y ∷ s ++ more)))
        ≡ take (cond b 0 (suc r)) (x ∷ y ∷ s) ∷ lines_of (drop (cond b 0 (suc r) + 2) (x ∷ y ∷ s) ++ more)
    go true e k f = refl
    go false e k f = ap (on_first x) (f k) ∙ ap (λ m. (x ∷ take r (y ∷ s)) ∷ lines_of (drop m (x ∷ y ∷ s) ++ more)) (two_more r)
      where
        two_more : (m : ℕ) → suc (m + 2) ≡ suc m + 2
        two_more m = omega arith

-- the first line has at least n bytes
pub record Long (n : ℕ) (ls : List (List ℕ)) : Type 0 where
  pub line : List ℕ
  pub others : List (List ℕ)
  pub are : ls ≡ line ∷ others
  pub long : n ≤ length line

longer : (n x : ℕ) (ls : List (List ℕ)) → Long n ls → Long (suc n) (on_first x ls)
longer n x ls l = record { line = x ∷ l.line; others = l.others; are = ap (on_first x) l.are; long = omega (arith, l.long) }

some_line : (x : ℕ) (s : List ℕ) → Long 0 (lines_of (x ∷ s))
some_line x [] = record { line = x ∷ []; others = []; are = refl; long = omega arith }
some_line x (y ∷ s) = go (crlf (x ∷ y ∷ s))
  where
    first : (ls : List (List ℕ)) → Long 0 (on_first x ls)
    first [] = record { line = x ∷ []; others = []; are = refl; long = omega arith }
    first (l ∷ ls) = record { line = x ∷ l; others = ls; are = refl; long = omega arith }

    go : (b : Bool) → Long 0 (cond b ([] ∷ lines_of s) (on_first x (lines_of (y ∷ s))))
    go true = record { line = []; others = lines_of s; are = refl; long = omega arith }
    go false = first (lines_of (y ∷ s))

-- if the search stops after n bytes and more follow, the first line has at least n bytes
pub long_line : (n : ℕ) (s more : List ℕ) → reach n s ≡ n → n < length s → Long n (lines_of (s ++ more))
long_line n [] more e h = absurd (omega arith)
long_line zero (x ∷ s) more e h = some_line x (s ++ more)
long_line (suc n) (x ∷ []) more e h = absurd (omega arith)
long_line (suc n) (x ∷ y ∷ s) more e h = go (crlf (x ∷ y ∷ s)) e (λ k. long_line n (y ∷ s) more k (omega (arith, h)))
  where
    go : (b : Bool) → cond b 0 (suc (reach n (y ∷ s))) ≡ suc n → (reach n (y ∷ s) ≡ n → Long n (lines_of (y ∷ s ++ more)))
        → Long (suc n) (cond b ([] ∷ lines_of (s ++ more)) (on_first x (lines_of (y ∷ s ++ more))))
    go true k f = absurd (omega (arith, k))
    go false k f = longer n x (lines_of (y ∷ s ++ more)) (f (omega (arith, k)))

-- if the search stops at the end, all bytes are one line
pub last_line : (n : ℕ) (s : List ℕ) → 0 < length s → reach n s ≡ length s → lines_of s ≡ s ∷ []
last_line n [] h e = absurd (omega arith)
last_line n (x ∷ []) h e = refl
last_line zero (x ∷ y ∷ s) h e = absurd (omega (arith, e))
last_line (suc n) (x ∷ y ∷ s) h e = go (crlf (x ∷ y ∷ s)) e (λ k. last_line n (y ∷ s) (omega arith) k)
  where
    go : (b : Bool) → cond b 0 (suc (reach n (y ∷ s))) ≡ suc (suc (length s)) → (reach n (y ∷ s) ≡ suc (length s) → lines_of (y ∷ s) ≡ (y ∷ s) ∷ [])
        → cond b ([] ∷ lines_of s) (on_first x (lines_of (y ∷ s))) ≡ (x ∷ y ∷ s) ∷ []
    go true k f = absurd (omega (arith, k))
    go false k f = ap (on_first x) (f (omega (arith, k)))

-- if the search does not stop at a CR LF, it stops after n bytes or at the end
pub reach_all : (n : ℕ) (s : List ℕ) → crlf (drop (reach n s) s) ≡ false → reach n s ≡ min n (length s)
reach_all zero s h = sym (zero-min (length s))
reach_all (suc n) [] h = sym (min-zero (suc n))
reach_all (suc n) (x ∷ s) h = go (crlf (x ∷ s)) refl h (reach_all n s)
  where
    go : (b : Bool) → crlf (x ∷ s) ≡ b → crlf (drop (cond b 0 (suc (reach n s))) (x ∷ s)) ≡ false
        → (crlf (drop (reach n s) s) ≡ false → reach n s ≡ min n (length s)) → cond b 0 (suc (reach n s)) ≡ min (suc n) (suc (length s))
    go true e k f = absurd (false≢true (sym k ∙ e))
    go false e k f = ap suc (f k) ∙ sym (suc-min-suc n (length s))

-- the search does not go past the end
pub reach_within : (n : ℕ) (s : List ℕ) → reach n s ≤ length s
reach_within zero s = omega arith
reach_within (suc n) [] = omega arith
reach_within (suc n) (x ∷ s) = go (crlf (x ∷ s)) (reach_within n s)
  where
    go : (b : Bool) → reach n s ≤ length s → cond b 0 (suc (reach n s)) ≤ suc (length s)
    go true h = omega arith
    go false h = omega (arith, h)

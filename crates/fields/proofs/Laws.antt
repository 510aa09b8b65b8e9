-- Laws about the fields of a line, over plain variables: where a field ends, and the fields one after another.
-- Assumes nothing.
use mathlib.Core.Path.{◌≡◌, refl, sym, ◌∙◌, ap, ap₂}
use mathlib.Core.Bool.{Bool, true, false, cond, not}
use mathlib.Core.List.{List, [], ◌∷◌}
use Prim.Native.Nat.{ℕ, suc, ◌+◌, ◌-◌, ◌<◌, ◌≤◌}
use native.Mathlib.Omega.{arith}
use borrow.Author.Tests.{le-leb, lt-leb, leb-true, leb-false, ltb-false}
use lib.Dec.{eqb, leb, ltb, leb-zero, leb-suc-suc}
use lib.ListN.{length, take, drop, length-drop, drop_of_length-le}
use lib.Seq.{drop-drop}
use Rattle.std.specs.List.{position, position_or_len}
use Rattle.std.specs.Prelude.{Option, Some, None}
use Rattle.std.specs.Option.{unwrap_or}
use Rattle.std.proofs.lemmas.List.Recursion.{is_position_or_len}
use Rattle.std.proofs.lemmas.List.Sums.{prefix_len-le-length}
use Rattle.text.specs.Text.{comma, on_first}
use Rattle.fields.specs.Fields.{field, fields_of, fields_from, field_end}

-- at the end of the line, the field ends at once
pub end_at_end : (line : List ℕ) (at : ℕ) → length line ≤ at → field_end line at ≡ at
unfolding field_end
end_at_end line at h = ap (λ (s : List ℕ). at + length (field s)) (drop_of_length-le line h) ∙ omega arith

-- a byte is a comma
abbrev pub is_comma : ℕ → Bool
is_comma b = eqb b comma

-- a field is as long as the bytes before the first comma
field_upto : (s : List ℕ) → length (field s) ≡ position_or_len is_comma s
field_upto = is_position_or_len (λ (s : List ℕ). length (field s)) is_comma refl by_first
  where
    by_first : (x : ℕ) (s : List ℕ) → length (field (x ∷ s)) ≡ cond (is_comma x) 0 (1 + length (field s))
    by_first x s = go (eqb x comma)
      where
        go : (b : Bool) → length (cond b [] (x ∷ field s)) ≡ cond b 0 (1 + length (field s))
        go true = refl
        go false = omega arith

-- a field ends where a search for its comma stops, else at the end of the line
pub end_found : (line : List ℕ) (at : ℕ) (rest : List ℕ) (r : Option ℕ) → rest ≡ drop at line → r ≡ position is_comma rest
    → at + unwrap_or r (length rest) ≡ field_end line at
unfolding field_end
end_found line at rest r k e =
    ap (λ (f : Option ℕ). at + unwrap_or f (length rest)) e
    ∙ go (ltb p (length rest)) refl
    ∙ ap (λ (n : ℕ). at + n) (sym (field_upto rest))
    ∙ ap (λ (s : List ℕ). at + length (field s)) k
  where
    p : ℕ
    p = position_or_len is_comma rest

    go : (b : Bool) → ltb p (length rest) ≡ b → at + unwrap_or (cond b (Some p) None) (length rest) ≡ at + p
    go true h = refl
    go false h = omega (arith, ltb-false p (length rest) h, prefix_len-le-length (λ (b : ℕ). not (is_comma b)) rest)

-- a field does not end before it starts
pub end_from : (line : List ℕ) (at : ℕ) → at ≤ field_end line at
unfolding field_end
end_from line at = omega arith

-- a field is a prefix of the bytes
field_front : (s : List ℕ) → field s ≡ take (length (field s)) s
field_front [] = refl
field_front (x ∷ s) = by_first (eqb x comma) x (field s) s (field_front s)
  where
    by_first : (b : Bool) (x : ℕ) (f s : List ℕ) → f ≡ take (length f) s → cond b [] (x ∷ f) ≡ take (length (cond b [] (x ∷ f))) (x ∷ s)
    by_first true x f s h = refl
    by_first false x f s h = ap (λ (l : List ℕ). x ∷ l) h

-- a field is not longer than the bytes
field_length : (s : List ℕ) → length (field s) ≤ length s
field_length [] = omega arith
field_length (x ∷ s) = by_first (eqb x comma) x (field s) s (field_length s)
  where
    by_first : (b : Bool) (x : ℕ) (f s : List ℕ) → length f ≤ length s → length (cond b [] (x ∷ f)) ≤ suc (length s)
    by_first true x f s h = omega arith
    by_first false x f s h = omega arith

-- a field ends within the line
pub end_within : (line : List ℕ) (at : ℕ) → at ≤ length line → field_end line at ≤ length line
unfolding field_end
end_within line at h = omega (arith, field_length (drop at line), length-drop at line)

-- the fields from offset 0 on are all fields
pub fields_start : (line : List ℕ) → fields_from line 0 ≡ fields_of line
unfolding fields_from
fields_start line = ap (λ (b : Bool). cond b (fields_of line) []) (leb-zero (length line))

-- past the end there is no field
pub fields_none : (line : List ℕ) (at : ℕ) → length line < at → fields_from line at ≡ []
unfolding fields_from
fields_none line at h = ap (λ (b : Bool). cond b (fields_of (drop at line)) []) (lt-leb at (length line) h)

-- within the line, the fields from an offset on are those of the rest
fields_left : (line : List ℕ) (at : ℕ) → at ≤ length line → fields_from line at ≡ fields_of (drop at line)
unfolding fields_from
fields_left line at h = ap (λ (b : Bool). cond b (fields_of (drop at line)) []) (le-leb at (length line) h)

-- a byte more in front moves the offset by one
fields_behind : (x : ℕ) (s : List ℕ) (k : ℕ) → fields_from (x ∷ s) (suc k) ≡ fields_from s k
unfolding fields_from
fields_behind x s k = ap (λ (b : Bool). cond b (fields_of (drop k s)) []) (leb-suc-suc k (length s))

-- the fields are the first one, and those behind its comma
first_then : (s : List ℕ) → fields_of s ≡ field s ∷ fields_from s (suc (length (field s)))
first_then [] = ap (λ (fs : List (List ℕ)). [] ∷ fs) (sym (fields_none [] 1 (omega arith)))
first_then (x ∷ s) = by_first (eqb x comma) x s (first_then s)
  where
    by_first :
        (b : Bool) (x : ℕ) (s : List ℕ) → fields_of s ≡ field s ∷ fields_from s (suc (length (field s)))
        → cond b ([] ∷ fields_of s) (on_first x (fields_of s)) ≡ cond b [] (x ∷ field s) ∷ fields_from (x ∷ s) (suc (length (cond b [] (x ∷ field s))))
    by_first true x s h = ap (λ (fs : List (List ℕ)). [] ∷ fs) (sym (fields_behind x s 0 ∙ fields_start s))
    by_first false x s h = ap (on_first x) h ∙ ap (λ (fs : List (List ℕ)). (x ∷ field s) ∷ fs) (sym (fields_behind x s (suc (length (field s)))))

-- the fields of a rest, from an offset on, are fields of the line
fields_further : (line : List ℕ) (at k : ℕ) → at ≤ length line → fields_from (drop at line) k ≡ fields_from line (at + k)
unfolding fields_from
fields_further line at k h = ap₂ (λ (b : Bool) (s : List ℕ). cond b (fields_of s) []) (test (leb (at + k) (length line)) refl) (drop-drop k at line)
  where
    test : (b : Bool) → leb (at + k) (length line) ≡ b → leb k (length (drop at line)) ≡ b
    test true e = le-leb k (length (drop at line)) (omega (arith, length-drop at line, leb-true (at + k) (length line) e))
    test false e = lt-leb k (length (drop at line)) (omega (arith, length-drop at line, leb-false (at + k) (length line) e))

-- the fields from an offset on: the field there, and those behind its end
pub fields_step : (line : List ℕ) (at : ℕ) → at ≤ length line
    → fields_from line at ≡ take (field_end line at - at) (drop at line) ∷ fields_from line (field_end line at + 1)
unfolding field_end
fields_step line at h =
    let s = drop at line in
    let n = length (field s) in
    let this : n ≡ at + n - at = omega arith in
    let next : at + suc n ≡ at + n + 1 = omega arith in
    fields_left line at h ∙ first_then s
    ∙ ap₂ (λ (f : List ℕ) (fs : List (List ℕ)). f ∷ fs)
    (field_front s ∙ ap (λ (k : ℕ). take k s) this)
    (fields_further line at (suc n) h ∙ ap (fields_from line) next)

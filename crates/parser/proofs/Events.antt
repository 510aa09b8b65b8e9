-- Laws about the event of a line: every code of a well-formed line is below its column's limit, so none is truncated.
-- Assumes nothing.
use mathlib.Core.Path.{◌≡◌, refl, sym, ◌∙◌, ap, ap₂}
use mathlib.Core.Bool.{Bool, true, false, cond, not, ◌&&◌, false≢true}
use mathlib.Core.List.{List, [], ◌∷◌, map}
use mathlib.Core.Logic.{◌⊎◌, inl, inr}
use Prim.Native.Nat.{ℕ, ◌≤◌, ◌<◌}
use native.Mathlib.Nat.{mod-eq_of_lt}
use native.Mathlib.Omega.{arith}
use borrow.Author.Tests.{ltb-true, leb-true, lt-ltb, le-ltb, eq-eqb}
use Rattle.std.specs.Prelude.{Option, Some, None, Result, Ok, Err}
use Rattle.kinds.specs.declared.Refusal.{Refusal}
use Rattle.kinds.proofs.Refusals.{one_to_one, not_accepted}
use Rattle.parser.specs.declared.Line.{Line}
use lib.Dec.{eqb, ltb, leb}
use lib.ListN.{length, drop}
use Rattle.kinds.specs.Tests.{all}
use Rattle.kinds.specs.Places.{highest_pair}
use Rattle.kinds.proofs.Lists.{and_left, and_right, and_both}
use Rattle.fields.specs.Fields.{fields_of}
use Rattle.names.specs.Names.{unknown, columns}
use Rattle.names.specs.Columns.{pair_code}
use Rattle.names.proofs.Names.{pair_limit, limits, Limited, AllLimited, none_more, one_more, columns_limited}
use Rattle.parser.specs.Parsed.{Parsed, codes_of, line_codes, known, dashes_agree, well_formed, event_of, parsed_as, refused_parse, in_numbers, parsed}
use Rattle.parser.specs.Code.{codes_in, as_byte, line_of}

-- as many numbers as limits, each below its own
abbrev pub under : List ℕ → List ℕ → Bool
under [] [] = true
under [] (l ∷ ls) = false
under (x ∷ xs) [] = false
under (x ∷ xs) (l ∷ ls) = ltb x l && under xs ls

known_below : {column : List ℕ → ℕ} {limit : ℕ} → Limited column limit → (f : List ℕ) → known (column f) ≡ true → ltb (column f) limit ≡ true
known_below {column} {limit} p f k = go (p f)
  where
    go : (column f ≡ unknown) ⊎ (column f < limit) → ltb (column f) limit ≡ true
    go (inl e) = absurd (false≢true (sym (ap not (eq-eqb (column f) unknown e)) ∙ k))
    go (inr b) = lt-ltb (column f) limit b

codes_below : {cs : List (List ℕ → ℕ)} {ls : List ℕ} → AllLimited cs ls → (fs : List (List ℕ)) → all known (codes_of cs fs) ≡ true → under (codes_of cs fs) ls ≡ true
codes_below none_more fs k = refl
codes_below (one_more p ps) [] k = absurd (false≢true k)
codes_below (one_more {column = c} {others = cs} p ps) (f ∷ fs) k =
    and_both (known_below p f (and_left (known (c f)) (all known (codes_of cs fs)) k)) (codes_below ps fs (and_right (known (c f)) (all known (codes_of cs fs)) k))

-- every code of a well-formed line is known, and below its column's limit
pub codes_known : (line : List ℕ) → well_formed line ≡ true → all known (line_codes line) ≡ true
unfolding well_formed
codes_known line w =
    let many = eqb (length (fields_of line)) (length columns) in
    and_right many (all known (line_codes line)) (and_left (many && all known (line_codes line)) (dashes_agree (line_codes line)) w)

-- its dashes agree
pub dashes_agree_lem : (line : List ℕ) → well_formed line ≡ true → dashes_agree (line_codes line) ≡ true
unfolding well_formed
dashes_agree_lem line w = and_right (eqb (length (fields_of line)) (length columns) && all known (line_codes line)) (dashes_agree (line_codes line)) w

pub codes_under : (line : List ℕ) → well_formed line ≡ true → under (line_codes line) limits ≡ true
codes_under line w = codes_below columns_limited (fields_of line) (codes_known line w)

-- numbers below limits of at most 256 are bytes already
byte_kept : (xs ls : List ℕ) → under xs ls ≡ true → all (λ (l : ℕ). leb l 256) ls ≡ true → map as_byte xs ≡ xs
byte_kept [] ls h k = refl
byte_kept (x ∷ xs) [] h k = absurd (false≢true h)
byte_kept (x ∷ xs) (l ∷ ls) h k =
    ap₂ (λ (y : ℕ) (ys : List ℕ). y ∷ ys)
    (mod-eq_of_lt (omega (arith, ltb-true x l (and_left (ltb x l) (under xs ls) h), leb-true l 256 (and_left (leb l 256) (all (λ (m : ℕ). leb m 256) ls) k))))
    (byte_kept xs ls (and_right (ltb x l) (under xs ls) h) (and_right (leb l 256) (all (λ (m : ℕ). leb m 256) ls) k))

-- only the pair's code may exceed a byte, and the event does not use it
event_kept : (codes : List ℕ) → under codes limits ≡ true → event_of (map as_byte codes) ≡ event_of codes
unfolding event_of
event_kept [] h = absurd (false≢true h)
event_kept (pair ∷ codes) h =
    ap (λ (cs : List ℕ). event_of (pair ∷ cs)) (byte_kept codes (drop 1 limits) (and_right (ltb pair pair_limit) (under codes (drop 1 limits)) h) refl)

-- A PARSED LINE, case by case
module _ (line : List ℕ) where
  saying : Bool → Bool → Parsed
  saying good high = cond good (cond high (refused_parse 3) (parsed_as (pair_code (line_codes line)) (event_of (line_codes line)))) (refused_parse 8)

  pub parsed_ill : well_formed line ≡ false → parsed line ≡ refused_parse 8
  unfolding parsed saying
  parsed_ill w = ap (λ (b : Bool). saying b (ltb highest_pair (pair_code (line_codes line)))) w

  pub parsed_high : well_formed line ≡ true → highest_pair < pair_code (line_codes line) → parsed line ≡ refused_parse 3
  unfolding parsed saying
  parsed_high w h = ap₂ saying w (lt-ltb highest_pair (pair_code (line_codes line)) h)

  pub parsed_fine : well_formed line ≡ true → pair_code (line_codes line) ≤ highest_pair → parsed line ≡ parsed_as (pair_code (line_codes line)) (event_of (line_codes line))
  unfolding parsed saying
  parsed_fine w h = ap₂ saying w (le-ltb highest_pair (pair_code (line_codes line)) h)

-- A LINE AND ITS CODES
pub line_well : (line : List ℕ) → well_formed line ≡ true → line_of (line_codes line) ≡ parsed line
unfolding parsed
line_well line w =
    let high : Bool = ltb highest_pair (pair_code (line_codes line)) in
    let saying : List ℕ → Parsed = λ event. cond high (refused_parse 3) (parsed_as (pair_code (line_codes line)) event) in
    ap saying (event_kept (line_codes line) (codes_under line w)) ∙ sym (ap (λ (b : Bool). cond b (saying (event_of (line_codes line))) (refused_parse 8)) w)

-- the same from what `codes_of` finds
module _ (line : List ℕ) (r : Option (List ℕ)) (e : r ≡ codes_in line) where
  pub found_ill : r ≡ None → refused_parse 8 ≡ parsed line
  found_ill f = go (well_formed line) refl (sym e ∙ f)
    where
      go : (b : Bool) → well_formed line ≡ b → cond b (Some (line_codes line)) None ≡ None → refused_parse 8 ≡ parsed line
      go true k l = absurd (cc)
      go false k l = sym (parsed_ill line k)

  pub found_well : {codes : List ℕ} → r ≡ Some codes → line_of codes ≡ parsed line
  found_well {codes} f = go (well_formed line) refl (sym e ∙ f)
    where
      go : (b : Bool) → well_formed line ≡ b → cond b (Some (line_codes line)) None ≡ Some codes → line_of codes ≡ parsed line
      go true k l =
          let same : codes ≡ line_codes line = cc in
          ap line_of same ∙ line_well line k
      go false k l = absurd (cc)

-- NO TWO RESULTS HAVE THE SAME NUMBERS.
pub same_numbers : (r s : Result Line Refusal) → in_numbers r ≡ in_numbers s → r ≡ s
same_numbers (Ok l) (Ok m) h = ap (λ (p : Parsed). Ok (record { pair = record { 0 = p.pair }; event = p.event })) h
same_numbers (Ok l) (Err s) h = absurd (not_accepted s (sym (ap (λ (p : Parsed). p.number) h)))
same_numbers (Err r) (Ok m) h = absurd (not_accepted r (ap (λ (p : Parsed). p.number) h))
same_numbers (Err r) (Err s) h = ap (λ (x : Refusal). Err x) (one_to_one (ap (λ (p : Parsed). p.number) h))

-- Laws about the fields of a line read one after another, and about an event's bytes.
-- Assumes nothing.
use mathlib.Core.Path.{◌≡◌, refl, sym, ◌∙◌, ap, ap₂, subst}
use mathlib.Core.Bool.{Bool, true, false, cond, ◌&&◌, false≢true, and_assoc}
use mathlib.Core.List.{List, [], ◌∷◌, ◌++◌, append_assoc, append-nil, map}
use Prim.Native.Nat.{ℕ, suc, ◌+◌, ◌-◌, ◌≤◌, ◌<◌}
use native.Mathlib.Numerals.{add-one}
use native.Mathlib.Omega.{arith}
use borrow.Author.Tests.{le-leb, lt-leb, leb-true, leb-false, lt-ltb, le-ltb, eqb-true, eqb-false, ltb-false}
use Rattle.std.specs.Prelude.{Option, Some, None}
use lib.Dec.{eqb, ltb, leb, leb-suc-suc}
use lib.ListN.{length, get_or, take, drop, set, length-set, drop_of_length-le}
use lib.Seq.{drop-cons, take-suc-set, take_all}
use Rattle.kinds.specs.Tests.{all}
use Rattle.kinds.specs.declared.Answer.{Answer}
use Rattle.kinds.specs.declared.Answer.TheVariants.{SnpResp, SnpRespData, SnpRespDataPtl}
use Rattle.kinds.specs.declared.Forward.{Forward}
use Rattle.kinds.specs.declared.Forward.TheVariants.{NoForward, CompData}
use Rattle.kinds.specs.Answers.{wire, forward_wire, forward_error}
use Rattle.kinds.proofs.Lists.{and_right}
use Rattle.fields.specs.Fields.{fields_of, fields_from, field_end}
use Rattle.fields.proofs.Laws.{end_from, end_within, fields_start, fields_none, fields_step}
use Rattle.names.specs.Names.{unknown, columns, in_column, answer_at}
use Rattle.names.specs.Columns.{request_code, ret_to_src_code, do_not_go_to_sd_code, excl_code, tag_code, response_code, tag_op_code, resp_err_code, final_code}
use Rattle.parser.specs.declared.Taken.{Taken}
use Rattle.parser.specs.declared.Codes.{Codes}
use Rattle.parser.specs.Parsed.{codes_of, line_codes, known, dashes_agree, well_formed, sent_of, event_of}
use Rattle.parser.specs.Code.{taken_by, taken_at, taken_from, if_known, if_all_known, codes_in}

-- ONE FIELD: within the line, and past its end.
taken : ℕ → ℕ → Taken
taken code next = record { code = code; next = next }

taken_here : (column : List ℕ → ℕ) (line : List ℕ) (at : ℕ) → at ≤ length line
    → taken_by column line at ≡ taken (column (take (field_end line at - at) (drop at line))) (field_end line at + 1)
unfolding taken_by taken
taken_here column line at h =
    ap (λ b. cond b (taken (column (take (field_end line at - at) (drop at line))) (field_end line at + 1)) (taken unknown at)) (le-leb at (length line) h)

taken_past : (column : List ℕ → ℕ) (line : List ℕ) (at : ℕ) → length line < at → taken_by column line at ≡ taken unknown at
unfolding taken_by taken
taken_past column line at h =
    ap (λ b. cond b (taken (column (take (field_end line at - at) (drop at line))) (field_end line at + 1)) (taken unknown at)) (lt-leb at (length line) h)

-- a field that starts within the line ends there
pub end_next : (line : List ℕ) (at : ℕ) {past : Bool} {end : ℕ} → past ≡ ltb (length line) at → past ≡ false → end ≡ field_end line at
    → (at ≤ end) × (end ≤ length line)
end_next line at e f g =
    let inside = ltb-false (length line) at (sym e ∙ f) in
    (subst (λ n. at ≤ n) (sym g) (end_from line at), subst (λ n. n ≤ length line) (sym g) (end_within line at inside))

-- ALL FIELDS, one after another, for any list of columns
-- they are the fields from there on; the end is past the line's exactly when there are no more fields than columns
record Follows (cs : List (List ℕ → ℕ)) (line : List ℕ) (at : ℕ) : Type 0 where
  codes_so : (taken_from cs line at).codes ≡ codes_of cs (fields_from line at)
  end_so : ltb (length line) (taken_from cs line at).end ≡ leb (length (fields_from line at)) (length cs)

module _ (line : List ℕ) (at : ℕ) where
  follows_none : Follows [] line at
  follows_none = record { codes_so = refl; end_so = go (leb at (length line)) refl }
    where
      go : (b : Bool) → leb at (length line) ≡ b → ltb (length line) at ≡ leb (length (fields_from line at)) 0
      go true e =
          let h = leb-true at (length line) e in
          le-ltb (length line) at h ∙ sym (ap (λ (fs : List (List ℕ)). leb (length fs) 0) (fields_step line at h) ∙ lt-leb (suc (length (fields_from line (field_end line at + 1)))) 0 (omega arith))
      go false e =
          let h = leb-false at (length line) e in
          lt-ltb (length line) at h ∙ sym (ap (λ (fs : List (List ℕ)). leb (length fs) 0) (fields_none line at h))

  module _ (c : List ℕ → ℕ) (cs : List (List ℕ → ℕ)) where
    follows_here : at ≤ length line → Follows cs line (field_end line at + 1) → Follows (c ∷ cs) line at
    unfolding taken
    follows_here h f = record {
      codes_so = ap (λ (t : Taken). t.code ∷ (taken_from cs line t.next).codes) (taken_here c line at h)
          ∙ ap (λ (s : List ℕ). c (take (field_end line at - at) (drop at line)) ∷ s) f.codes_so
          ∙ sym (ap (codes_of (c ∷ cs)) (fields_step line at h));
      end_so = ap (λ (t : Taken). ltb (length line) (taken_from cs line t.next).end) (taken_here c line at h)
          ∙ f.end_so
          ∙ sym (ap (λ (fs : List (List ℕ)). leb (length fs) (suc (length cs))) (fields_step line at h) ∙ leb-suc-suc (length (fields_from line (field_end line at + 1))) (length cs));
    }

    follows_past : length line < at → Follows cs line at → Follows (c ∷ cs) line at
    unfolding taken
    follows_past h f = record {
      codes_so = ap (λ (t : Taken). t.code ∷ (taken_from cs line t.next).codes) (taken_past c line at h)
          ∙ ap (λ (s : List ℕ). unknown ∷ s) (f.codes_so ∙ ap (codes_of cs) (fields_none line at h))
          ∙ sym (ap (codes_of (c ∷ cs)) (fields_none line at h));
      end_so = ap (λ (t : Taken). ltb (length line) (taken_from cs line t.next).end) (taken_past c line at h)
          ∙ f.end_so
          ∙ ap (λ (fs : List (List ℕ)). leb (length fs) (length cs)) (fields_none line at h)
          ∙ le-leb 0 (length cs) (omega arith)
          ∙ sym (ap (λ (fs : List (List ℕ)). leb (length fs) (suc (length cs))) (fields_none line at h) ∙ le-leb 0 (suc (length cs)) (omega arith));
    }

follows : (cs : List (List ℕ → ℕ)) (line : List ℕ) (at : ℕ) → Follows cs line at
follows [] line at = follows_none line at
follows (c ∷ cs) line at = go (leb at (length line)) refl (λ p. follows cs line p)
  where
    go : (b : Bool) → leb at (length line) ≡ b → ((p : ℕ) → Follows cs line p) → Follows (c ∷ cs) line at
    go true e f = follows_here line at c cs (leb-true at (length line) e) (f (field_end line at + 1))
    go false e f = follows_past line at c cs (leb-false at (length line) e) (f at)

-- if every code is known, no field is missing
none_missing : (cs : List (List ℕ → ℕ)) (fs : List (List ℕ)) → all known (codes_of cs fs) ≡ true → length cs ≤ length fs
none_missing [] fs h = omega arith
none_missing (c ∷ cs) [] h = absurd (false≢true h)
none_missing (c ∷ cs) (f ∷ fs) h = omega (arith, none_missing cs fs (and_right (known (c f)) (all known (codes_of cs fs)) h))

-- exactly as many: not fewer, and not more
as_many : (a : Bool) (m n : ℕ) → (a ≡ true → n ≤ m) → a && leb m n ≡ eqb m n && a
as_many true m n h = go (eqb m n) refl
  where
    go : (b : Bool) → eqb m n ≡ b → leb m n ≡ b && true
    go true e = le-leb m n (omega (arith, eqb-true m n e))
    go false e = lt-leb m n (omega (arith, eqb-false m n e, h refl))
as_many false m n h = go (eqb m n)
  where
    go : (b : Bool) → false ≡ b && false
    go true = refl
    go false = refl

-- what twelve fields taken one after another say of a line
module _ (line : List ℕ) where
  all_fields : Codes
  all_fields = taken_from columns line 0

  codes_so : all_fields.codes ≡ line_codes line
  unfolding all_fields
  codes_so = (follows columns line 0).codes_so ∙ ap (codes_of columns) (fields_start line)

  well_so : all known all_fields.codes && ltb (length line) all_fields.end && dashes_agree all_fields.codes ≡ well_formed line
  unfolding all_fields well_formed
  well_so =
      ap₂ (λ (a b : Bool). a && b)
      (ap₂ (λ (a b : Bool). a && b) (ap (all known) codes_so)
      ((follows columns line 0).end_so ∙ ap (λ (fs : List (List ℕ)). leb (length fs) (length columns)) (fields_start line))
      ∙ as_many (all known (line_codes line)) (length (fields_of line)) (length columns) (none_missing columns (fields_of line)))
      (ap dashes_agree codes_so)

-- THE CODES OF A LINE: what is taken are its fields, and it is well formed exactly when every code is known, the last field ends the line, and
-- the dashes agree
pub codes_found : (line : List ℕ) (t : Codes) (k d : Bool) → t ≡ taken_from columns line 0 → k ≡ all known t.codes → d ≡ dashes_agree t.codes
    → (t.codes ≡ line_codes line) × (k && ltb (length line) t.end && d ≡ well_formed line)
unfolding all_fields
codes_found line t k d e h g = (
  ap (λ (u : Codes). u.codes) e ∙ codes_so line,
  ap₂ (λ (a b : Bool). a && ltb (length line) t.end && b) h g
      ∙ ap (λ (u : Codes). all known u.codes && ltb (length line) u.end && dashes_agree u.codes) e ∙ well_so line,
)

-- the same of what `take_all` finds
module _ (line : List ℕ) (r : Option Codes) (e : r ≡ if_all_known (taken_from columns line 0)) where
  some_so : {t : Codes} → r ≡ Some t → (t ≡ taken_from columns line 0) × (true ≡ all known t.codes)
  unfolding all_fields
  some_so {t} f = go (all known (all_fields line).codes) refl (sym e ∙ f)
    where
      go : (b : Bool) → all known (all_fields line).codes ≡ b → cond b (Some (all_fields line)) None ≡ Some t → (t ≡ all_fields line) × (true ≡ all known t.codes)
      go true k l = (cc, cc)
      go false k l = absurd (cc)

  pub none_found : r ≡ None → None ≡ codes_in line
  unfolding all_fields
  none_found f = go (all known (all_fields line).codes) refl (sym e ∙ f)
    where
      go : (b : Bool) → all known (all_fields line).codes ≡ b → cond b (Some (all_fields line)) None ≡ None → None ≡ codes_in line
      go true k l = absurd (cc)
      go false k l =
          ap (λ (b : Bool). cond b (Some (line_codes line)) None)
          (codes_found line (all_fields line) false (dashes_agree (all_fields line).codes) refl (sym k) refl).1

  module _ {t : Codes} (f : r ≡ Some t) where
    found : (t.codes ≡ line_codes line) × (ltb (length line) t.end && dashes_agree t.codes ≡ well_formed line)
    found = codes_found line t true (dashes_agree t.codes) (some_so f).0 (some_so f).1 refl

    pub ill_found : ltb (length line) t.end && dashes_agree t.codes ≡ false → None ≡ codes_in line
    ill_found h = ap (λ (b : Bool). cond b (Some (line_codes line)) None) (sym h ∙ found.1)

    pub well_found : ltb (length line) t.end && dashes_agree t.codes ≡ true → Some t.codes ≡ codes_in line
    well_found h = ap Some found.0 ∙ ap (λ (b : Bool). cond b (Some (line_codes line)) None) (sym h ∙ found.1)

-- codes, and the offset behind their fields
the_codes : List ℕ → ℕ → Codes
the_codes codes end = record { codes = codes; end = end }

-- THE FIRST n FIELDS are taken, and each is known
pub record TakenSoFar (line codes : List ℕ) (at n : ℕ) : Type 0 where
  pub long : length codes ≡ length columns
  pub known_so : all known (take n codes) ≡ true
  pub codes_so : take n codes ++ (taken_from (drop n columns) line at).codes ≡ (taken_from columns line 0).codes
  pub end_so : (taken_from (drop n columns) line at).end ≡ (taken_from columns line 0).end

pub taken_start : (line codes : List ℕ) → length codes ≡ length columns → TakenSoFar line codes 0 0
taken_start line codes h = record { long = h; known_so = refl; codes_so = refl; end_so = refl }

all_append : (xs ys : List ℕ) → all known (xs ++ ys) ≡ all known xs && all known ys
all_append [] ys = refl
all_append (x ∷ xs) ys = ap (λ (b : Bool). known x && b) (all_append xs ys) ∙ sym (and_assoc (known x) (all known xs) (all known ys))

module _ {line codes : List ℕ} {at n : ℕ} (t : TakenSoFar line codes at n) where
  module _ (h : n < length columns) where
    here : Taken
    here = taken_at n line at

    ahead : drop n columns ≡ in_column n ∷ drop (suc n) columns
    unfolding in_column
    ahead = drop-cons columns n (λ (field : List ℕ). unknown) h

    rest : Codes
    rest = taken_from (drop (suc n) columns) line here.next

    first_code : (taken_from (drop n columns) line at).codes ≡ here.code ∷ rest.codes
    unfolding taken_at here rest
    first_code = ap (λ (cs : List (List ℕ → ℕ)). (taken_from cs line at).codes) ahead

    same_end : (taken_from (drop n columns) line at).end ≡ rest.end
    unfolding taken_at here rest
    same_end = ap (λ (cs : List (List ℕ → ℕ)). (taken_from cs line at).end) ahead

    pub unknown_next : None ≡ if_known (taken_at n line at) → None ≡ if_all_known (taken_from columns line 0)
    unfolding here
    unknown_next e = go (known here.code) refl e
      where
        go : (b : Bool) → known here.code ≡ b → None ≡ cond b (Some here) None → None ≡ if_all_known (taken_from columns line 0)
        go true k l = absurd (cc)
        go false k l =
            ap (λ (b : Bool). cond b (Some (taken_from columns line 0)) None)
            (sym (ap (all known) (sym t.codes_so ∙ ap (λ (s : List ℕ). take n codes ++ s) first_code)
            ∙ all_append (take n codes) (here.code ∷ rest.codes)
            ∙ ap₂ (λ (a b : Bool). a && (b && all known rest.codes)) t.known_so k))

    pub known_next : {f : Taken} → Some f ≡ if_known (taken_at n line at) → TakenSoFar line (set codes n f.code) f.next (n + 1)
    unfolding here rest
    known_next {f} e = go (known here.code) refl e
      where
        go : (b : Bool) → known here.code ≡ b → Some f ≡ cond b (Some here) None → TakenSoFar line (set codes n f.code) f.next (n + 1)
        go false k l = absurd (cc)
        go true k l =
            let same : f ≡ here = cc in
            let front : take (n + 1) (set codes n f.code) ≡ take n codes ++ (here.code ∷ []) =
            ap (λ (j : ℕ). take j (set codes n f.code)) (add-one n)
            ∙ take-suc-set codes n f.code (omega (arith, t.long, h))
            ∙ ap (λ (g : Taken). take n codes ++ (g.code ∷ [])) same in
            record {
              long = length-set codes n f.code ∙ t.long;
              known_so = ap (all known) front ∙ all_append (take n codes) (here.code ∷ [])
                  ∙ ap₂ (λ (a b : Bool). a && (b && true)) t.known_so k;
              codes_so =
                  ap₂ (λ (s : List ℕ) (u : Codes). s ++ u.codes) front (ap₂ (λ (j : ℕ) (g : Taken). taken_from (drop j columns) line g.next) (add-one n) same)
                  ∙ append_assoc (take n codes) (here.code ∷ []) rest.codes
                  ∙ ap (λ (s : List ℕ). take n codes ++ s) (sym first_code)
                  ∙ t.codes_so;
              end_so =
                  ap₂ (λ (j : ℕ) (g : Taken). (taken_from (drop j columns) line g.next).end) (add-one n) same
                  ∙ sym same_end ∙ t.end_so;
            }

  pub all_next : length columns ≤ n → Some (record { codes = codes; end = at }) ≡ if_all_known (taken_from columns line 0)
  unfolding the_codes
  all_next h =
      ap Some as_one ∙ sym (ap (λ (b : Bool). cond b (Some (taken_from columns line 0)) None) (ap (λ (u : Codes). all known u.codes) (sym as_one) ∙ all_so))
    where
      none_left : drop n columns ≡ []
      none_left = drop_of_length-le columns {i = n} h

      whole : take n codes ≡ codes
      whole = take_all n codes (omega (arith, t.long, h))

      all_so : all known codes ≡ true
      all_so = ap (all known) (sym whole) ∙ t.known_so

      as_one : the_codes codes at ≡ taken_from columns line 0
      as_one = ap₂ the_codes
          (sym whole ∙ sym (append-nil (take n codes)) ∙ ap (λ (cs : List (List ℕ → ℕ)). take n codes ++ (taken_from cs line at).codes) (sym none_left) ∙ t.codes_so)
          (ap (λ (cs : List (List ℕ → ℕ)). (taken_from cs line at).end) (sym none_left) ∙ t.end_so)

-- A LIST WHOSE NUMBERS are those of another, each changed
pub map_at : (f : ℕ → ℕ) (xs ys : List ℕ) → length ys ≡ length xs → ((i : ℕ) → i < length xs → get_or ys i 0 ≡ f (get_or xs i 0)) → ys ≡ map f xs
map_at f [] [] h k = refl
map_at f [] (y ∷ ys) h k = absurd (omega (arith, h))
map_at f (x ∷ xs) [] h k = absurd (omega (arith, h))
map_at f (x ∷ xs) (y ∷ ys) h k =
    ap₂ (λ (z : ℕ) (zs : List ℕ). z ∷ zs) (k 0 (omega arith)) (map_at f xs ys (omega (arith, h)) (λ i l. k (suc i) (omega (arith, l))))

-- THE EVENT'S BYTES, from their parts
abbrev pub four : List ℕ → List ℕ → List ℕ
four w s = get_or w 0 0 ∷ get_or w 1 0 ∷ get_or w 2 0 ∷ get_or w 3 0 ∷ s

abbrev pub two : List ℕ → List ℕ → List ℕ
two w s = get_or w 0 0 ∷ get_or w 1 0 ∷ s

four_so : (a : Answer) (s : List ℕ) → four (wire a) s ≡ take 4 (wire a) ++ s
four_so (SnpResp r NoForward) s = refl
four_so (SnpResp r (CompData f x)) s = refl
four_so (SnpRespData r NoForward) s = refl
four_so (SnpRespData r (CompData f x)) s = refl
four_so (SnpRespDataPtl r) s = refl

two_so : (f : Forward) (s : List ℕ) → two (forward_wire f) s ≡ forward_wire f ++ s
two_so NoForward s = refl
two_so (CompData f x) s = refl

module _ (codes : List ℕ) where
  front : List ℕ → List ℕ
  front s = request_code codes ∷ ret_to_src_code codes ∷ do_not_go_to_sd_code codes ∷ excl_code codes ∷ tag_code codes ∷ s

  middle : List ℕ → List ℕ
  middle s = tag_op_code codes ∷ resp_err_code codes ∷ s

  pub event_parts : {a : Answer} {f : Forward} (w v : List ℕ) (x : ℕ) → a ≡ answer_at (response_code codes) → w ≡ wire a → f ≡ sent_of codes → v ≡ forward_wire f
      → x ≡ forward_error f
      → request_code codes ∷ ret_to_src_code codes ∷ do_not_go_to_sd_code codes ∷ excl_code codes ∷ tag_code codes
      ∷ four w (tag_op_code codes ∷ resp_err_code codes ∷ two v (final_code codes ∷ x ∷ []))
      ≡ event_of codes
  unfolding front middle event_of
  event_parts w v x a-so w-so f-so v-so x-so =
      let last = final_code codes ∷ forward_error (sent_of codes) ∷ [] in
      ap₂ (λ (y : List ℕ) (z : ℕ). front (four y (middle (two v (final_code codes ∷ z ∷ []))))) (w-so ∙ ap wire a-so) (x-so ∙ ap forward_error f-so)
      ∙ ap (λ (y : List ℕ). front (four (wire (answer_at (response_code codes))) (middle (two y last)))) (v-so ∙ ap forward_wire f-so)
      ∙ ap front (four_so (answer_at (response_code codes)) (middle (two (forward_wire (sent_of codes)) last)))
      ∙ ap (λ (l : List ℕ). front (take 4 (wire (answer_at (response_code codes))) ++ middle l)) (two_so (sent_of codes) last)

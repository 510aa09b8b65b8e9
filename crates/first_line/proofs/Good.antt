-- A line whose fields are all met in place: it is the first line of the text, and the general way reads the same codes.
-- Assumes nothing.
use Rattle.std.proofs.Common.{Some, Result}
use mathlib.Core.Path.{◌≡◌, refl, sym, ◌∙◌, ap, ap₂, subst}
use mathlib.Core.Bool.{Bool, true, false, cond, not, ◌&&◌, ◌||◌}
use mathlib.Core.List.{List, [], ◌∷◌, ◌++◌, append_assoc}
use Prim.Native.Nat.{ℕ, zero, suc, ◌+◌, ◌-◌, ◌≤◌}
use native.Mathlib.Nat.{zero-add}
use native.Mathlib.Omega.{arith}
use borrow.Author.Tests.{not-true, le-leb}
use lib.Dec.{eqb}
use lib.ListN.{length, take, drop, length-append, length-take, take-append-drop}
use lib.Seq.{drop-drop, drop_at, take_at}
use Rattle.kinds.specs.Tests.{all}
use Rattle.kinds.proofs.Lists.{and_left, and_right, and_both, all_append}
use Rattle.text.specs.Text.{comma, CR, eol, on_first}
use Rattle.lines.specs.Lines.{crlf}
use Rattle.lines.specs.Seen.{longest, too_long, reach, line_end}
use Rattle.lines.proofs.Laws.{first_CR}
use Rattle.lines.proofs.Parting.{reach_within}
use Rattle.fields.specs.Fields.{fields_of}
use Rattle.names.specs.Names.{columns}
use Rattle.parser.specs.declared.Taken.{Taken}
use Rattle.parser.specs.declared.Codes.{Codes}
use Rattle.parser.specs.Parsed.{Parsed, codes_of, known, dashes_agree, well_formed, refused_parse, parsed}
use Rattle.parser.specs.Code.{line_of}
use Rattle.parser.proofs.Events.{line_well, same_numbers}
use Rattle.parser.specs.declared.Line.{Line}
use Rattle.kinds.specs.declared.Refusal.{Refusal}
use Rattle.first_line.specs.First.{First, first_in_numbers, line_to, first_line}
use Rattle.first_line.specs.declared.FirstLine.{FirstLine}
use Rattle.first_line.specs.InPlace.{plain, Met, Takes, MetAll, last, more, no_cr, Leads}

-- a field that is taken stands first, with the others behind it; the last one stands with CR LF
pub met_more : {column : List ℕ → ℕ} {others : List (List ℕ → ℕ)} {text after : List ℕ} {at code next : ℕ} {codes : List ℕ} {end : ℕ}
    → Takes [] column (comma ∷ []) text at (Some (record { code = code; next = next })) → after ≡ text → MetAll others after next codes end
    → MetAll (column ∷ others) text at (code ∷ codes) end
met_more {others = others} {next = next} {codes = codes} {end} t e m = more t.met (subst (λ (s : List ℕ). MetAll others s next codes end) e m)

pub met_last : {column : List ℕ → ℕ} {text : List ℕ} {at code next : ℕ} → Takes [] column eol text at (Some (record { code = code; next = next }))
    → MetAll (column ∷ []) text at (code ∷ []) next
met_last t = last t.met

-- THE LINE OF SUCH FIELDS

-- a field that is met stands in the text, with its mark behind it
parted : {column : List ℕ → ℕ} {mark text : List ℕ} {at : ℕ} {r : Taken} (m : Met [] column mark text at r)
    → drop at text ≡ m.rest ++ (mark ++ drop r.next text)
parted {column} {mark} {text} {at} {r} m =
    let n : ℕ = length (m.rest ++ mark) in
    sym (take-append-drop n (drop at text))
    ∙ ap₂ ◌++◌ m.stands.here (drop-drop n at text ∙ ap (λ (k : ℕ). drop k text) (sym m.stands.next_so))
    ∙ append_assoc m.rest mark (drop r.next text)

plain_comma : (b : ℕ) → plain b ≡ true → eqb b comma ≡ false
plain_comma b h = not-true (eqb b comma) (and_left (not (eqb b comma)) (not (eqb b CR)) h)

plain_cr : (f : List ℕ) → all plain f ≡ true → all no_cr f ≡ true
plain_cr [] h = refl
plain_cr (b ∷ f) h =
    and_both (and_right (not (eqb b comma)) (not (eqb b CR)) (and_left (plain b) (all plain f) h)) (plain_cr f (and_right (plain b) (all plain f) h))

-- a field alone, and a field before others
one_field : (f : List ℕ) → all plain f ≡ true → fields_of f ≡ f ∷ []
one_field [] h = refl
one_field (b ∷ f) h =
    ap₂ (λ (t : Bool) (fs : List (List ℕ)). cond t ([] ∷ fields_of f) (on_first b fs)) (plain_comma b (and_left (plain b) (all plain f) h))
    (one_field f (and_right (plain b) (all plain f) h))

field_then : (f line : List ℕ) → all plain f ≡ true → fields_of (f ++ (comma ∷ line)) ≡ f ∷ fields_of line
field_then [] line h = refl
field_then (b ∷ f) line h =
    ap₂ (λ (t : Bool) (fs : List (List ℕ)). cond t ([] ∷ fields_of (f ++ (comma ∷ line))) (on_first b fs)) (plain_comma b (and_left (plain b) (all plain f) h))
    (field_then f line (and_right (plain b) (all plain f) h))

-- the line: its fields have these codes, no CR is in it, and CR LF stands behind it
pub record LineMet (cs : List (List ℕ → ℕ)) (text : List ℕ) (at : ℕ) (codes : List ℕ) (end : ℕ) : Type 0 where
  pub line : List ℕ
  pub starts_so : drop at text ≡ line ++ (eol ++ drop end text)
  pub codes_so : codes_of cs (fields_of line) ≡ codes
  pub many : length (fields_of line) ≡ length cs
  pub all_known : all known codes ≡ true
  pub no_cr : all no_cr line ≡ true
  pub end_so : end ≡ at + length line + 2

pub line_met : {cs : List (List ℕ → ℕ)} {text : List ℕ} {at : ℕ} {codes : List ℕ} {end : ℕ} → MetAll cs text at codes end → LineMet cs text at codes end
line_met (last {column} {text} {at} {r} m) = record {
  line = m.rest;
  starts_so = parted m;
  codes_so = ap (codes_of (column ∷ [])) (one_field m.rest m.plainly) ∙ ap (λ (c : ℕ). c ∷ []) m.code_so;
  many = ap length (one_field m.rest m.plainly);
  all_known = and_both m.known_so refl;
  no_cr = plain_cr m.rest m.plainly;
  end_so = let n : length (m.rest ++ eol) ≡ length m.rest + 2 = length-append m.rest eol in omega (arith, m.stands.next_so);
}
line_met (more {column} {others} {text} {at} {r} {codes} {end} m rest) = behind_it (line_met rest)
  where
    behind_it : LineMet others text r.next codes end → LineMet (column ∷ others) text at (r.code ∷ codes) end
    behind_it l = record {
      line = m.rest ++ (comma ∷ l.line);
      starts_so = parted m ∙ ap (λ (s : List ℕ). m.rest ++ (comma ∷ s)) l.starts_so ∙ sym (append_assoc m.rest (comma ∷ l.line) (eol ++ drop end text));
      codes_so = ap (codes_of (column ∷ others)) (field_then m.rest l.line m.plainly) ∙ ap₂ ◌∷◌ m.code_so l.codes_so;
      many = ap length (field_then m.rest l.line m.plainly) ∙ ap suc l.many;
      all_known = and_both m.known_so l.all_known;
      no_cr = all_append no_cr m.rest (comma ∷ l.line) ∙ and_both (plain_cr m.rest m.plainly) l.no_cr;
      end_so =
          let n : length (m.rest ++ (comma ∷ l.line)) ≡ length m.rest + suc (length l.line) = length-append m.rest (comma ∷ l.line) in
          let k : length (m.rest ++ (comma ∷ [])) ≡ length m.rest + 1 = length-append m.rest (comma ∷ []) in
          omega (arith, m.stands.next_so, l.end_so);
    }

-- THE FIRST LINE OF A TEXT

-- a line without CR reaches up to its CR LF
reach_line : (n : ℕ) (line rest : List ℕ) → all no_cr line ≡ true → length line ≤ n → reach n (line ++ (eol ++ rest)) ≡ length line
reach_line zero [] rest h k = refl
reach_line (suc n) [] rest h k = refl
reach_line zero (b ∷ line) rest h k = absurd (omega arith)
reach_line (suc n) (b ∷ line) rest h k =
    ap₂ (λ (t : Bool) (m : ℕ). cond t 0 (suc m)) (first_CR b (line ++ (eol ++ rest)) (not-true (eqb b CR) (and_left (no_cr b) (all no_cr line) h)))
    (reach_line n line rest (and_right (no_cr b) (all no_cr line) h) (omega arith))

-- a text that begins with a line in a window of it
pub first_good : (text : List ℕ) (n : ℕ) (r : First) (ended : Bool) → n ≤ longest + 2 → Leads (take n text) r → r ≡ first_line true ended text
unfolding first_line
first_good text n r ended few l =
    l.r_so
    ∙ ap₂ (λ (m : ℕ) (s : List ℕ). record { line = parsed s; end = m; whole = true }) (sym reaches) (sym first)
    ∙ ap₂ (λ (t u : Bool). record { line = cond ((t || ended) && u) (parsed (take (reach too_long text) text)) (refused_parse 8); end = reach too_long text; whole = t })
    (sym ends) (sym (le-leb (reach too_long text) longest (subst (λ (m : ℕ). m ≤ longest) (sym reaches) short)))
  where
    behind : List ℕ
    behind = l.rest ++ drop n text

    whole_text : text ≡ l.line ++ (eol ++ behind)
    whole_text =
        sym (take-append-drop n text) ∙ ap (λ (s : List ℕ). s ++ drop n text) l.starts_so
        ∙ append_assoc l.line (eol ++ l.rest) (drop n text)

    short : length l.line ≤ longest
    short =
        let e : length (take n text) ≡ length l.line + suc (suc (length l.rest)) = ap length l.starts_so ∙ length-append l.line (eol ++ l.rest) in
        omega (arith, length-take n text)

    reaches : reach too_long text ≡ length l.line
    reaches = ap (reach too_long) whole_text ∙ reach_line too_long l.line behind l.no_cr (omega (arith, short))

    first : take (reach too_long text) text ≡ l.line
    first = ap₂ take reaches whole_text ∙ take_at l.line (eol ++ behind) (length l.line) refl

    ends : crlf (drop (reach too_long text) text) ≡ true
    ends = ap crlf (ap₂ drop reaches whole_text ∙ drop_at l.line (eol ++ behind) (length l.line) refl)

-- what `good_line` sees: the last code is known, and the dashes agree
pub good_leads : {text : List ℕ} (t : Codes) {line : Parsed} → MetAll columns text 0 t.codes t.end → dashes_agree t.codes ≡ true
    → line ≡ line_of t.codes → Leads text (record { line = line; end = t.end - 2; whole = true })
unfolding well_formed columns
good_leads {text} t {line} m f e =
    let l = line_met m in
    let well : well_formed l.line ≡ true =
    ap₂ (λ (n : ℕ) (cs : List ℕ). eqb n (length columns) && all known cs && dashes_agree cs) l.many l.codes_so
    ∙ ap₂ (λ (a b : Bool). eqb (length columns) (length columns) && a && b) l.all_known f in
    let end : t.end - 2 ≡ length l.line = omega (arith, l.end_so) in
    record {
      line = l.line;
      rest = drop t.end text;
      starts_so = l.starts_so;
      no_cr = l.no_cr;
      r_so =
          ap₂ (λ (p : Parsed) (n : ℕ). record { line = p; end = n; whole = true })
          (e ∙ ap line_of (sym l.codes_so) ∙ line_well l.line well) end;
    }

-- CR LF stands behind the fields, so their end is at least 2
pub met_end : {text : List ℕ} (t : Codes) → MetAll columns text 0 t.codes t.end → 2 ≤ t.end
met_end t m = omega (arith, (line_met m).end_so)

-- the first line, read the general way
pub any_first : (asked ended : Bool) (text : List ℕ) {line : Parsed} {end : ℕ} {whole : Bool} → end ≡ line_end text 0 → whole ≡ crlf (drop end text)
    → line ≡ line_to (asked && (whole || ended)) end text → record { line = line; end = end; whole = whole } ≡ first_line asked ended text
unfolding first_line line_end
any_first asked ended text {line} {end} {whole} e w p =
    let at : end ≡ reach too_long text = e ∙ zero-add (reach too_long text) in
    ap₂ (λ (l : Parsed) (b : Bool). record { line = l; end = end; whole = b }) (p ∙ ap (λ (b : Bool). line_to (asked && (b || ended)) end text) w) w
    ∙ ap (λ (n : ℕ). record { line = line_to (asked && (crlf (drop n text) || ended)) n text; end = n; whole = crlf (drop n text) }) at

pub end_inside : (text : List ℕ) {end : ℕ} → end ≡ line_end text 0 → end ≤ length text
unfolding line_end
end_inside text e = subst (λ (n : ℕ). n ≤ length text) (sym (e ∙ zero-add (reach too_long text))) (reach_within too_long text)

-- NO TWO RESULTS HAVE THE SAME NUMBERS
pub same_first : (f g : FirstLine) → first_in_numbers f ≡ first_in_numbers g → f ≡ g
same_first f g h =
    ap (λ (l : Result Line Refusal). record { line = l; end = f.end; whole = f.whole }) (same_numbers f.line g.line (ap (λ (p : First). p.line) h))
    ∙ ap (λ (p : First). record { line = g.line; end = p.end; whole = p.whole }) h

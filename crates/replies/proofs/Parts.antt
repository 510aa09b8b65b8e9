-- Laws about the parts of a line: what each function has written.
-- Assumes nothing.
use mathlib.Core.Path.{◌≡◌, refl, sym, ◌∙◌, ap, ap₂}
use mathlib.Core.List.{List, [], ◌∷◌, ◌++◌}
use Prim.Native.Nat.{ℕ, suc, ◌+◌, ◌%◌, ◌/◌, ◌^◌, ◌<◌, ◌≤◌}
use native.Mathlib.Omega.{arith}
use lib.ListN.{length, take, drop}
use lib.Seq.{take_all}
use denote.Bor.{Bor}
use mathlib.Core.List.{map, append-nil}
use Rattle.std.proofs.lemmas.List.{take_more, get_or-map, length-map}
use lib.ListN.{get_or}
use Rattle.kinds.specs.declared.LineState.{LineState}
use Rattle.steps.specs.Steps.{no_duty}
use Rattle.verdicts.specs.Verdicts.{explained}
use Rattle.verdicts.specs.declared.Finding.{Finding}
use Rattle.text.specs.Text.{bytes, comma, eol}
use Rattle.replies.specs.Laid.{Laid, lay, lay_all, concat}
use Rattle.replies.specs.Replies.{decimal_text}
use Rattle.replies.specs.Replies.{state_text, states_texts, answer_texts, refusal_texts}
use Rattle.replies.specs.Code.{two_digits, verdict_part, duty_part, explained_text, last_texts, judged_texts}
use Rattle.replies.proofs.Laying.{lay_lay, lay_one, lay_all_append}
use Rattle.replies.proofs.Decimal.{most, decimal_hundreds, decimal_short}

-- one more text
then : {r r' k : Laid} (t : List ℕ) → r' ≡ lay r t → r ≡ k → r' ≡ lay k t
then t e h = e ∙ ap (λ (x : Laid). lay x t) h

-- a number of three digits or more: its hundreds, then its last two digits
pub hundreds_laid : {r r' : Laid} (l : Laid) (k n : ℕ) → 99 < n → n < most → n < 10 ^ suc k → l.at + suc k ≤ length l.out
    → r ≡ lay l (decimal_text (n / 100)) → r' ≡ lay r (two_digits (n % 100)) → r' ≡ lay l (decimal_text n)
hundreds_laid l k n h m few room e f =
    let d : decimal_text n ≡ decimal_text (n / 100) ++ two_digits (n % 100) = decimal_hundreds n h m in
    then _ f e
    ∙ lay_lay l (decimal_text (n / 100)) (two_digits (n % 100)) (omega (arith, decimal_short k n few, ap length d))
    ∙ ap (lay l) (sym d)

-- the parts of a code, written as one text
pub one_text : {r : Laid} (l : Laid) (texts : ℕ → List (List ℕ)) (code : ℕ) {n : ℕ} (s : List ℕ) → n ≡ code → concat (texts code) ≡ s
    → l.at + length s ≤ length l.out → r ≡ lay l s → r ≡ lay_all l (texts n)
one_text l texts code s h e room f = lay_one l (texts code) s e room f ∙ ap (λ (m : ℕ). lay_all l (texts m)) (sym h)

-- the states of a set, then the end of the line
pub ended : {r r' : Laid} (l : Laid) (m : ℕ) → r ≡ lay_all l (states_texts m) → r' ≡ lay r eol → r' ≡ lay_all l (last_texts m)
ended l m e f = then _ f e ∙ sym (lay_all_append l (states_texts m) (eol ∷ []))

-- verdict and duty, then the states
pub judged : {r₁ r₂ r₃ : Laid} (l : Laid) (found : Finding) → r₁ ≡ lay l (verdict_part found.verdict.0) → r₂ ≡ lay r₁ (duty_part found.duty.0)
    → r₃ ≡ lay_all r₂ (last_texts found.after) → r₃ ≡ lay_all l (judged_texts found)
judged l found e₁ e₂ e₃ = e₃ ∙ ap (λ (x : Laid). lay_all x (last_texts found.after)) (then _ e₂ e₁)

-- an event that is explained
pub judged_explained : {r r' : Laid} (l : Laid) (found : Finding) → found.verdict.0 ≡ explained → l.at + length (explained_text found.duty.0) ≤ length l.out
    → r ≡ lay l (explained_text found.duty.0) → r' ≡ lay_all r (last_texts found.after) → r' ≡ lay_all l (judged_texts found)
judged_explained l found h room e f =
    f ∙ ap (λ (x : Laid). lay_all x (last_texts found.after))
    (lay_one l (verdict_part explained ∷ duty_part found.duty.0 ∷ []) (explained_text found.duty.0) (ap (λ (s : List ℕ). verdict_part explained ++ s) (append-nil (duty_part found.duty.0))) room e)
    ∙ ap (λ (v : ℕ). lay_all l (verdict_part v ∷ duty_part found.duty.0 ∷ last_texts found.after)) (sym h)

-- an event that is not: no duty, and no states
pub judged_plain : {r : Laid} (l : Laid) (found : Finding) (code : ℕ) (s : List ℕ) → found.verdict.0 ≡ code → found.duty.0 ≡ no_duty → found.after ≡ 0
    → concat (verdict_part code ∷ duty_part no_duty ∷ last_texts 0) ≡ s → l.at + length s ≤ length l.out → r ≡ lay l s → r ≡ lay_all l (judged_texts found)
judged_plain l found code s h₀ h₁ h₂ e room f =
    let same : judged_texts found ≡ verdict_part code ∷ duty_part no_duty ∷ last_texts 0 =
    ap₂ (λ (v d : ℕ). verdict_part v ∷ duty_part d ∷ last_texts found.after) h₀ h₁
    ∙ ap (λ (m : ℕ). verdict_part code ∷ duty_part no_duty ∷ last_texts m) h₂ in
    lay_one l (judged_texts found) s (ap concat same ∙ e) room f

-- the number, then what stands behind it
pub answered : {r r' : Laid} (l : Laid) (k : ℕ) (found : Finding) → r ≡ lay l (decimal_text k) → r' ≡ lay_all r (judged_texts found)
    → r' ≡ lay_all l (answer_texts k found)
unfolding answer_texts
answered l k found e f = f ∙ ap (λ (x : Laid). lay_all x (judged_texts found)) e

-- the parts of a refusal's line, in their order
pub refused : {r₀ r₁ r₂ r₃ r₄ : Laid} (l : Laid) (number line : ℕ) → r₀ ≡ lay l (bytes "refused,") → r₁ ≡ lay r₀ (decimal_text number) → r₂ ≡ lay r₁ (comma ∷ [])
    → r₃ ≡ lay r₂ (decimal_text line) → r₄ ≡ lay r₃ eol → r₄ ≡ lay_all l (refusal_texts number line)
unfolding refusal_texts
refused l number line e₀ e₁ e₂ e₃ e₄ = then _ e₄ (then _ e₃ (then _ e₂ (then _ e₁ e₀)))

-- the text of a state with its name
abbrev pub item_text : ℕ → LineState × Bor (List ℕ) → List ℕ
item_text m x = state_text m x.0.0 (drop 1 x.1.now)

-- the states up to one of them, laid in their order
pub record StatesLaid (m : ℕ) (l : Laid) (items : List (LineState × Bor (List ℕ))) (k : ℕ) (r : Laid) : Type 0 where
  pub same : map (item_text m) items ≡ states_texts m
  pub so : r ≡ lay_all l (take k (states_texts m))

pub states_start : (m : ℕ) (l : Laid) (items : List (LineState × Bor (List ℕ))) → map (item_text m) items ≡ states_texts m → StatesLaid m l items 0 l
states_start m l items e = record { same = e; so = refl }

pub states_next : {m : ℕ} {l : Laid} {items : List (LineState × Bor (List ℕ))} {k : ℕ} {r r' : Laid} (x : LineState × Bor (List ℕ)) → StatesLaid m l items k r
    → k < length items → r' ≡ lay r (item_text m (get_or items k x)) → StatesLaid m l items (k + 1) r'
states_next {m} {l} {items} {k} x c h f =
    let texts : List (List ℕ) = states_texts m in
    let at : get_or texts k [] ≡ item_text m (get_or items k x) = ap (λ (ts : List (List ℕ)). get_or ts k []) (sym c.same) ∙ get_or-map (item_text m) items k x [] h in
    let more : take (k + 1) texts ≡ take k texts ++ get_or texts k [] ∷ [] = take_more texts k [] (omega (arith, ap length c.same, length-map items (item_text m))) in
    record {
      same = c.same;
      so =
          f ∙ ap₂ lay c.so (sym at)
          ∙ sym (lay_all_append l (take k texts) (get_or texts k [] ∷ []))
          ∙ ap (lay_all l) (sym more);
    }

pub states_end : {m : ℕ} {l : Laid} {items : List (LineState × Bor (List ℕ))} {k : ℕ} {r : Laid} → StatesLaid m l items k r → length items ≤ k → r ≡ lay_all l (states_texts m)
states_end {m} {l} {items} {k} c h = c.so ∙ ap (lay_all l) (take_all k (states_texts m) (omega (arith, ap length c.same, length-map items (item_text m))))

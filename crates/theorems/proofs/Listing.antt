-- Laws about the list of permitted answers: the event that a question and an answer make, and facts computed for every question.
-- Assumes nothing.
use mathlib.Core.Path.{◌≡◌, refl, sym, ◌∙◌, ap, ap₂, subst}
use mathlib.Core.Bool.{Bool, true, false, cond, ◌&&◌, ◌||◌, false≢true}
use mathlib.Core.List.{List, [], ◌∷◌}
use Prim.Native.Nat.{ℕ, zero, suc, ◌+◌, ◌<◌}
use native.Mathlib.Nat.{le_of_suc-le-suc, add-zero}
use native.Mathlib.Omega.{arith}
use borrow.Author.Tests.{ltb-true, lt-ltb, leb-true, eqb-true, eq-eqb, ne_eqb}
use lib.Dec.{eqb, ltb, leb}
use lib.ListN.{length, get_or}
use Rattle.kinds.specs.Tests.{any, all, same, ◌∈?◌}
use Rattle.kinds.specs.Codes.{tags, tag_not_seen, state_not_seen}
use Rattle.kinds.specs.Places.{event_length}
use Rattle.kinds.proofs.Lists.{and_left, and_right, and_both, or_right}
use Rattle.rows.specs.Event.{byte, seen}
use Rattle.rows.specs.Permitted.{permitted}
use Rattle.steps.specs.Steps.{Step}
use Rattle.event.specs.Refusals.{issue_e, below, fault, refusal_alone}
use Rattle.answers.specs.declared.Question.{Question}
use Rattle.answers.specs.Answers.{question_bytes, event_with, answer_limits, answers_to}
use Rattle.answers.specs.Listed.{asking}
use Rattle.answers.specs.Given.{Good}
use Rattle.answers.specs.Table.{spans, numbers}
use Rattle.answers.specs.Code.{span_of, answer_at, answers_in}
use Rattle.answers.proofs.Lists.{questions, question_at, every_question, table_right}
use Rattle.answers.proofs.Given.{good_fault}
use Rattle.theorems.specs.Alone.{AcceptedEvent}
use Rattle.theorems.specs.Listing.{InRange, nderr_answer, no_such_tags}
use Rattle.theorems.proofs.Judged.{number_alone}

-- a byte is below its limit
below_at : (a limits : List ℕ) (i k : ℕ) → below a i limits ≡ true → k < length limits → byte a (i + k) < get_or limits k 0
below_at a [] i k h b = absurd (omega arith)
below_at a (l ∷ ls) i zero h b = subst (λ (n : ℕ). byte a n < l) (sym (add-zero i)) (ltb-true (byte a i) l (and_left (ltb (byte a i) l) (below a (suc i) ls) h))
below_at a (l ∷ ls) i (suc k) h b =
    subst (λ (n : ℕ). byte a n < get_or ls k 0) (moved i k)
    (below_at a ls (suc i) k (and_right (ltb (byte a i) l) (below a (suc i) ls) h) (le_of_suc-le-suc b))
  where
    moved : (m n : ℕ) → suc m + n ≡ m + suc n
    moved m n = omega arith

-- limits that are nowhere lower than others
wider : List ℕ → List ℕ → Bool
wider ls [] = true
wider [] (m ∷ ms) = false
wider (l ∷ ls) (m ∷ ms) = leb l m && wider ls ms

below_wider : (a ls ms : List ℕ) (i : ℕ) → wider ls ms ≡ true → below a i ls ≡ true → below a i ms ≡ true
unfolding wider
below_wider a [] [] i w h = refl
below_wider a (l ∷ ls) [] i w h = refl
below_wider a [] (m ∷ ms) i w h = absurd (false≢true w)
below_wider a (l ∷ ls) (m ∷ ms) i w h =
    and_both
    (lt-ltb (byte a i) m (omega (arith, ltb-true (byte a i) l (and_left (ltb (byte a i) l) (below a (suc i) ls) h), leb-true l m (and_left (leb l m) (wider ls ms) w))))
    (below_wider a ls ms (suc i) (and_right (leb l m) (wider ls ms) w) (and_right (ltb (byte a i) l) (below a (suc i) ls) h))

-- the limits of a question's bytes 1 to 4 and of an answer
both_limits : List ℕ
both_limits = 2 ∷ 2 ∷ 2 ∷ 3 ∷ answer_limits issue_e

module _ (q : Question) (g : Good issue_e q) (a : List ℕ) (r : InRange a) where
  -- the event of a good question and an answer in range is in range
  event_below : below (event_with q a) 1 both_limits ≡ true
  unfolding both_limits
  event_below =
      let b = question_bytes q in
      let h = g.in_range in
      let t₁ = ltb (byte b 1) 2 in
      let t₂ = ltb (byte b 2) 2 in
      let t₃ = ltb (byte b 3) 2 in
      let t₄ = ltb (byte b 4) 3 in
      let t₅ = ltb (byte b 5) 7 && true in
      let h₂ = and_right t₁ (t₂ && (t₃ && (t₄ && t₅))) h in
      let h₃ = and_right t₂ (t₃ && (t₄ && t₅)) h₂ in
      let h₄ = and_right t₃ (t₄ && t₅) h₃ in
      and_both (and_left t₁ (t₂ && (t₃ && (t₄ && t₅))) h)
      (and_both (and_left t₂ (t₃ && (t₄ && t₅)) h₂)
      (and_both (and_left t₃ (t₄ && t₅) h₃)
      (and_both (and_left t₄ t₅ h₄) r.each)))

  -- it is accepted
  pub event_accepted : AcceptedEvent (event_with q a)
  unfolding refusal_alone fault both_limits wider
  event_accepted =
      number_alone (event_with q a)
      ∙ ap (λ (n : ℕ). cond (eqb (suc (suc (suc (suc (suc n))))) event_length) (fault issue_e (event_with q a)) 1) r.ten
      ∙ ap₂ (λ (x y : Bool). cond x (cond y 0 5) 4) (below_wider (event_with q a) both_limits issue_e.limits 1 refl event_below) g.known

  pub before_below : q.before.0 < 7
  before_below = below_at (question_bytes q) (asking issue_e).limits 1 4 g.in_range (omega arith)

  pub tag_below : q.tag.0 < 3
  tag_below = below_at (question_bytes q) (asking issue_e).limits 1 3 g.in_range (omega arith)

  pub after_below : byte a 8 < 7
  after_below = below_at a (answer_limits issue_e) 0 8 r.each (omega arith)

-- a tag state below 3 is one of the three, and was seen
tag_in : (t : ℕ) → t < 3 → t ∈? tags ≡ true
tag_in zero h = refl
tag_in (suc zero) h = refl
tag_in (suc (suc zero)) h = refl
tag_in (suc (suc (suc t))) h = absurd (omega arith)

seen_itself : (none x : ℕ) → seen none x x ≡ true
seen_itself none x = or_right (eqb x none) (eqb x x) (eq-eqb x x refl)

tag_seen_lem : (t u : ℕ) → t < 3 → seen tag_not_seen t u ≡ true → u ≡ t
tag_seen_lem t u h s = sym (eqb-true t u (sym (ap (λ (b : Bool). b || eqb t u) (ne_eqb t tag_not_seen (λ (z : t ≡ tag_not_seen). omega arith))) ∙ s))

-- with a seen tag state and a seen state after, a step is a permitted answer
pub step_permitted : (q : Question) (a : List ℕ) → q.tag.0 < 3 → Step (event_with q a) q.before.0 (byte a 8)
    → permitted (event_with q a) q.tag.0 q.before.0 (byte a 8) ≡ true
step_permitted q a h p =
    subst (λ (t : ℕ). permitted (event_with q a) t q.before.0 (byte a 8) ≡ true) (tag_seen_lem q.tag.0 p.tag h p.tag_seen) p.by_rows

pub permitted_step : (q : Question) (a : List ℕ) → q.tag.0 < 3 → permitted (event_with q a) q.tag.0 q.before.0 (byte a 8) ≡ true
    → Step (event_with q a) q.before.0 (byte a 8)
permitted_step q a h p =
    record {
      tag = q.tag.0;
      is_tag = tag_in q.tag.0 h;
      tag_seen = seen_itself tag_not_seen q.tag.0;
      after_seen = seen_itself state_not_seen (byte a 8);
      by_rows = p;
    }

-- NDERR's answer is in every list but those for Dirty tags with a state that has none, and those are empty
with_nderr : Question → Bool
with_nderr q = cond (no_such_tags q) (eqb (length (answers_in (span_of q))) 0) (any (same nderr_answer) (answers_in (span_of q)))

all_with_nderr : all (λ b. with_nderr (question_at b)) questions ≡ true
unfolding with_nderr questions spans numbers span_of answer_at answers_in
all_with_nderr = refl

pub nderr_test : (q : Question) → Good issue_e q → cond (no_such_tags q) (eqb (length (answers_to issue_e q)) 0) (any (same nderr_answer) (answers_to issue_e q)) ≡ true
unfolding with_nderr
nderr_test q g =
    subst (λ (ls : List (List ℕ)). cond (no_such_tags q) (eqb (length ls) 0) (any (same nderr_answer) ls) ≡ true) (table_right q (good_fault q g))
    (every_question with_nderr all_with_nderr q (good_fault q g))

-- a list of length 0 is empty
pub no_length : {A : Type 0} (l : List A) → eqb (length l) 0 ≡ true → l ≡ []
no_length [] h = refl
no_length (x ∷ l) h = absurd (none (eqb-true (length (x ∷ l)) 0 h))
  where
    none : suc (length l) ≡ 0 → ⊥
    none e = omega arith

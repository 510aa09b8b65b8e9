-- One iteration of the judging loop, over plain variables, and what all of them leave.
-- Assumes nothing.
use mathlib.Core.Path.{◌≡◌, sym, ◌∙◌, ap, ap₂}
use mathlib.Core.List.{List, ◌++◌}
use Prim.Native.Nat.{ℕ, suc, ◌+◌, ◌-◌, ◌<◌, ◌≤◌}
use native.Mathlib.Numerals.{add-one}
use native.Mathlib.Omega.{arith}
use lib.ListN.{length, take, set, length-set}
use lib.Seq.{take-suc-set, append_snoc}
use Rattle.kinds.specs.Places.{set_in, pair_in, event_in}
use Rattle.verdicts.specs.declared.Finding.{Finding}
use Rattle.verdicts.specs.Verdicts.{after_set, verdict, duty_byte, finding}
use Rattle.verdicts.specs.Looked.{found_by}
use Rattle.verdicts.proofs.Looked.{good_finding}
use Rattle.trace.specs.Events.{event_at, events_from, moved, run, outputs}
use Rattle.trace.specs.Code.{Good, OnTable}
use Rattle.trace.proofs.Laws.{minus_suc}

-- one event on the table, from the parts of its judging
pub on_table : {events pairs : List ℕ} {k : ℕ} {t : List ℕ} (p : ℕ) (e : List ℕ) (f : Finding) → Good events pairs t k
    → p ≡ pair_in pairs k → e ≡ event_in events k → f ≡ found_by e (set_in t p) → OnTable events pairs k t f (set t p f.after)
on_table {events} {pairs} {k} {t} p e f g h₁ h₂ h₃ =
    let is : f ≡ finding (event_in events k) (set_in t (pair_in pairs k)) =
    h₃ ∙ ap₂ (λ (x : List ℕ) (y : ℕ). found_by x (set_in t y)) h₂ h₁ ∙ good_finding (event_in events k) (set_in t (pair_in pairs k)) g.no_fault in
    record { is_found = is; in_table = ap₂ (λ (x : ℕ) (y : Finding). set t x y.after) h₁ is }

-- one output buffer after k events: its first k bytes and the bytes still to come are the whole output
pub record Filled (f : List ℕ → ℕ → ℕ) (events pairs t₀ : List ℕ) (k : ℕ) (t out : List ℕ) : Type 0 where
  pub so_far : take k out ++ outputs f t (events_from events pairs k (length pairs - k)) ≡ outputs f t₀ (events_from events pairs 0 (length pairs))
  pub long : length out ≡ length pairs

module _ (f : List ℕ → ℕ → ℕ) (events pairs t₀ : List ℕ) where
  filled_next : (k : ℕ) (t out t' out' : List ℕ) → Filled f events pairs t₀ k t out → k < length pairs → t' ≡ moved t (event_at events pairs k)
      → out' ≡ set out k (f (event_in events k) (set_in t (pair_in pairs k))) → Filled f events pairs t₀ (k + 1) t' out'
  filled_next k t out t' out' go h p q =
      let y = f (event_in events k) (set_in t (pair_in pairs k)) in
      let rest = outputs f (moved t (event_at events pairs k)) (events_from events pairs (suc k) (length pairs - suc k)) in
      record {
        so_far =
            ap₂ (λ (o u : List ℕ). take (k + 1) o ++ outputs f u (events_from events pairs (k + 1) (length pairs - (k + 1)))) q p
            ∙ ap (λ (i : ℕ). take i (set out k y) ++ outputs f (moved t (event_at events pairs k)) (events_from events pairs i (length pairs - i))) (add-one k)
            ∙ ap (λ (o : List ℕ). o ++ rest) (take-suc-set out k y (omega (arith, go.long)))
            ∙ append_snoc (take k out) y rest
            ∙ ap (λ (n : ℕ). take k out ++ outputs f t (events_from events pairs k n)) (sym (minus_suc (length pairs) k h))
            ∙ go.so_far;
        long = ap length q ∙ length-set out k y ∙ go.long;
      }

-- the four buffers after k events
pub record Going (events pairs t₀ : List ℕ) (k : ℕ) (t v d a : List ℕ) : Type 0 where
  pub within : k ≤ length pairs
  pub long : length t ≡ length t₀
  pub table_so : run t (events_from events pairs k (length pairs - k)) ≡ run t₀ (events_from events pairs 0 (length pairs))
  pub verdicts_so : Filled verdict events pairs t₀ k t v
  pub duties_so : Filled duty_byte events pairs t₀ k t d
  pub afters_so : Filled after_set events pairs t₀ k t a

module _ (events pairs t₀ : List ℕ) where
  pub going_next : {k : ℕ} {t v d a : List ℕ} {f : Finding} {t' : List ℕ} → Going events pairs t₀ k t v d a → k < length pairs
      → OnTable events pairs k t f t' → Going events pairs t₀ (k + 1) t' (set v k f.verdict.0) (set d k f.duty.0) (set a k f.after)
  going_next {k} {t} {v} {d} {a} {f} {t'} go h on =
      record {
        within = omega arith;
        long = ap length on.in_table ∙ length-set t (pair_in pairs k) (after_set (event_in events k) (set_in t (pair_in pairs k))) ∙ go.long;
        table_so =
            ap (λ (u : List ℕ). run u (events_from events pairs (k + 1) (length pairs - (k + 1)))) on.in_table
            ∙ ap (λ (i : ℕ). run (moved t (event_at events pairs k)) (events_from events pairs i (length pairs - i))) (add-one k)
            ∙ ap (λ (n : ℕ). run t (events_from events pairs k n)) (sym (minus_suc (length pairs) k h))
            ∙ go.table_so;
        verdicts_so = filled_next verdict events pairs t₀ k t v t' _ go.verdicts_so h on.in_table (ap (λ (x : Finding). set v k x.verdict.0) on.is_found);
        duties_so = filled_next duty_byte events pairs t₀ k t d t' _ go.duties_so h on.in_table (ap (λ (x : Finding). set d k x.duty.0) on.is_found);
        afters_so = filled_next after_set events pairs t₀ k t a t' _ go.afters_so h on.in_table (ap (λ (x : Finding). set a k x.after) on.is_found);
      }

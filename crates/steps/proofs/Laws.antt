-- Laws about what the functions of the loop compute, over plain variables.
-- Assumes nothing.
use mathlib.Core.Path.{◌≡◌, refl, sym, ◌∙◌, ap, subst}
use mathlib.Core.Bool.{Bool, true, false, cond, ◌&&◌}
use mathlib.Core.List.{List}
use Prim.Native.Nat.{ℕ, zero, suc, ◌+◌, ◌<◌, ◌≤◌}
use native.Mathlib.Omega.{arith}
use borrow.Author.Tests.{eqb-true, eqb-false, ne_eqb}
use denote.Param.Members.{Mut, Called}
use Rattle.std.specs.Array.{IsFromFnResultFrom}
use lib.Dec.{eqb}
use lib.ListN.{get_or}
use Rattle.kinds.specs.Codes.{state_not_seen, NDERR, resp_pd, fwd_pd}
use Rattle.sets.specs.Sets.{set_of, holds_dirty}
use Rattle.rows.specs.Event.{resp_of, fwd_state_of, resp_err_of, seen}
use Rattle.steps.specs.declared.TheConstants.{SEEN_STATES}
use Rattle.steps.specs.Steps.{duty, discards, no_duty, Home, Requester, lost, discarded}

-- a number past 7 is no state
seen_past : (n : ℕ) → 8 ≤ n → 0 ≡ set_of (seen state_not_seen n)
unfolding set_of
seen_past n h =
    simp (
      ne_eqb n 7 (omega arith),
      ne_eqb n 0 (omega arith),
      ne_eqb n 1 (omega arith),
      ne_eqb n 2 (omega arith),
      ne_eqb n 3 (omega arith),
      ne_eqb n 4 (omega arith),
      ne_eqb n 5 (omega arith),
      ne_eqb n 6 (omega arith),
    )

-- element n of the code's sets is the set of the states after that the event may have
pub seen_at : (n : ℕ) → get_or SEEN_STATES n 0 ≡ set_of (seen state_not_seen n)
unfolding set_of
seen_at zero = refl
seen_at (suc zero) = refl
seen_at (suc (suc zero)) = refl
seen_at (suc (suc (suc zero))) = refl
seen_at (suc (suc (suc (suc zero)))) = refl
seen_at (suc (suc (suc (suc (suc zero))))) = refl
seen_at (suc (suc (suc (suc (suc (suc zero)))))) = refl
seen_at (suc (suc (suc (suc (suc (suc (suc zero))))))) = refl
seen_at (suc (suc (suc (suc (suc (suc (suc (suc n)))))))) = seen_past (suc (suc (suc (suc (suc (suc (suc (suc n)))))))) (omega arith)

-- where each call leaves the closure as it was and gives h of its index, so are the elements that they make
pub made_by : {F : Type 0} (g : Mut F (ℕ × Unit {0}) ℕ) (f : F) (h : ℕ → ℕ) → ((i y : ℕ) (q : F) → Called g f (i, tt) y q → (q ≡ f) × (y ≡ h i))
    → (ys : List ℕ) (i n : ℕ) → IsFromFnResultFrom g f ys i n → (k : ℕ) → i ≤ k → k < i + n → get_or ys k 0 ≡ h k
made_by g f h calls ys i zero r k a b = absurd (omega arith)
made_by g f h calls ys i (suc n) (q, y, is, call, rest) k a b =
    let after = subst (λ (p : _). IsFromFnResultFrom g p ys (i + 1) n) (calls i y q call).0 rest in
    go (eqb k i) refl (λ c d. made_by g f h calls ys (i + 1) n after k c d)
  where
    go : (t : Bool) → eqb k i ≡ t → (i + 1 ≤ k → k < i + 1 + n → get_or ys k 0 ≡ h k) → get_or ys k 0 ≡ h k
    go true e more = let j = eqb-true k i e in ap (λ (m : ℕ). get_or ys m 0) j ∙ is.1 0 ∙ (calls i y q call).1 ∙ ap h (sym j)
    go false e more = let j = eqb-false k i e in more (omega arith) (omega arith)

-- the duty depends on the set before only by whether it holds a Dirty state
pub duty_like : (e : List ℕ) (m n : ℕ) → holds_dirty m ≡ holds_dirty n → duty e m ≡ duty e n
unfolding duty
duty_like e m n h =
    ap
    (λ (b : Bool).
    cond (resp_pd (resp_of e)) Home (cond (fwd_pd (fwd_state_of e)) Requester (cond (eqb (resp_err_of e) NDERR && b) lost (cond (discards e && b) discarded no_duty))))
    h

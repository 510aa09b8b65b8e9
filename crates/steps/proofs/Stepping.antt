-- The test `steps` and the record `Step` agree in both directions, and a step stays among the seven states.
-- Assumes nothing.
use mathlib.Core.Path.{◌≡◌, refl, sym, ◌∙◌, ap, subst}
use mathlib.Core.Bool.{Bool, true, ◌&&◌}
use mathlib.Core.List.{List}
use Prim.Native.Nat.{ℕ, ◌<◌}
use borrow.Author.Tests.{eqb-true, eq-eqb, ltb-true}
use lib.Dec.{eqb, ltb}
use lib.ListN.{get_or}
use Rattle.kinds.specs.Tests.{any, all}
use Rattle.kinds.specs.Codes.{state_not_seen, tags, tag_not_seen}
use Rattle.kinds.proofs.Lists.{any_found, found_any, all_at, at_state, and_left, and_right, and_both}
use Rattle.sets.specs.Sets.{bit}
use Rattle.sets.proofs.Laws.{bit-set_of}
use Rattle.rows.specs.Event.{tag_of, state_after_of, seen}
use Rattle.rows.specs.Rows.{Row, rows}
use Rattle.rows.specs.Permitted.{permitted}
use Rattle.steps.specs.Steps.{Step, steps, set_after, sets_after}
use Rattle.rows.proofs.ByRows.{permitted_row, by_rows}

pub steps_step : (e : List ℕ) (s s' : ℕ) → steps e s s' ≡ true → Step e s s'
unfolding steps
steps_step e s s' h =
    let some = any (λ t. seen tag_not_seen (tag_of e) t && permitted e t s s') tags in
    let last = seen state_not_seen (state_after_of e) s' in
    let f = any_found (λ t. seen tag_not_seen (tag_of e) t && permitted e t s s') tags (and_left some last h) in
    let t = f.one in
    record {
      tag = t;
      is_tag = found_any (eqb t) f.inside (eq-eqb t t refl);
      tag_seen = and_left (seen tag_not_seen (tag_of e) t) (permitted e t s s') f.passes;
      after_seen = and_right some last h;
      by_rows = and_right (seen tag_not_seen (tag_of e) t) (permitted e t s s') f.passes;
    }

pub step_steps : (e : List ℕ) (s s' : ℕ) → Step e s s' → steps e s s' ≡ true
unfolding steps
step_steps e s s' p =
    let f = any_found (eqb p.tag) tags p.is_tag in
    let holds = and_both p.tag_seen p.by_rows in
    and_both
    (found_any (λ t. seen tag_not_seen (tag_of e) t && permitted e t s s') f.inside
    (subst (λ (t : ℕ). seen tag_not_seen (tag_of e) t && permitted e t s s' ≡ true) (eqb-true p.tag f.one f.passes) holds))
    p.after_seen

-- every row stays among the seven states
among_states : Row → Bool
among_states r = ltb r.before 7 && all (λ s. ltb s 7) r.finals

all_among : all among_states rows ≡ true
unfolding rows among_states
all_among = refl

pub permitted_before_lem : (e : List ℕ) (t s s' : ℕ) → permitted e t s s' ≡ true → s < 7
unfolding among_states
permitted_before_lem e t s s' h =
    let q = permitted_row e t s s' h in
    let r = q.row in
    subst (λ (n : ℕ). n < 7) (sym (eqb-true s r.before q.from))
    (ltb-true r.before 7 (and_left (ltb r.before 7) (all (λ n. ltb n 7) r.finals) (by_rows among_states all_among q)))

pub permitted_after : (e : List ℕ) (t s s' : ℕ) → permitted e t s s' ≡ true → s' < 7
unfolding among_states
permitted_after e t s s' h =
    let q = permitted_row e t s s' h in
    let r = q.row in
    let f = any_found (eqb s') r.finals q.to in
    subst (λ (n : ℕ). n < 7) (sym (eqb-true s' f.one f.passes))
    (ltb-true f.one 7 (all_at (λ n. ltb n 7) (and_right (ltb r.before 7) (all (λ n. ltb n 7) r.finals) (by_rows among_states all_among q)) f.inside))

-- the set of states after holds exactly the states to which the event is a step
pub in_set_step : (e : List ℕ) (s s' : ℕ) → s < 7 → s' < 7 → bit (get_or (sets_after e) s 0) s' ≡ true → Step e s s'
unfolding set_after
in_set_step e s s' h k b = steps_step e s s' (sym (ap (λ (m : ℕ). bit m s') (at_state (set_after e) s h) ∙ bit-set_of (steps e s) s' k) ∙ b)

pub step_in_set : (e : List ℕ) (s s' : ℕ) → Step e s s' → bit (get_or (sets_after e) s 0) s' ≡ true
unfolding set_after
step_in_set e s s' p =
    ap (λ (m : ℕ). bit m s') (at_state (set_after e) s (permitted_before_lem e p.tag s s' p.by_rows))
    ∙ bit-set_of (steps e s) s' (permitted_after e p.tag s s' p.by_rows)
    ∙ step_steps e s s' p

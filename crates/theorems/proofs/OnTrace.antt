-- What an accepted trace leaves, event by event and pair by pair, in terms of histories.
-- Assumes nothing.
use mathlib.Core.Path.{◌≡◌, refl, sym, ◌∙◌, ap, subst}
use mathlib.Core.Logic.{◌↔◌, ◌⊎◌, ⊎_elim}
use mathlib.Core.Bool.{Bool, true, false, cond, not, ◌&&◌}
use Prim.Native.Nat.{ℕ, suc, ◌<◌}
use native.Mathlib.Omega.{arith}
use borrow.Author.Tests.{eqb-true}
use lib.ListN.{length, get_or}
use Rattle.kinds.specs.Codes.{dirty, SnpMakeInvalid}
use Rattle.kinds.specs.Places.{set_in}
use Rattle.sets.specs.Sets.{bit, holds_dirty}
use Rattle.rows.specs.Event.{request_of}
use Rattle.steps.specs.Steps.{Step, duty, no_duty, Home, Requester, lost, discarded}
use Rattle.event.specs.Refusals.{issue_e}
use Rattle.verdicts.specs.Verdicts.{after_set, verdict, duty_byte, explained, unexplained, not_judged}
use Rattle.verdicts.proofs.Laws.{From, after_from, from_after, is_explained}
use Rattle.sets.proofs.Laws.{bit_state, held_some, none_held}
use Rattle.trace.specs.Lent.{Outcome, Lent, Left, count}
use Rattle.trace.specs.Refusals.{outcome_of}
use Rattle.trace.specs.Given.{GoodSoFar}
use Rattle.trace.specs.Judged.{trace, judged, accepted_left}
use Rattle.trace.proofs.Whole.{judged_outcome, judged_accepted, accepted_good}
use Rattle.histories.specs.Histories.{own, first, HistoryTo, SomeHistoryTo, VerdictIs, VerdictGiven, passed, stopped, not_reached}
use Rattle.histories.proofs.Walk.{ends_exact}
use Rattle.histories.proofs.Own.{length_run, length_outputs}
use Rattle.histories.proofs.Verdicts.{explained_duty, silent_duty, duty_is}
use Rattle.histories.proofs.At.{set_before, set_next, set_lost, set_below, byte_at, after_at_lem, table_at, pair_in_lem, reached_held, verdict_given, gives_verdict}
use Rattle.theorems.specs.Duties.{non_data_error, makes_invalid, HomeHolds, RequesterHolds}
use Rattle.theorems.specs.Traces.{Accepted, verdict_at, duty_at, after_at, set_at_end, pair_of, event_of, DutySaid, DirtyReaches}
use Rattle.theorems.proofs.RowLaw.{make_error}
use Rattle.theorems.proofs.Told.{law, other_request, exactly_one, nobody, error_byte, make_byte, holds_dirty_lem, dirty_held}

-- a state is in a pair's set exactly when a history of the pair ends in it
pub set_history : (l : Lent) (p k s : ℕ) → bit (set_before l p k) s ≡ true ↔ HistoryTo l p k s
set_history l p k = ends_exact (set_in l.table p) (own p (first l k))

-- the same for a byte that is equal to that set
pub read_set : (l : Lent) (p k s byte : ℕ) → byte ≡ set_before l p k → bit byte s ≡ true ↔ HistoryTo l p k s
read_set l p k s byte h = subst (λ m. bit m s ≡ true ↔ HistoryTo l p k s) (sym h) (set_history l p k s)

-- a set in which no history ends is empty
none_ends : (l : Lent) (p k : ℕ) → set_before l p k < 128 → (SomeHistoryTo l p k → ⊥) → set_before l p k ≡ 0
none_ends l p k below none = none_held (set_before l p k) below (λ h. none ((reached_held l p k).0 h))

-- no history passes an unexplained event
none_passes : {Reaches Passes : Type 0} {v : ℕ} → VerdictIs Reaches Passes v → v ≡ unexplained → Passes → ⊥
none_passes (passed x) h = absurd (omega arith)
none_passes (stopped x none) h = none
none_passes (not_reached x) h = absurd (omega arith)

-- no history passes an event that is no step
pub never_passes : (l : Lent) (k : ℕ) → ((s s' : ℕ) → Step (event_of l k) s s' → ⊥) → SomeHistoryTo l (pair_of l k) (suc k) → ⊥
never_passes l k none h =
    let held = (reached_held l (pair_of l k) (suc k)).1 h in
    let after = subst (λ (m : ℕ). bit m held.state ≡ true) (set_next l k) held.inside in
    let from = after_from (event_of l k) (set_before l (pair_of l k) k) held.state after in
    none from.state held.state from.step

module _ (l : Lent) (ok : Accepted l) where
  number_0 : (outcome_of issue_e l).number ≡ 0
  number_0 = sym (ap (λ (o : Outcome). o.number) (judged_outcome issue_e l)) ∙ ok

  pub good : GoodSoFar issue_e l (count l)
  good = accepted_good issue_e l number_0

  all_left : judged issue_e l ≡ accepted_left (outcome_of issue_e l) l
  all_left = judged_accepted issue_e l number_0

  pub end_set : (p : ℕ) → p < length l.table → set_at_end l p ≡ set_before l p (count l)
  end_set p h = ap (λ (x : Left). get_or x.table p 0) all_left ∙ table_at issue_e l good p h

  pub after_byte : (k : ℕ) → k < count l → after_at l k ≡ set_before l (pair_of l k) (suc k)
  after_byte k h = ap (λ (x : Left). get_or x.afters k 0) all_left ∙ after_at_lem issue_e l good k h

  -- the length of each buffer
  pub lengths : (length (judged issue_e l).table ≡ length l.table)
      × (length (judged issue_e l).verdicts ≡ count l)
      × (length (judged issue_e l).duties ≡ count l)
      × (length (judged issue_e l).afters ≡ count l)
  lengths = (
    ap (λ (x : Left). length x.table) all_left ∙ length_run l.table (trace l),
    ap (λ (x : Left). length x.verdicts) all_left ∙ length_outputs verdict l.table l.events l.pairs 0 (count l),
    ap (λ (x : Left). length x.duties) all_left ∙ length_outputs duty_byte l.table l.events l.pairs 0 (count l),
    ap (λ (x : Left). length x.afters) all_left ∙ length_outputs after_set l.table l.events l.pairs 0 (count l),
  )

  pub verdicts_left : (k : ℕ) → verdict_at l k ≡ get_or (accepted_left (outcome_of issue_e l) l).verdicts k 0
  verdicts_left k = ap (λ (x : Left). get_or x.verdicts k 0) all_left

  pub verdict_row : (k : ℕ) → k < count l → VerdictGiven l k (verdict_at l k)
  verdict_row k h = subst (VerdictGiven l k) (sym (verdicts_left k)) (verdict_given issue_e l good k h)

  -- a pair's set is empty from an unexplained event on
  pub empty_after : (k : ℕ) → k < count l → verdict_at l k ≡ unexplained → (j : ℕ) → k < j → set_before l (pair_of l k) j ≡ 0
  empty_after k h v j below =
      set_lost l (pair_of l k) (suc k) j below
      (none_ends l (pair_of l k) (suc k) (set_below issue_e l good (pair_of l k) (suc k) (pair_in_lem issue_e l good k h)) (none_passes (verdict_row k h) v))

  -- an event that no history reaches is not judged
  pub unreached : (k : ℕ) → k < count l → set_before l (pair_of l k) k ≡ 0 → verdict_at l k ≡ not_judged
  unreached k h z = verdicts_left k ∙ gives_verdict issue_e l good k h (not_reached (λ s. held_some ((reached_held l (pair_of l k) k).1 s) z))

  module _ (k : ℕ) (inside : k < count l) where
    abbrev m : ℕ
    m = set_before l (pair_of l k) k

    pub verdict_byte : verdict_at l k ≡ verdict (event_of l k) m
    verdict_byte = verdicts_left k ∙ byte_at issue_e l good verdict k inside

    pub duty_byte_lem : duty_at l k ≡ duty_byte (event_of l k) m
    duty_byte_lem = ap (λ (x : Left). get_or x.duties k 0) all_left ∙ byte_at issue_e l good duty_byte k inside

    pub set_byte : after_at l k ≡ after_set (event_of l k) m
    set_byte = ap (λ (x : Left). get_or x.afters k 0) all_left ∙ byte_at issue_e l good after_set k inside

    -- the duty byte of an explained event, and of any other event
    explained_byte : verdict_at l k ≡ explained → duty_at l k ≡ duty (event_of l k) m
    explained_byte h = duty_byte_lem ∙ explained_duty (event_of l k) m (sym verdict_byte ∙ h)

    pub silent_byte : (verdict_at l k ≡ explained → ⊥) → duty_at l k ≡ no_duty
    silent_byte h = duty_byte_lem ∙ silent_duty (event_of l k) m (λ z. h (verdict_byte ∙ z))

    pub said : verdict_at l k ≡ explained → DutySaid l k (duty_at l k)
    said h = subst (DutySaid l k) (sym duty_byte_lem) (duty_is (event_of l k) m (set_history l (pair_of l k) k) (sym verdict_byte ∙ h))

    -- an event that a history passes is explained
    pub passes_explained : (s s' : ℕ) → HistoryTo l (pair_of l k) k s → Step (event_of l k) s s' → verdict_at l k ≡ explained
    passes_explained s s' h p =
        verdict_byte
        ∙ is_explained (event_of l k) m (set_below issue_e l good (pair_of l k) k (pair_in_lem issue_e l good k inside))
        (record { state = s'; inside = from_after came })
      where
        came : From (event_of l k) m s'
        came = record { state = s; inside = (set_history l (pair_of l k) k s).1 h; step = p }

    -- DEMAND 2 (definition 1.6) in a trace: exactly one is told
    pub handed_over : (s s' : ℕ) → HistoryTo l (pair_of l k) k s → Step (event_of l k) s s' → dirty s ≡ true → dirty s' ≡ false
        → non_data_error (event_of l k) ≡ false → makes_invalid (event_of l k) ≡ false
        → HomeHolds (event_of l k) (duty_at l k) ⊎ RequesterHolds (event_of l k) (duty_at l k)
    handed_over s s' h p d d' n i =
        subst (λ (x : ℕ). HomeHolds (event_of l k) x ⊎ RequesterHolds (event_of l k) x)
        (sym (explained_byte (passes_explained s s' h p)))
        (exactly_one (event_of l k) (dirty s) (dirty s') (law (event_of l k) p.tag s s' p.by_rows) d d' n i m)

    -- a non-data error that some history passes: its duty byte is 3 exactly if the set before holds a Dirty state
    error_at : (s s' : ℕ) → HistoryTo l (pair_of l k) k s → Step (event_of l k) s s' → non_data_error (event_of l k) ≡ true → duty_at l k ≡ cond (holds_dirty m) lost no_duty
    error_at s s' h p n = explained_byte (passes_explained s s' h p) ∙ error_byte (event_of l k) m (dirty s) (dirty s') (law (event_of l k) p.tag s s' p.by_rows) n

    dirty_before : (s : ℕ) → HistoryTo l (pair_of l k) k s → dirty s ≡ true → holds_dirty m ≡ true
    dirty_before s h d =
        let b = (set_history l (pair_of l k) k s).1 h in
        holds_dirty_lem m s (bit_state m s (set_below issue_e l good (pair_of l k) k (pair_in_lem issue_e l good k inside)) b) b d

    -- a duty byte that is d exactly if the set before holds a Dirty state, is d exactly if some history reaches the event with a Dirty line
    dirty_at : (d : ℕ) → (d ≡ no_duty → ⊥) → duty_at l k ≡ cond (holds_dirty m) d no_duty → (duty_at l k ≡ d) ↔ DirtyReaches l k
    dirty_at d some byte = (there, back)
      where
        there : duty_at l k ≡ d → DirtyReaches l k
        there q = go (holds_dirty m) refl
          where
            go : (b : Bool) → holds_dirty m ≡ b → DirtyReaches l k
            go true b =
                let f = dirty_held m b in
                record { state = f.state; is_dirty = f.is_dirty; history = (set_history l (pair_of l k) k f.state).0 f.inside }
            go false b = absurd (some (sym q ∙ byte ∙ ap (λ (x : Bool). cond x d no_duty) b))

        back : DirtyReaches l k → duty_at l k ≡ d
        back r = byte ∙ ap (λ (x : Bool). cond x d no_duty) (dirty_before r.state r.history r.is_dirty)

    pub lost_at : (s s' : ℕ) → HistoryTo l (pair_of l k) k s → Step (event_of l k) s s' → non_data_error (event_of l k) ≡ true → (duty_at l k ≡ lost) ↔ DirtyReaches l k
    lost_at s s' h p n = dirty_at lost (λ z. absurd (omega arith)) (error_at s s' h p n)

    -- SnpMakeInvalid that some history passes: its duty byte, by the set before and whether it is a non-data error
    make_at : (s s' : ℕ) → HistoryTo l (pair_of l k) k s → Step (event_of l k) s s' → makes_invalid (event_of l k) ≡ true
        → duty_at l k ≡ cond (holds_dirty m) (cond (non_data_error (event_of l k)) lost discarded) no_duty
    make_at s s' h p i =
        explained_byte (passes_explained s s' h p)
        ∙ make_byte (event_of l k) m (dirty s) (dirty s') (law (event_of l k) p.tag s s' p.by_rows)
        (make_error (event_of l k) p.tag s s' p.by_rows (eqb-true (request_of (event_of l k)) SnpMakeInvalid i))

    pub discarded_at : (s s' : ℕ) → HistoryTo l (pair_of l k) k s → Step (event_of l k) s s' → makes_invalid (event_of l k) ≡ true → non_data_error (event_of l k) ≡ false
        → (duty_at l k ≡ discarded) ↔ DirtyReaches l k
    discarded_at s s' h p i n =
        dirty_at discarded (λ z. absurd (omega arith)) (make_at s s' h p i ∙ ap (λ (x : Bool). cond (holds_dirty m) (cond x lost discarded) no_duty) n)

    -- a duty byte of 0: no history that passes the event gives up a Dirty line in it
    pub kept_dirty : (s s' : ℕ) → HistoryTo l (pair_of l k) k s → Step (event_of l k) s s' → duty_at l k ≡ no_duty → dirty s ≡ true → dirty s' ≡ true
    kept_dirty s s' h p z d = go (dirty s') (non_data_error (event_of l k)) (makes_invalid (event_of l k)) refl refl refl
      where
        reaches : DirtyReaches l k
        reaches = record { state = s; is_dirty = d; history = h }

        go : (b n i : Bool) → dirty s' ≡ b → non_data_error (event_of l k) ≡ n → makes_invalid (event_of l k) ≡ i → b ≡ true
        go true n i q r w = refl
        go false true i q r w = let wrong : ◌≡◌ {A = ℕ} no_duty lost = sym z ∙ (lost_at s s' h p r).1 reaches in absurd (omega arith)
        go false false true q r w = let wrong : ◌≡◌ {A = ℕ} no_duty discarded = sym z ∙ (discarded_at s s' h p w r).1 reaches in absurd (omega arith)
        go false false false q r w =
            absurd
            (⊎_elim
            (λ x. let wrong : ◌≡◌ {A = ℕ} no_duty Home = sym z ∙ x.says in absurd (omega arith))
            (λ x. let wrong : ◌≡◌ {A = ℕ} no_duty Requester = sym z ∙ x.says in absurd (omega arith))
            (handed_over s s' h p d q r w))

    -- a duty byte of 1 or 2: every history that passes the event gives up a Dirty line in it, it is no non-data error, and its request is
    -- not SnpMakeInvalid
    pub given_up : (s s' : ℕ) → HistoryTo l (pair_of l k) k s → Step (event_of l k) s s' → (duty_at l k ≡ Home) ⊎ (duty_at l k ≡ Requester)
        → (dirty s ≡ true) × (dirty s' ≡ false) × (non_data_error (event_of l k) ≡ false) × (makes_invalid (event_of l k) ≡ false)
    given_up s s' h p told = go (dirty s) (dirty s') (non_data_error (event_of l k)) (makes_invalid (event_of l k)) refl refl refl refl
      where
        byte : duty_at l k ≡ duty (event_of l k) m
        byte = explained_byte (passes_explained s s' h p)

        silent : (d : ℕ) → duty_at l k ≡ d → (d ≡ Home → ⊥) → (d ≡ Requester → ⊥) → ⊥
        silent d q home requester = ⊎_elim (λ w. home (sym q ∙ w)) (λ w. requester (sym q ∙ w)) told

        -- a byte that is d or 0
        one_or_none : (d : ℕ) → duty_at l k ≡ cond (holds_dirty m) d no_duty → (d ≡ Home → ⊥) → (d ≡ Requester → ⊥) → ⊥
        one_or_none d q home requester = choose (holds_dirty m) refl
          where
            choose : (b : Bool) → holds_dirty m ≡ b → ⊥
            choose true w = silent d (q ∙ ap (λ (x : Bool). cond x d no_duty) w) home requester
            choose false w = silent no_duty (q ∙ ap (λ (x : Bool). cond x d no_duty) w) (λ z. absurd (omega arith)) (λ z. absurd (omega arith))

        not_lost : non_data_error (event_of l k) ≡ true → ⊥
        not_lost n = one_or_none lost (error_at s s' h p n) (λ z. absurd (omega arith)) (λ z. absurd (omega arith))

        not_discarded : non_data_error (event_of l k) ≡ false → makes_invalid (event_of l k) ≡ true → ⊥
        not_discarded n i =
            one_or_none discarded (make_at s s' h p i ∙ ap (λ (x : Bool). cond (holds_dirty m) (cond x lost discarded) no_duty) n)
            (λ z. absurd (omega arith)) (λ z. absurd (omega arith))

        not_kept : (a b : Bool) → dirty s ≡ a → dirty s' ≡ b → non_data_error (event_of l k) ≡ false → makes_invalid (event_of l k) ≡ false → a && not b && not false ≡ false → ⊥
        not_kept a b q r n i z =
            silent no_duty
            (byte
            ∙ (nobody (event_of l k) (dirty s) (dirty s') (law (event_of l k) p.tag s s' p.by_rows)
            (ap (λ (x : Bool). x && not (dirty s') && not (non_data_error (event_of l k))) q
            ∙ ap (λ (x : Bool). a && not x && not (non_data_error (event_of l k))) r
            ∙ ap (λ (x : Bool). a && not b && not x) n
            ∙ z)
            (other_request (event_of l k) i)
            m
            ).says
            ∙ ap (λ (x : Bool). cond (x && holds_dirty m) lost no_duty) n)
            (λ w. absurd (omega arith))
            (λ w. absurd (omega arith))

        go : (a b n i : Bool) → dirty s ≡ a → dirty s' ≡ b → non_data_error (event_of l k) ≡ n → makes_invalid (event_of l k) ≡ i
            → (dirty s ≡ true) × (dirty s' ≡ false) × (non_data_error (event_of l k) ≡ false) × (makes_invalid (event_of l k) ≡ false)
        go a b true i q r w v = absurd (not_lost w)
        go a b false true q r w v = absurd (not_discarded w v)
        go true false false false q r w v = (q, r, w, v)
        go true true false false q r w v = absurd (not_kept true true q r w v refl)
        go false b false false q r w v = absurd (not_kept false b q r w v refl)

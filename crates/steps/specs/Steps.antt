-- What one event can do to a line: its steps, the sets of states after, and the duty (definition 6).
use Rattle.std.specs.Prelude.{ℕ, ◌^◌, ◌≡◌, Bool, true, cond, ◌&&◌, List, map, eqb}
use Rattle.kinds.specs.Tests.{any, ◌∈?◌}
use Rattle.kinds.specs.Codes.{states, state_not_seen, tags, tag_not_seen, OK, NDERR, SnpMakeInvalid, resp_pd, fwd_pd}
use Rattle.sets.specs.Sets.{set_of, holds_dirty}
use Rattle.rows.specs.Event.{seen, request_of, tag_of, resp_of, fwd_state_of, resp_err_of, state_after_of}
use Rattle.rows.specs.Permitted.{permitted}

-- A step of the event from s to s' (definition 6.1): some row permits it with some tag state; tag state and s' are as seen, or any.
pub record Step (e : List ℕ) (s s' : ℕ) : Type 0 where
  pub tag : ℕ
  pub is_tag : tag ∈? tags ≡ true
  pub tag_seen : seen tag_not_seen (tag_of e) tag ≡ true
  pub after_seen : seen state_not_seen (state_after_of e) s' ≡ true
  pub by_rows : permitted e tag s s' ≡ true

-- the same as a test that computes
unfoldable pub steps : List ℕ → ℕ → ℕ → Bool
steps e s s' = any (λ t. seen tag_not_seen (tag_of e) t && permitted e t s s') tags && seen state_not_seen (state_after_of e) s'

-- the set of states after, from s (definition 6.2)
unfoldable pub set_after : List ℕ → ℕ → ℕ
set_after e s = set_of (steps e s)

-- for each of the seven states before, the set of states after
abbrev pub sets_after : List ℕ → List ℕ
sets_after e = map (set_after e) states

-- Duties (definition 2.9).
abbrev pub no_duty : ℕ
no_duty = 0

abbrev pub Home : ℕ
Home = 1

abbrev pub Requester : ℕ
Requester = 2

abbrev pub lost : ℕ
lost = 3

abbrev pub discarded : ℕ
discarded = 4

-- the request throws the line away on purpose, and the answer is OK
abbrev pub discards : List ℕ → Bool
discards e = eqb (request_of e) SnpMakeInvalid && eqb (resp_err_of e) OK

-- the duty byte of an explained event, given the set before: the first case that applies (definition 6.3)
unfoldable pub duty : List ℕ → ℕ → ℕ
duty e before =
    cond (resp_pd (resp_of e)) Home
    (cond (fwd_pd (fwd_state_of e)) Requester
    (cond (eqb (resp_err_of e) NDERR && holds_dirty before) lost
    (cond (discards e && holds_dirty before) discarded no_duty)))

-- the duty byte of one event alone, judged from state s; 0 if the set of states after is empty (definition 6.5)
abbrev pub duty_alone : List ℕ → ℕ → ℕ
duty_alone e s = cond (eqb (set_after e s) 0) no_duty (duty e (2 ^ s))

-- When an event is refused, and with which number (definition 4.1, 4.3).
use Rattle.std.specs.Prelude.{ℕ, suc, Bool, true, cond, ◌&&◌, List, [], ◌∷◌, eqb, ltb, length}
use Rattle.kinds.specs.Tests.{◌∈?◌}
use Rattle.kinds.specs.Codes.{requests}
use Rattle.kinds.specs.Places.{event_length}
use Rattle.rows.specs.Event.{byte, request_of}

-- What an issue of CHI permits in an event: the limit of each byte from byte 1 on, and the requests.
pub record Issue : Type 0 where
  pub limits : List ℕ
  pub requests : List ℕ

-- each byte is below its limit (definition 2.3)
abbrev limits_e : List ℕ
limits_e =
    -- RetToSrc
    2 ∷
    -- DoNotGoToSD
    2 ∷
    -- excl
    2 ∷
    -- tag state, with 3 for not seen
    4 ∷
    -- channel
    2 ∷
    -- opcode
    32 ∷
    -- Resp
    8 ∷
    -- FwdState
    8 ∷
    -- TagOp
    4 ∷
    -- RespErr
    4 ∷
    -- forwarded data present
    2 ∷
    -- Resp of the forwarded data
    8 ∷
    -- state after, with 7 for not seen
    8 ∷
    -- error field of the forwarded data
    4 ∷
    []

-- the issue of CHI that the definition is about
abbrev pub issue_e : Issue
issue_e = record { limits = limits_e; requests = requests }

-- each byte from offset i on is below its limit
abbrev pub below : List ℕ → ℕ → List ℕ → Bool
below e i [] = true
below e i (l ∷ ls) = ltb (byte e i) l && below e (suc i) ls

-- 4 for a byte from 1 to 14 outside its range, then 5 for a request that is not judged, else 0
unfoldable pub fault : Issue → List ℕ → ℕ
fault issue e = cond (below e 1 issue.limits) (cond (request_of e ∈? issue.requests) 0 5) 4

-- one event alone: 1 if it is not 15 bytes long, then its fault (definition 4.3)
unfoldable pub refusal_alone : Issue → List ℕ → ℕ
refusal_alone issue e = cond (eqb (length e) event_length) (fault issue e) 1

-- The codes, each under its own name, and what some of them mean (definition 2.1 to 2.6).
use Rattle.std.specs.Prelude.{ℕ, Bool, List, [], ◌∷◌}
use Rattle.kinds.specs.Tests.{◌∈?◌}

-- Line states (definition 2.1).
abbrev pub I : ℕ
I = 0

abbrev pub UC : ℕ
UC = 1

abbrev pub UCE : ℕ
UCE = 2

abbrev pub UD : ℕ
UD = 3

abbrev pub UDP : ℕ
UDP = 4

abbrev pub SC : ℕ
SC = 5

abbrev pub SD : ℕ
SD = 6

abbrev pub states : List ℕ
states = I ∷ UC ∷ UCE ∷ UD ∷ UDP ∷ SC ∷ SD ∷ []

-- the set of all seven states, which is the highest set (definition 2.2)
abbrev pub all_states : ℕ
all_states = 127

-- whether a line in this state has to be written back by somebody
abbrev pub dirty : ℕ → Bool
dirty s = s ∈? (UD ∷ UDP ∷ SD ∷ [])

-- the code for a state after that was not seen
abbrev pub state_not_seen : ℕ
state_not_seen = 7

-- Tag states (definition 2.3, byte 4).
abbrev pub tag_invalid : ℕ
tag_invalid = 0

abbrev pub tag_clean : ℕ
tag_clean = 1

abbrev pub tag_dirty : ℕ
tag_dirty = 2

abbrev pub tags : List ℕ
tags = tag_invalid ∷ tag_clean ∷ tag_dirty ∷ []

-- the code for a tag state that was not seen
abbrev pub tag_not_seen : ℕ
tag_not_seen = 3

-- TagOp (definition 2.3, byte 9).
abbrev pub op_invalid : ℕ
op_invalid = 0

abbrev pub op_transfer : ℕ
op_transfer = 1

abbrev pub op_update : ℕ
op_update = 2

abbrev pub op_match : ℕ
op_match = 3

-- Error fields: RespErr of the answer to Home, and that of the forwarded data (definition 2.3, bytes 10 and 14).
abbrev pub OK : ℕ
OK = 0

abbrev pub EXOK : ℕ
EXOK = 1

abbrev pub DERR : ℕ
DERR = 2

abbrev pub NDERR : ℕ
NDERR = 3

-- Requests (definition 2.4).
abbrev pub SnpShared : ℕ
SnpShared = 1

abbrev pub SnpClean : ℕ
SnpClean = 2

abbrev pub SnpNotSharedDirty : ℕ
SnpNotSharedDirty = 4

abbrev pub SnpUnique : ℕ
SnpUnique = 7

abbrev pub SnpCleanInvalid : ℕ
SnpCleanInvalid = 9

abbrev pub SnpMakeInvalid : ℕ
SnpMakeInvalid = 10

abbrev pub SnpCleanFwd : ℕ
SnpCleanFwd = 18

abbrev pub SnpNotSharedDirtyFwd : ℕ
SnpNotSharedDirtyFwd = 20

abbrev pub SnpPreferUnique : ℕ
SnpPreferUnique = 21

abbrev pub SnpPreferUniqueFwd : ℕ
SnpPreferUniqueFwd = 22

-- the ten requests that are judged
abbrev pub requests : List ℕ
requests =
    SnpShared ∷
    SnpClean ∷
    SnpNotSharedDirty ∷
    SnpUnique ∷
    SnpCleanInvalid ∷
    SnpMakeInvalid ∷
    SnpCleanFwd ∷
    SnpNotSharedDirtyFwd ∷
    SnpPreferUnique ∷
    SnpPreferUniqueFwd ∷
    []

-- Channels (definition 2.3, byte 5).
abbrev pub RSP : ℕ
RSP = 0

abbrev pub DAT : ℕ
DAT = 1

-- Opcodes: the first two are on RSP, the others on DAT (definition 2.5).
abbrev pub op_SnpResp : ℕ
op_SnpResp = 1

abbrev pub op_SnpRespFwded : ℕ
op_SnpRespFwded = 9

abbrev pub op_SnpRespData : ℕ
op_SnpRespData = 1

abbrev pub op_SnpRespDataPtl : ℕ
op_SnpRespDataPtl = 5

abbrev pub op_SnpRespDataFwded : ℕ
op_SnpRespDataFwded = 6

-- Resp (definition 2.6).
abbrev pub Resp_I : ℕ
Resp_I = 0

abbrev pub Resp_SC : ℕ
Resp_SC = 1

abbrev pub Resp_SD : ℕ
Resp_SD = 3

abbrev pub Resp_I_PD : ℕ
Resp_I_PD = 4

abbrev pub Resp_SC_PD : ℕ
Resp_SC_PD = 5

-- whether it carries PD (Pass Dirty)
abbrev pub resp_pd : ℕ → Bool
resp_pd r = r ∈? (Resp_I_PD ∷ Resp_SC_PD ∷ [])

-- FwdState, and the Resp of CompData (definition 2.6).
abbrev pub Fwd_SC : ℕ
Fwd_SC = 1

abbrev pub Fwd_UC : ℕ
Fwd_UC = 2

abbrev pub Fwd_UD_PD : ℕ
Fwd_UD_PD = 6

abbrev pub Fwd_SD_PD : ℕ
Fwd_SD_PD = 7

-- whether it carries PD (Pass Dirty)
abbrev pub fwd_pd : ℕ → Bool
fwd_pd f = f ∈? (Fwd_UD_PD ∷ Fwd_SD_PD ∷ [])

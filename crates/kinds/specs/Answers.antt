-- The answers to Home, each with its forward, and the definition's codes for each (definition 2.5 to 2.8).
use Rattle.std.specs.Prelude.{ℕ, Bool, true, false, cond, List, [], ◌∷◌, eqb}
use Rattle.kinds.specs.Codes.{RSP, DAT, op_SnpResp, op_SnpRespFwded, op_SnpRespData, op_SnpRespDataPtl, op_SnpRespDataFwded}
use Rattle.kinds.specs.Codes.{OK, Resp_I, Resp_SC, Resp_SD, Resp_I_PD, Resp_SC_PD, Fwd_SC, Fwd_UC, Fwd_UD_PD, Fwd_SD_PD}
use Rattle.kinds.specs.declared.Resp.{Resp}
use Rattle.kinds.specs.declared.Forward.{Forward}
use Rattle.kinds.specs.declared.Forward.TheVariants.{NoForward, CompData}
use Rattle.kinds.specs.declared.Answer.{Answer}
use Rattle.kinds.specs.declared.Answer.TheVariants.{SnpResp, SnpRespData, SnpRespDataPtl}

-- the forward that a FwdState and the data's error field stand for; FwdState 0 is none
abbrev pub forward_at : ℕ → ℕ → Forward
forward_at state error = cond (eqb state 0) NoForward (CompData (record { 0 = state }) (record { 0 = error }))

-- whether data is forwarded, and its Resp: event bytes 11 and 12
abbrev pub forward_wire : Forward → List ℕ
forward_wire NoForward = 0 ∷ 0 ∷ []
forward_wire (CompData f x) = 1 ∷ f.0 ∷ []

-- whether data is forwarded
abbrev pub present : Forward → Bool
present NoForward = false
present (CompData f x) = true

-- the error field of the forwarded data: event byte 14; 0 without a forward
abbrev pub forward_error : Forward → ℕ
forward_error NoForward = 0
forward_error (CompData f x) = x.0

-- channel, opcode, Resp, FwdState and the forward: event bytes 5 to 8, 11 and 12
abbrev pub wire : Answer → List ℕ
wire (SnpResp r NoForward) = RSP ∷ op_SnpResp ∷ r.0 ∷ 0 ∷ forward_wire NoForward
wire (SnpResp r (CompData f x)) = RSP ∷ op_SnpRespFwded ∷ r.0 ∷ f.0 ∷ forward_wire (CompData f x)
wire (SnpRespData r NoForward) = DAT ∷ op_SnpRespData ∷ r.0 ∷ 0 ∷ forward_wire NoForward
wire (SnpRespData r (CompData f x)) = DAT ∷ op_SnpRespDataFwded ∷ r.0 ∷ f.0 ∷ forward_wire (CompData f x)
wire (SnpRespDataPtl r) = DAT ∷ op_SnpRespDataPtl ∷ r.0 ∷ 0 ∷ forward_wire NoForward

-- whether the answer brings data to Home, on DAT
abbrev pub has_data : Answer → Bool
has_data (SnpResp r f) = false
has_data (SnpRespData r f) = true
has_data (SnpRespDataPtl r) = true

-- what an answer forwards
abbrev pub forward_of : Answer → Forward
forward_of (SnpResp r f) = f
forward_of (SnpRespData r f) = f
forward_of (SnpRespDataPtl r) = NoForward

-- the Resp of an answer
abbrev pub answer_resp : Answer → ℕ
answer_resp (SnpResp r f) = r.0
answer_resp (SnpRespData r f) = r.0
answer_resp (SnpRespDataPtl r) = r.0

-- the FwdState of an answer; 0 without a forward
abbrev pub answer_fwd : Answer → ℕ
answer_fwd (SnpResp r NoForward) = 0
answer_fwd (SnpResp r (CompData f x)) = f.0
answer_fwd (SnpRespData r NoForward) = 0
answer_fwd (SnpRespData r (CompData f x)) = f.0
answer_fwd (SnpRespDataPtl r) = 0

-- the five values of Resp
abbrev r_I : Resp
r_I = record { 0 = Resp_I }

abbrev r_SC : Resp
r_SC = record { 0 = Resp_SC }

abbrev r_SD : Resp
r_SD = record { 0 = Resp_SD }

abbrev r_I_PD : Resp
r_I_PD = record { 0 = Resp_I_PD }

abbrev r_SC_PD : Resp
r_SC_PD = record { 0 = Resp_SC_PD }

-- the four forwards; a name says nothing of the error field, and OK stands for it
abbrev CompData_SC : Forward
CompData_SC = CompData (record { 0 = Fwd_SC }) (record { 0 = OK })

abbrev CompData_UC : Forward
CompData_UC = CompData (record { 0 = Fwd_UC }) (record { 0 = OK })

abbrev CompData_UD_PD : Forward
CompData_UD_PD = CompData (record { 0 = Fwd_UD_PD }) (record { 0 = OK })

abbrev CompData_SD_PD : Forward
CompData_SD_PD = CompData (record { 0 = Fwd_SD_PD }) (record { 0 = OK })

-- The 22 answers under their names in the tables, with - in place of _ (definition 2.8).
abbrev pub SnpResp_I : Answer
SnpResp_I = SnpResp r_I NoForward

abbrev pub SnpResp_SC : Answer
SnpResp_SC = SnpResp r_SC NoForward

abbrev pub SnpRespData_I : Answer
SnpRespData_I = SnpRespData r_I NoForward

abbrev pub SnpRespData_SC : Answer
SnpRespData_SC = SnpRespData r_SC NoForward

abbrev pub SnpRespData_SD : Answer
SnpRespData_SD = SnpRespData r_SD NoForward

abbrev pub SnpRespData_I_PD : Answer
SnpRespData_I_PD = SnpRespData r_I_PD NoForward

abbrev pub SnpRespData_SC_PD : Answer
SnpRespData_SC_PD = SnpRespData r_SC_PD NoForward

abbrev pub SnpRespDataPtl_I_PD : Answer
SnpRespDataPtl_I_PD = SnpRespDataPtl r_I_PD

abbrev pub SnpResp_I_Fwded_SC : Answer
SnpResp_I_Fwded_SC = SnpResp r_I CompData_SC

abbrev pub SnpResp_SC_Fwded_SC : Answer
SnpResp_SC_Fwded_SC = SnpResp r_SC CompData_SC

abbrev pub SnpResp_SD_Fwded_SC : Answer
SnpResp_SD_Fwded_SC = SnpResp r_SD CompData_SC

abbrev pub SnpResp_I_Fwded_SD_PD : Answer
SnpResp_I_Fwded_SD_PD = SnpResp r_I CompData_SD_PD

abbrev pub SnpResp_SC_Fwded_SD_PD : Answer
SnpResp_SC_Fwded_SD_PD = SnpResp r_SC CompData_SD_PD

abbrev pub SnpResp_I_Fwded_UC : Answer
SnpResp_I_Fwded_UC = SnpResp r_I CompData_UC

abbrev pub SnpResp_I_Fwded_UD_PD : Answer
SnpResp_I_Fwded_UD_PD = SnpResp r_I CompData_UD_PD

abbrev pub SnpRespData_I_Fwded_SC : Answer
SnpRespData_I_Fwded_SC = SnpRespData r_I CompData_SC

abbrev pub SnpRespData_SC_Fwded_SC : Answer
SnpRespData_SC_Fwded_SC = SnpRespData r_SC CompData_SC

abbrev pub SnpRespData_SD_Fwded_SC : Answer
SnpRespData_SD_Fwded_SC = SnpRespData r_SD CompData_SC

abbrev pub SnpRespData_I_Fwded_SD_PD : Answer
SnpRespData_I_Fwded_SD_PD = SnpRespData r_I CompData_SD_PD

abbrev pub SnpRespData_SC_Fwded_SD_PD : Answer
SnpRespData_SC_Fwded_SD_PD = SnpRespData r_SC CompData_SD_PD

abbrev pub SnpRespData_I_PD_Fwded_SC : Answer
SnpRespData_I_PD_Fwded_SC = SnpRespData r_I_PD CompData_SC

abbrev pub SnpRespData_SC_PD_Fwded_SC : Answer
SnpRespData_SC_PD_Fwded_SC = SnpRespData r_SC_PD CompData_SC

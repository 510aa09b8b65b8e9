-- The rows, one line per printed row, in the printed order, under the table's number (definition 5.2 to 5.7, 5.11, 5.12).
-- A line reads: table, state before, states after (the expected one first), RetToSrc, answer to Home. What the name has after Fwded is the
-- printed answer to the Requester. The printed TagOp columns are `tags_allow` and `by_tags` in Permitted.antt; for B4.46 and the bench copy,
-- which have none here, they are a house rule.
-- row* is a row with the star: DoNotGoToSD forbids it (definition 5.7). `∷` ends a line, and `[]` ends the list.
use Rattle.std.specs.Prelude.{ℕ, Bool, true, false, List, [], ◌∷◌, ◌++◌, map}
use Rattle.kinds.specs.Codes.{I, UC, UCE, UD, UDP, SC, SD, states}
use Rattle.kinds.specs.declared.Answer.{Answer}
use Rattle.kinds.specs.Answers.{SnpResp_I, SnpResp_SC, SnpRespData_I, SnpRespData_SC, SnpRespData_SD, SnpRespData_I_PD, SnpRespData_SC_PD, SnpRespDataPtl_I_PD}
use Rattle.kinds.specs.Answers.{SnpResp_I_Fwded_SC, SnpResp_SC_Fwded_SC, SnpResp_SD_Fwded_SC, SnpResp_I_Fwded_SD_PD, SnpResp_SC_Fwded_SD_PD, SnpResp_I_Fwded_UC, SnpResp_I_Fwded_UD_PD}
use Rattle.kinds.specs.Answers.{SnpRespData_I_Fwded_SC, SnpRespData_SC_Fwded_SC, SnpRespData_SD_Fwded_SC, SnpRespData_I_Fwded_SD_PD, SnpRespData_SC_Fwded_SD_PD, SnpRespData_I_PD_Fwded_SC, SnpRespData_SC_PD_Fwded_SC}
use Rattle.rows.specs.declared.Table.{Table}
use Rattle.rows.specs.declared.Table.TheVariants.{B46, B57, B59, B60, Unique, CleanInvalid, MakeInvalid, NdErr}

-- A row: it permits one answer from one state before, and names the states after (definition 5.1).
pub record Row : Type 0 where
  pub table : Table
  pub before : ℕ
  pub finals : List ℕ
  pub ret : ℕ
  pub answer : Answer
  pub marked : Bool

-- a row without the star
abbrev pub row : Table → ℕ → List ℕ → ℕ → Answer → Row
row T s s' r a = record { table = T; before = s; finals = s'; ret = r; answer = a; marked = false }

-- a row with the star
abbrev pub row* : Table → ℕ → List ℕ → ℕ → Answer → Row
row* T s s' r a = record { table = T; before = s; finals = s'; ret = r; answer = a; marked = true }

-- in a RetToSrc or excl column: 0 and 1 both fit
abbrev pub X : ℕ
X = 2

-- the states after that the rows name
abbrev to_I : List ℕ
to_I = I ∷ []

abbrev to_SC : List ℕ
to_SC = SC ∷ []

abbrev SC_or_I : List ℕ
SC_or_I = SC ∷ I ∷ []

abbrev to_SD : List ℕ
to_SD = SD ∷ []

-- Table B4.46: SnpClean, SnpShared, SnpNotSharedDirty and SnpPreferUnique, with either excl (definition 5.2).
-- It holds for SnpPreferUnique whatever the text after the table says (definition 1.2).
abbrev pub rows·B4·46 : List Row
rows·B4·46 =
    row B46 I to_I X SnpResp_I ∷
    row B46 UC SC_or_I X SnpResp_SC ∷
    row B46 UC SC_or_I X SnpRespData_SC ∷
    row B46 UC to_I X SnpResp_I ∷
    row B46 UC to_I X SnpRespData_I ∷
    row B46 UCE to_I X SnpResp_I ∷
    row* B46 UD to_SD X SnpRespData_SD ∷
    row B46 UD SC_or_I X SnpRespData_SC_PD ∷
    row B46 UD to_I X SnpRespData_I_PD ∷
    row B46 UDP to_I X SnpRespDataPtl_I_PD ∷
    row B46 SC SC_or_I 0 SnpResp_SC ∷
    row B46 SC SC_or_I 1 SnpRespData_SC ∷
    row B46 SC to_I 0 SnpResp_I ∷
    row B46 SC to_I 1 SnpRespData_I ∷
    row* B46 SD to_SD X SnpRespData_SD ∷
    row B46 SD SC_or_I X SnpRespData_SC_PD ∷
    row B46 SD to_I X SnpRespData_I_PD ∷
    []

-- Table B4.57: SnpCleanFwd and SnpNotSharedDirtyFwd (definition 5.3).
-- Both letters on SD are read as the star.
abbrev pub rows·B4·57 : List Row
rows·B4·57 =
    row B57 I to_I X SnpResp_I ∷
    row B57 UC SC_or_I 0 SnpResp_SC_Fwded_SC ∷
    row B57 UC SC_or_I 1 SnpRespData_SC_Fwded_SC ∷
    row B57 UC to_I 0 SnpResp_I_Fwded_SC ∷
    row B57 UC to_I 1 SnpRespData_I_Fwded_SC ∷
    row B57 UCE to_I X SnpResp_I ∷
    row* B57 UD to_SD 0 SnpResp_SD_Fwded_SC ∷
    row* B57 UD to_SD 1 SnpRespData_SD_Fwded_SC ∷
    row B57 UD SC_or_I 0 SnpResp_SC_Fwded_SD_PD ∷
    row B57 UD SC_or_I 1 SnpRespData_SC_Fwded_SD_PD ∷
    row B57 UD SC_or_I X SnpRespData_SC_PD_Fwded_SC ∷
    row B57 UD to_I 0 SnpResp_I_Fwded_SD_PD ∷
    row B57 UD to_I 1 SnpRespData_I_Fwded_SD_PD ∷
    row B57 UD to_I X SnpRespData_I_PD_Fwded_SC ∷
    row B57 UDP to_I X SnpRespDataPtl_I_PD ∷
    row B57 SC SC_or_I 0 SnpResp_SC_Fwded_SC ∷
    row B57 SC SC_or_I 1 SnpRespData_SC_Fwded_SC ∷
    row B57 SC to_I 0 SnpResp_I_Fwded_SC ∷
    row B57 SC to_I 1 SnpRespData_I_Fwded_SC ∷
    row* B57 SD to_SD 0 SnpResp_SD_Fwded_SC ∷
    row* B57 SD to_SD 1 SnpRespData_SD_Fwded_SC ∷
    row B57 SD SC_or_I 0 SnpResp_SC_Fwded_SD_PD ∷
    row B57 SD SC_or_I 1 SnpRespData_SC_Fwded_SD_PD ∷
    row B57 SD SC_or_I X SnpRespData_SC_PD_Fwded_SC ∷
    row B57 SD to_I 0 SnpResp_I_Fwded_SD_PD ∷
    row B57 SD to_I 1 SnpRespData_I_Fwded_SD_PD ∷
    row B57 SD to_I X SnpRespData_I_PD_Fwded_SC ∷
    []

-- Table B4.59: SnpPreferUniqueFwd with either excl (definition 5.4, 5.6).
-- The star on SD is as printed.
abbrev pub rows·B4·59 : List Row
rows·B4·59 =
    row B59 I to_I X SnpResp_I ∷
    row B59 UC to_SC 0 SnpResp_SC_Fwded_SC ∷
    row B59 UC to_SC 1 SnpRespData_SC_Fwded_SC ∷
    row B59 UCE to_I X SnpResp_I ∷
    row* B59 UD to_SD 0 SnpResp_SD_Fwded_SC ∷
    row* B59 UD to_SD 1 SnpRespData_SD_Fwded_SC ∷
    row B59 UD to_SC X SnpRespData_SC_PD_Fwded_SC ∷
    row B59 UDP to_I X SnpRespDataPtl_I_PD ∷
    row B59 SC to_SC 0 SnpResp_SC_Fwded_SC ∷
    row B59 SC to_SC 1 SnpRespData_SC_Fwded_SC ∷
    row* B59 SD to_SD 0 SnpResp_SD_Fwded_SC ∷
    row* B59 SD to_SD 1 SnpRespData_SD_Fwded_SC ∷
    row B59 SD to_SC X SnpRespData_SC_PD_Fwded_SC ∷
    []

-- Table B4.60: SnpPreferUniqueFwd with excl 0, together with B4.59 (definition 5.5, 5.6).
abbrev pub rows·B4·60 : List Row
rows·B4·60 =
    row B60 I to_I X SnpResp_I ∷
    row B60 UC to_I X SnpResp_I_Fwded_UC ∷
    row B60 UCE to_I X SnpResp_I ∷
    row B60 UD to_I X SnpResp_I_Fwded_UD_PD ∷
    row B60 UD to_I X SnpRespData_I_PD ∷
    row B60 UDP to_I X SnpRespDataPtl_I_PD ∷
    row B60 SC to_I X SnpResp_I_Fwded_UC ∷
    row B60 SD to_I X SnpResp_I_Fwded_UD_PD ∷
    row B60 SD to_I X SnpRespData_I_PD ∷
    []

-- BENCH COPY: SnpUnique, with either excl (definition 5.12).
abbrev pub rows·SnpUnique : List Row
rows·SnpUnique =
    row Unique I to_I X SnpResp_I ∷
    row Unique UCE to_I X SnpResp_I ∷
    row Unique UC to_I X SnpResp_I ∷
    row Unique UC to_I X SnpRespData_I ∷
    row Unique UD to_I X SnpRespData_I_PD ∷
    row Unique SD to_I X SnpRespData_I_PD ∷
    row Unique UDP to_I X SnpRespDataPtl_I_PD ∷
    row Unique SC to_I 0 SnpResp_I ∷
    row Unique SC to_I 1 SnpRespData_I ∷
    []

-- BENCH COPY: SnpCleanInvalid, with either excl (definition 5.12).
abbrev pub rows·SnpCleanInvalid : List Row
rows·SnpCleanInvalid =
    row CleanInvalid I to_I X SnpResp_I ∷
    row CleanInvalid UCE to_I X SnpResp_I ∷
    row CleanInvalid UD to_I X SnpRespData_I_PD ∷
    row CleanInvalid UDP to_I X SnpRespDataPtl_I_PD ∷
    row CleanInvalid SD to_I X SnpRespData_I_PD ∷
    row CleanInvalid UC to_I X SnpResp_I ∷
    row CleanInvalid SC to_I X SnpResp_I ∷
    []

-- BENCH COPY: SnpMakeInvalid, with either excl: from every state, and no data (definition 5.12).
abbrev pub rows·SnpMakeInvalid : List Row
rows·SnpMakeInvalid =
    row MakeInvalid I to_I X SnpResp_I ∷
    row MakeInvalid UC to_I X SnpResp_I ∷
    row MakeInvalid UCE to_I X SnpResp_I ∷
    row MakeInvalid UD to_I X SnpResp_I ∷
    row MakeInvalid UDP to_I X SnpResp_I ∷
    row MakeInvalid SC to_I X SnpResp_I ∷
    row MakeInvalid SD to_I X SnpResp_I ∷
    []

-- NDERR: one row, from every state (definition 5.11).
abbrev pub rows·NDERR : List Row
rows·NDERR = map (λ s. row NdErr s to_I X SnpResp_I) states

-- all rows
unfoldable pub rows : List Row
rows =
    rows·B4·46
    ++ rows·B4·57
    ++ rows·B4·59
    ++ rows·B4·60
    ++ rows·SnpUnique
    ++ rows·SnpCleanInvalid
    ++ rows·SnpMakeInvalid
    ++ rows·NDERR

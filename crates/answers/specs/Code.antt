-- What private functions compute. No public claim names this file.
use Rattle.std.specs.Prelude.{ℕ, ◌<◌, ◌+◌, ◌*◌, ◌/◌, ◌%◌, ◌^◌, cond, List, [], ◌∷◌, map, eqb, ltb, get_or, take, drop}
use Rattle.kinds.specs.Tests.{◌∈?◌}
use Rattle.kinds.specs.Codes.{SnpUnique, SnpCleanInvalid, SnpMakeInvalid, SnpCleanFwd, SnpNotSharedDirtyFwd, SnpPreferUniqueFwd, tag_dirty, RSP, DAT, DERR}
use Rattle.answers.specs.declared.Question.{Question}
use Rattle.answers.specs.declared.Tables.{Tables}
use Rattle.answers.specs.declared.Tables.TheVariants.{B46, B57, B59, B59WithB60, Unique, CleanInvalid, MakeInvalid}
use Rattle.answers.specs.Table.{lists, spans, numbers, answers, answer_count, first_on_dat}

-- the printed tables that hold for a request and excl: 0 is B4.46, 1 is B4.57, 2 is B4.59, 3 is B4.59 with B4.60
abbrev pub printed_of : ℕ → ℕ → ℕ
printed_of request excl =
    cond (eqb request SnpPreferUniqueFwd) (cond (eqb excl 0) 3 2) (cond (request ∈? (SnpCleanFwd ∷ SnpNotSharedDirtyFwd ∷ [])) 1 0)

-- the tables that hold: also 4 for SnpUnique, 5 for SnpCleanInvalid, 6 for SnpMakeInvalid
abbrev pub tables_of : ℕ → ℕ → ℕ
tables_of request excl =
    cond (eqb request SnpUnique) 4
    (cond (eqb request SnpCleanInvalid) 5
    (cond (eqb request SnpMakeInvalid) 6 (printed_of request excl)))

-- the number that the code's tables stand for
abbrev pub number_of_tables : Tables → ℕ
number_of_tables B46 = 0
number_of_tables B57 = 1
number_of_tables B59 = 2
number_of_tables B59WithB60 = 3
number_of_tables Unique = 4
number_of_tables CleanInvalid = 5
number_of_tables MakeInvalid = 6

-- the context of a question: tables, RetToSrc, DoNotGoToSD, Dirty tags and state before
abbrev pub context_of : Question → ℕ
context_of q =
    (((tables_of q.request.0 q.excl * 2 + q.ret_to_src) * 2 + q.do_not_go_to_sd) * 2 + cond (eqb q.tag.0 tag_dirty) 1 0) * 8 + q.before.0

-- the list of a context: a byte of a word, by the state before
abbrev pub list_at : ℕ → ℕ
list_at context = get_or lists (context / 8) 0 / 2 ^ (context % 8 * 8) % 256

-- where the list of a question starts, times 64, plus how many answers it has
unfoldable pub span_of : Question → ℕ
span_of q = get_or spans (list_at (context_of q)) 0

-- ten bytes: a channel, eight bytes from one number, the lowest first, and an error field
abbrev pub ten_of : ℕ → ℕ → ℕ → List ℕ
ten_of channel w error =
    channel ∷
    w % 256 ∷
    w / 2 ^ 8 % 256 ∷
    w / 2 ^ 16 % 256 ∷
    w / 2 ^ 24 % 256 ∷
    w / 2 ^ 32 % 256 ∷
    w / 2 ^ 40 % 256 ∷
    w / 2 ^ 48 % 256 ∷
    w / 2 ^ 56 % 256 ∷
    error ∷
    []

-- what is added to the number of an answer with DERR on its forwarded data
abbrev pub with_derr : ℕ
with_derr = 128

-- the number of an answer of the table, with or without what is added
abbrev pub IsAnswer : ℕ → Type 0
IsAnswer n = n % with_derr < answer_count

-- the answer with this number: those on RSP come first
unfoldable pub answer_at : ℕ → List ℕ
answer_at n = ten_of (cond (ltb (n % with_derr) first_on_dat) RSP DAT) (get_or answers (n % with_derr) 0) (n / with_derr % 2 * DERR)

-- so many answers, by their numbers from `start` on
abbrev pub answers_at : ℕ → ℕ → List (List ℕ)
answers_at start count = map answer_at (take count (drop start numbers))

-- the answers of a span
unfoldable pub answers_in : ℕ → List (List ℕ)
answers_in span = answers_at (span / 64) (span % 64)

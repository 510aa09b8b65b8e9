-- A line that is not refused is an event without fault: bytes in range, a request of the ten, and a pair that the table has.
-- Assumes nothing.
use mathlib.Core.Path.{◌≡◌, refl, sym, ◌∙◌, ap}
use mathlib.Core.Bool.{Bool, true, false, cond, not, ◌&&◌, false≢true}
use mathlib.Core.List.{List, [], ◌∷◌, ◌++◌}
use Prim.Native.Nat.{ℕ, zero, suc, ◌≤◌, ◌<◌}
use native.Mathlib.Omega.{arith}
use borrow.Author.Tests.{eqb-false, ltb-true, ltb-false, lt-ltb, not-true}
use lib.Dec.{eqb, ltb}
use lib.ListN.{length, get_or, take, drop}
use Rattle.kinds.specs.Tests.{all, ◌∈?◌}
use Rattle.kinds.specs.Codes.{requests}
use Rattle.kinds.specs.Places.{event_length, most_pairs, highest_pair}
use Rattle.kinds.specs.declared.Answer.{Answer}
use Rattle.kinds.specs.declared.Forward.TheVariants.{NoForward, CompData}
use Rattle.kinds.specs.Answers.{forward_at, wire, forward_wire, forward_error, SnpResp_I}
use Rattle.kinds.proofs.Lists.{and_left, and_right, and_both, all_at}
use Rattle.event.specs.Refusals.{issue_e, below, fault}
use Rattle.fields.specs.Fields.{fields_of}
use Rattle.names.specs.Names.{Named, code_of, request_names, responses, answers, answer_at, no_fwd_err, pair_of, columns}
use Rattle.names.specs.Columns.{pair_code, request_code, ret_to_src_code, do_not_go_to_sd_code, excl_code, tag_code, response_code, tag_op_code, resp_err_code, forward_code, final_code, fwd_err_code}
use Rattle.names.proofs.Names.{Sought, none, found, seek, pair_limit, limits}
use Rattle.parser.specs.Parsed.{codes_of, line_codes, known, dashes_agree, well_formed, sent_of, event_of, Parsed, in_numbers, parsed_as, parsed}
use Rattle.parser.specs.declared.Line.{Line}
use Rattle.std.specs.Prelude.{Ok}
use Rattle.parser.proofs.Events.{under, codes_known, dashes_agree_lem, codes_under, parsed_ill, parsed_high, parsed_fine}

names_requested : all (λ (n : Named). n.code ∈? requests) request_names ≡ true
unfolding request_names
names_requested = refl

-- a known request name is one of the ten requests
code_requested : (f : List ℕ) → known (code_of request_names f) ≡ true → code_of request_names f ∈? requests ≡ true
code_requested f h = go (seek request_names f)
  where
    go : Sought request_names f → code_of request_names f ∈? requests ≡ true
    go (none p q) = absurd (false≢true (sym (ap known p) ∙ h))
    go (found n i p q) = ap (λ (c : ℕ). c ∈? requests) q ∙ all_at (λ (m : Named). m.code ∈? requests) names_requested i

field_requested : (fs : List (List ℕ)) → all known (codes_of columns fs) ≡ true → request_code (codes_of columns fs) ∈? requests ≡ true
unfolding columns
field_requested [] h = absurd (false≢true h)
field_requested (f ∷ []) h = absurd (false≢true (and_right (known (pair_of f)) false h))
field_requested (f ∷ g ∷ fs) h =
    let others = all known (codes_of (drop 2 columns) fs) in
    code_requested g (and_left (known (code_of request_names g)) others (and_right (known (pair_of f)) (known (code_of request_names g) && others) h))

-- NUMBERS BELOW LIMITS: two lists joined, equal lengths, and element by element
under_append : (xs ls ys ms : List ℕ) → under xs ls ≡ true → under ys ms ≡ true → under (xs ++ ys) (ls ++ ms) ≡ true
under_append [] [] ys ms h k = k
under_append [] (l ∷ ls) ys ms h k = absurd (false≢true h)
under_append (x ∷ xs) [] ys ms h k = absurd (false≢true h)
under_append (x ∷ xs) (l ∷ ls) ys ms h k = and_both (and_left (ltb x l) (under xs ls) h) (under_append xs ls ys ms (and_right (ltb x l) (under xs ls) h) k)

under_length : (xs ls : List ℕ) → under xs ls ≡ true → length xs ≡ length ls
under_length [] [] h = refl
under_length [] (l ∷ ls) h = absurd (false≢true h)
under_length (x ∷ xs) [] h = absurd (false≢true h)
under_length (x ∷ xs) (l ∷ ls) h = ap suc (under_length xs ls (and_right (ltb x l) (under xs ls) h))

below_behind : (x : ℕ) (e : List ℕ) (i : ℕ) (ls : List ℕ) → below (x ∷ e) (suc i) ls ≡ below e i ls
below_behind x e i [] = refl
below_behind x e i (l ∷ ls) = ap (λ (b : Bool). ltb (get_or e i 0) l && b) (below_behind x e (suc i) ls)

under_below : (xs ls : List ℕ) → under xs ls ≡ true → below xs 0 ls ≡ true
under_below xs [] h = refl
under_below [] (l ∷ ls) h = absurd (false≢true h)
under_below (x ∷ xs) (l ∷ ls) h =
    and_both (and_left (ltb x l) (under xs ls) h) (below_behind x xs 0 ls ∙ under_below xs ls (and_right (ltb x l) (under xs ls) h))

-- the limits of the bytes after the tag state, after FwdState, and after RespErr
abbrev behind_tag : List ℕ
behind_tag = drop 4 issue_e.limits

abbrev behind_answer : List ℕ
behind_answer = drop 4 behind_tag

abbrev behind_error : List ℕ
behind_error = drop 2 behind_answer

-- if all elements and the default pass a test, every element that is looked up passes it
get_d_all {ℓ} : {A : Type ℓ} (p : A → Bool) (l : List A) (d : A) → all p l ≡ true → p d ≡ true → (i : ℕ) → p (get_or l i d) ≡ true
get_d_all p [] d h k i = k
get_d_all p (x ∷ xs) d h k zero = and_left (p x) (all p xs) h
get_d_all p (x ∷ xs) d h k (suc i) = get_d_all p xs d (and_right (p x) (all p xs) h) k i

answer_under : (place : ℕ) → under (take 4 (wire (answer_at place))) (take 4 behind_tag) ≡ true
unfolding answers responses
answer_under place = get_d_all (λ (a : Answer). under (take 4 (wire a)) (take 4 behind_tag)) answers SnpResp_I refl refl place

forward_under : (state error : ℕ) → ltb state 8 ≡ true → under (forward_wire (forward_at state error)) (take 2 behind_error) ≡ true
forward_under state error h = go (eqb state 0)
  where
    go : (b : Bool) → under (forward_wire (cond b NoForward (CompData (record { 0 = state }) (record { 0 = error })))) (take 2 behind_error) ≡ true
    go true = refl
    go false = and_both h refl

-- where the dashes agree, the error field is one of the four, or there is none
not_dash : (n : ℕ) → ltb n 5 ≡ true → not (eqb n no_fwd_err) ≡ true → ltb n 4 ≡ true
not_dash n h k = lt-ltb n 4 (omega (arith, ltb-true n 5 h, eqb-false n no_fwd_err (not-true (eqb n no_fwd_err) k)))

error_under : (codes : List ℕ) → ltb (fwd_err_code codes) 5 ≡ true → dashes_agree codes ≡ true → ltb (forward_error (sent_of codes)) 4 ≡ true
error_under codes h d = go (eqb (forward_code codes) 0) d
  where
    go : (b : Bool) → cond b (eqb (fwd_err_code codes) no_fwd_err) (not (eqb (fwd_err_code codes) no_fwd_err)) ≡ true
        → ltb (forward_error (cond b NoForward (CompData (record { 0 = forward_code codes }) (record { 0 = fwd_err_code codes })))) 4 ≡ true
    go true k = refl
    go false k = not_dash (fwd_err_code codes) h k

-- the first test stays, and the second implies the third
keep : (a : Bool) {b c : Bool} → (b ≡ true → c ≡ true) → a && b ≡ true → a && c ≡ true
keep true f h = f h
keep false f h = absurd (false≢true h)

-- codes below their columns' limits make bytes below the event's limits
module _ (codes : List ℕ) (agree : dashes_agree codes ≡ true) where
  abbrev last : List ℕ
  last = final_code codes ∷ forward_error (sent_of codes) ∷ []

  error_on : ltb (forward_code codes) 8 && (ltb (final_code codes) 8 && (ltb (fwd_err_code codes) 5 && true)) ≡ true
      → under (forward_wire (sent_of codes) ++ last) behind_error ≡ true
  error_on h =
      let onward = ltb (fwd_err_code codes) 5 && true in
      let final = ltb (final_code codes) 8 && onward in
      let rest = and_right (ltb (forward_code codes) 8) final h in
      under_append (forward_wire (sent_of codes)) (take 2 behind_error) last (drop 2 behind_error)
      (forward_under (forward_code codes) (fwd_err_code codes) (and_left (ltb (forward_code codes) 8) final h))
      (and_both (and_left (ltb (final_code codes) 8) onward rest)
      (and_both (error_under codes (and_left (ltb (fwd_err_code codes) 5) true (and_right (ltb (final_code codes) 8) onward rest)) agree) refl))

  tag_on : below codes 6 (drop 6 limits) ≡ true
      → under (take 4 (wire (answer_at (response_code codes))) ++ (tag_op_code codes ∷ resp_err_code codes ∷ (forward_wire (sent_of codes) ++ last))) behind_tag ≡ true
  tag_on h =
      under_append (take 4 (wire (answer_at (response_code codes)))) (take 4 behind_tag) _ behind_answer (answer_under (response_code codes))
      (keep (ltb (tag_op_code codes) 4) (keep (ltb (resp_err_code codes) 4) error_on) (and_right (ltb (response_code codes) 22) (below codes 7 (drop 7 limits)) h))

  bytes_under : below codes 0 limits ≡ true → under (drop 1 (event_of codes)) issue_e.limits ≡ true
  unfolding event_of
  bytes_under h =
      keep (ltb (ret_to_src_code codes) 2)
      (keep (ltb (do_not_go_to_sd_code codes) 2)
      (keep (ltb (excl_code codes) 2)
      (keep (ltb (tag_code codes) 4) tag_on)))
      (and_right (ltb (request_code codes) 256) (below codes 2 (drop 2 limits)) (and_right (ltb (pair_code codes) pair_limit) (below codes 1 (drop 1 limits)) h))

module _ (line : List ℕ) (w : well_formed line ≡ true) where
  event_under : under (drop 1 (event_of (line_codes line))) issue_e.limits ≡ true
  event_under = bytes_under (line_codes line) (dashes_agree_lem line w) (under_below (line_codes line) limits (codes_under line w))

  event_long : length (event_of (line_codes line)) ≡ event_length
  unfolding event_of
  event_long = ap suc (under_length (drop 1 (event_of (line_codes line))) issue_e.limits event_under)

  pub all_in_range : below (event_of (line_codes line)) 1 issue_e.limits ≡ true
  unfolding event_of
  all_in_range =
      below_behind (request_code (line_codes line)) (drop 1 (event_of (line_codes line))) 0 issue_e.limits
      ∙ under_below (drop 1 (event_of (line_codes line))) issue_e.limits event_under

  pub requested : get_or (event_of (line_codes line)) 0 0 ∈? requests ≡ true
  unfolding event_of
  requested = field_requested (fields_of line) (codes_known line w)

  pub no_fault : fault issue_e (event_of (line_codes line)) ≡ 0
  unfolding fault
  no_fault =
      ap (λ b. cond b (cond (get_or (event_of (line_codes line)) 0 0 ∈? requests) 0 5) 4) all_in_range
      ∙ ap (λ b. cond b 0 5) requested

-- what a line that is not refused is known to be
pub record Says (line : List ℕ) : Type 0 where
  pub well_formed : well_formed line ≡ true
  pub low_pair : pair_code (line_codes line) ≤ highest_pair
  pub so : parsed line ≡ parsed_as (pair_code (line_codes line)) (event_of (line_codes line))

pub says : (line : List ℕ) → (parsed line).number ≡ 0 → Says line
says line h = go (well_formed line) refl (ltb highest_pair (pair_code (line_codes line))) refl
  where
    -- a refused line has a number that is not 0
    numbered : {e : Parsed} → parsed line ≡ e → e.number ≡ 0
    numbered so = sym (ap (λ (x : Parsed). x.number) so) ∙ h

    go : (a : Bool) → well_formed line ≡ a → (b : Bool) → ltb highest_pair (pair_code (line_codes line)) ≡ b → Says line
    go false p b q = absurd (omega (arith, numbered (parsed_ill line p)))
    go true p true q = absurd (omega (arith, numbered (parsed_high line p (ltb-true highest_pair (pair_code (line_codes line)) q))))
    go true p false q =
        let low = ltb-false highest_pair (pair_code (line_codes line)) q in
        record { well_formed = p; low_pair = low; so = parsed_fine line p low }

module _ (line : List ℕ) (h : (parsed line).number ≡ 0) where
  pub parsed_no_fault : fault issue_e (parsed line).event ≡ 0
  parsed_no_fault = ap (λ (e : Parsed). fault issue_e e.event) (says line h).so ∙ no_fault line (says line h).well_formed

  pub parsed_pair_in : (parsed line).pair < most_pairs
  parsed_pair_in = omega (arith, ap (λ (e : Parsed). e.pair) (says line h).so, (says line h).low_pair)

  pub parsed_in_range : below (parsed line).event 1 issue_e.limits ≡ true
  parsed_in_range = ap (λ (e : Parsed). below e.event 1 issue_e.limits) (says line h).so ∙ all_in_range line (says line h).well_formed

  pub parsed_requested : get_or (parsed line).event 0 0 ∈? requests ≡ true
  parsed_requested = ap (λ (e : Parsed). get_or e.event 0 0 ∈? requests) (says line h).so ∙ requested line (says line h).well_formed

  pub parsed_length : length (parsed line).event ≡ event_length
  parsed_length = ap (λ (e : Parsed). length e.event) (says line h).so ∙ event_long line (says line h).well_formed

-- a line as it was parsed
pub line_no_fault : (line : List ℕ) (said : Line) → in_numbers (Ok said) ≡ parsed line → fault issue_e said.event ≡ 0
line_no_fault line said e = ap (λ (x : Parsed). fault issue_e x.event) e ∙ parsed_no_fault line (sym (ap (λ (x : Parsed). x.number) e))

-- The code of each column, from the codes of a line's fields in the order of the header (definition 8.2).
use Rattle.std.specs.Prelude.{ℕ, List, get_or}

abbrev pub pair_code : List ℕ → ℕ
pair_code codes = get_or codes 0 0

abbrev pub request_code : List ℕ → ℕ
request_code codes = get_or codes 1 0

abbrev pub ret_to_src_code : List ℕ → ℕ
ret_to_src_code codes = get_or codes 2 0

abbrev pub do_not_go_to_sd_code : List ℕ → ℕ
do_not_go_to_sd_code codes = get_or codes 3 0

abbrev pub excl_code : List ℕ → ℕ
excl_code codes = get_or codes 4 0

abbrev pub tag_code : List ℕ → ℕ
tag_code codes = get_or codes 5 0

abbrev pub response_code : List ℕ → ℕ
response_code codes = get_or codes 6 0

abbrev pub tag_op_code : List ℕ → ℕ
tag_op_code codes = get_or codes 7 0

abbrev pub resp_err_code : List ℕ → ℕ
resp_err_code codes = get_or codes 8 0

abbrev pub forward_code : List ℕ → ℕ
forward_code codes = get_or codes 9 0

abbrev pub final_code : List ℕ → ℕ
final_code codes = get_or codes 10 0

abbrev pub fwd_err_code : List ℕ → ℕ
fwd_err_code codes = get_or codes 11 0

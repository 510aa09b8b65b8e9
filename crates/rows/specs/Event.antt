-- The fields of an event (definition 2.3).
use Rattle.std.specs.Prelude.{ℕ, Bool, ◌||◌, List, [], ◌∷◌, get_or, eqb}

-- the byte at an offset; 0 past the end
abbrev pub byte : List ℕ → ℕ → ℕ
byte e i = get_or e i 0

-- The offset of each field. No other specification names an offset.
abbrev pub request_of : List ℕ → ℕ
request_of e = byte e 0

abbrev pub ret_to_src_of : List ℕ → ℕ
ret_to_src_of e = byte e 1

abbrev pub do_not_go_to_sd_of : List ℕ → ℕ
do_not_go_to_sd_of e = byte e 2

abbrev pub excl_of : List ℕ → ℕ
excl_of e = byte e 3

abbrev pub tag_of : List ℕ → ℕ
tag_of e = byte e 4

abbrev pub channel_of : List ℕ → ℕ
channel_of e = byte e 5

abbrev pub opcode_of : List ℕ → ℕ
opcode_of e = byte e 6

abbrev pub resp_of : List ℕ → ℕ
resp_of e = byte e 7

abbrev pub fwd_state_of : List ℕ → ℕ
fwd_state_of e = byte e 8

abbrev pub tag_op_of : List ℕ → ℕ
tag_op_of e = byte e 9

abbrev pub resp_err_of : List ℕ → ℕ
resp_err_of e = byte e 10

-- whether forwarded data is present
abbrev pub forwarded_of : List ℕ → ℕ
forwarded_of e = byte e 11

-- the Resp of the forwarded data
abbrev pub forwarded_resp_of : List ℕ → ℕ
forwarded_resp_of e = byte e 12

abbrev pub state_after_of : List ℕ → ℕ
state_after_of e = byte e 13

-- the error field of the forwarded data
abbrev pub forwarded_err_of : List ℕ → ℕ
forwarded_err_of e = byte e 14

-- the bytes of the answer: channel, opcode, Resp, FwdState, forwarded data present, its Resp
abbrev pub answer_of : List ℕ → List ℕ
answer_of e = channel_of e ∷ opcode_of e ∷ resp_of e ∷ fwd_state_of e ∷ forwarded_of e ∷ forwarded_resp_of e ∷ []

-- x was seen, or nothing was seen
abbrev pub seen : ℕ → ℕ → ℕ → Bool
seen notSeen what x = eqb what notSeen || eqb what x

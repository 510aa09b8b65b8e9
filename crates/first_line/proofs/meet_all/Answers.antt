-- `first_line::meet_all` meets its contract: each field is taken behind the one before.
use Rattle.names.specs.Names.{columns}
use Rattle.first_line.proofs.Good.{met_more, met_last}
use Rattle.first_line.proofs.meet_all.Goals as goal

pub returns : goal.returns
unfolding columns
returns c =
    let pair = c.in_ok-take.ensures in
    let request = c.in_ok-take-2.ensures in
    let ret_to_src = c.in_ok-take-3.ensures in
    let do_not_go_to_sd = c.in_ok-take-4.ensures in
    let excl = c.in_ok-take-5.ensures in
    let tag = c.in_ok-take-6.ensures in
    let response = c.in_ok-take-7.ensures in
    let tag_op = c.in_ok-take-8.ensures in
    let resp_err = c.in_ok-take-9.ensures in
    let forward = c.in_ok-take-10.ensures in
    let final = c.in_ok-take-11.ensures in
    let fwd_err = c.in_ok-take-12.ensures in
    met_more pair.taken pair.line
    (met_more request.taken request.line
    (met_more ret_to_src.taken ret_to_src.line
    (met_more do_not_go_to_sd.taken do_not_go_to_sd.line
    (met_more excl.taken excl.line
    (met_more tag.taken tag.line
    (met_more response.taken response.line
    (met_more tag_op.taken tag_op.line
    (met_more resp_err.taken resp_err.line
    (met_more forward.taken forward.line
    (met_more final.taken final.line
    (met_last fwd_err.taken)))))))))))

-- `first_line::good_line` meets its contract: fields that are all met make the first line of the text.
use Rattle.std.proofs.Common.{sym}
use Rattle.first_line.proofs.Good.{good_leads, met_end}
use Rattle.first_line.proofs.good_line.Goals as goal

pub overflow_sub-result : goal.overflow_sub-result
overflow_sub-result c = met_end c.in_ok-met.met c.in_ok-met.ensures

pub returns : goal.returns
returns c = good_leads c.in_ok-met.met c.in_ok-met.ensures (sym c.if-not-dashes_agree.ensures) c.line_of.ensures

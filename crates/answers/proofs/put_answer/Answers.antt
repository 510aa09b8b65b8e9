-- `answers::put_answer` meets its contract: nine bytes, and one behind them.
use mathlib.Core.Path.{◌≡◌, ◌∙◌, ap}
use mathlib.Core.List.{List, [], ◌∷◌, ◌++◌}
use Prim.Native.Nat.{ℕ, ◌*◌, ◌/◌, ◌%◌}
use lib.ListN.{length}
use lib.Seq.{length-take-le}
use Rattle.std.proofs.Common.{arith}
use Rattle.kinds.specs.Codes.{DERR}
use Rattle.answers.specs.Code.{ten_of, answer_at, with_derr}
use Rattle.answers.proofs.Laws.{error_by, nine_and_one}
use Rattle.answers.proofs.put_answer.Goals as goal

pub returns : goal.returns
unfolding answer_at
returns c =
    let nine : length c.copy_from_slice.new.self ≡ 9 = c.copy_from_slice.ensures.len ∙ length-take-le 9 c.args.slot.now (omega arith) in
    let error : c.choose.result.0 ≡ c.args.number / with_derr % 2 * DERR = error_by c.args.number _ (omega arith) c.choose.ensures in
    nine_and_one c.copy_from_slice.new.self c.args.slot.now c.choose.result.0 nine c.requires.ten
    ∙ ap (λ (l : List ℕ). l ++ (c.choose.result.0 ∷ [])) c.copy_from_slice.ensures.after
    ∙ c.row-answer.ensures c.choose.result.0
    ∙ ap (ten_of _ _) error

-- `sheet::next_line` meets its contract: the first line of what is left of the piece, if enough is known of it.
use mathlib.Core.Path.{sym, ◌∙◌, ap}
use mathlib.Core.Bool.{Bool, cond}
use Prim.Native.Nat.{◌+◌}
use native.Mathlib.Nat.{add-zero}
use lib.Dec.{ltb}
use Rattle.std.proofs.Common.{rules}
use Rattle.first_line.specs.First.{first_line}
use Rattle.sheet.proofs.Laws.{first_within, sure_seen, next_seen, rest_of}
use Rattle.sheet.proofs.next_line.Goals as goal

pub returns-then-not-sure : goal.returns-then-not-sure
returns-then-not-sure c =
    sym (sure_seen c.args.ended c.args.lines c.args.piece.now c.args.start c.parse-first.result
    (c.parse-first.ensures ∙ ap (first_line (ltb 0 c.args.lines) c.args.ended) (rest_of c.args.piece.now c.args.start)))
    ∙ c.if-not-sure.true

pub overflow_add-end : goal.overflow_add-end
overflow_add-end c =
    search (
      rules,
      first_within c.args.piece.now c.args.start (ltb 0 c.args.lines) c.args.ended c.parse-first.result c.requires
          (c.parse-first.ensures ∙ ap (first_line (ltb 0 c.args.lines) c.args.ended) (rest_of c.args.piece.now c.args.start)),
    )

pub overflow_add-result : goal.overflow_add-result
overflow_add-result c =
    search (
      rules,
      first_within c.args.piece.now c.args.start (ltb 0 c.args.lines) c.args.ended c.parse-first.result c.requires
          (c.parse-first.ensures ∙ ap (first_line (ltb 0 c.args.lines) c.args.ended) (rest_of c.args.piece.now c.args.start)),
    )

pub returns-then-first : goal.returns-then-first
returns-then-first c =
    let first = c.parse-first.ensures ∙ ap (first_line (ltb 0 c.args.lines) c.args.ended) (rest_of c.args.piece.now c.args.start) in
    next_seen c.args.ended c.args.lines c.args.piece.now c.args.start _ c.parse-first.result first
    (sym (sure_seen c.args.ended c.args.lines c.args.piece.now c.args.start c.parse-first.result first) ∙ c.if-not-sure.false)
    (ap (λ (b : Bool). c.args.start + c.parse-first.result.end + cond b 2 0) (sym c.if-first.true))

pub returns-else-first : goal.returns-else-first
returns-else-first c =
    let first = c.parse-first.ensures ∙ ap (first_line (ltb 0 c.args.lines) c.args.ended) (rest_of c.args.piece.now c.args.start) in
    next_seen c.args.ended c.args.lines c.args.piece.now c.args.start _ c.parse-first.result first
    (sym (sure_seen c.args.ended c.args.lines c.args.piece.now c.args.start c.parse-first.result first) ∙ c.if-not-sure.false)
    (sym (add-zero (c.args.start + c.parse-first.result.end)) ∙ ap (λ (b : Bool). c.args.start + c.parse-first.result.end + cond b 2 0) (sym c.if-first.false))

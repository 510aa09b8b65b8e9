-- `sheet::judge_line` meets its contract: the header, then 7 for a line too many or too long, then what the line says.
use mathlib.Core.Path.{refl, sym, ◌∙◌, ap}
use Rattle.std.proofs.lemmas.Result.{err_from_is_err_and}
use Rattle.parser.specs.Parsed.{in_numbers}
use native.Mathlib.Nat.{pos_of_ne-zero}
use native.Mathlib.Omega.{arith}
use Rattle.sheet.specs.Sheet.{header}
use Rattle.sheet.proofs.Good.{line_no_fault}
use Rattle.sheet.proofs.Laws.{header_good, header_bad, line_too_many, line_too_long, line_read, refused_told, goes_by}
use Rattle.std.proofs.Common.{inl, inr}
use Rattle.sheet.proofs.judge_line.Goals as goal

pub returns-then-eq : goal.returns-then-eq
unfolding header
returns-then-eq c =
    header_good c.args.lines c.args.line.now c.args.table.now c.args.out.now c.args.at c.if-lines-eq0.true (sym c.eq.ensures ∙ c.if-eq.true) (omega (arith, c.requires.roomy))

pub returns-else-eq : goal.returns-else-eq
unfolding header
returns-else-eq c = record {
  told_so = header_bad c.args.lines c.args.line.now c.args.table.now c.if-lines-eq0.true (sym c.eq.ensures ∙ c.if-eq.false);
  out_so = refl;
  table_so = refl;
}

pub returns-then-lines-gt-MOST_LINES : goal.returns-then-lines-gt-MOST_LINES
returns-then-lines-gt-MOST_LINES c = record {
  told_so =
      elim c.then-lines-gt-MOST_LINES.either [
        | inl many ↦ line_too_many c.args.lines c.args.line.now c.args.table.now c.if-lines-eq0.false many
        | inr long ↦ line_too_long c.args.lines c.args.line.now c.args.table.now c.if-lines-eq0.false long.0 long.1
      ];
  out_so = refl;
  table_so = refl;
}

pub returns-in_err-parsed : goal.returns-in_err-parsed
returns-in_err-parsed c =
    let p = err_from_is_err_and c.from_residual.result c.from_residual.ensures.1 in
    rw (p.1, p.2)
    (record {
      told_so = refused_told c.args.lines c.args.line.now c.args.table.now c.in_err-parsed.field-0.0 c.if-lines-eq0.false c.if-lines-gt-MOST_LINES.false c.if-line-gt-LONGEST.false
          (ap in_numbers (sym c.in_err-parsed.was) ∙ c.requires.said_by (pos_of_ne-zero c.if-lines-eq0.false) c.if-line-gt-LONGEST.false);
      out_so = refl;
      table_so = refl;
    })

pub judge_event-requires-clause-no_fault : goal.judge_event-requires-clause-no_fault
judge_event-requires-clause-no_fault c =
    line_no_fault c.args.line.now c.in_ok-parsed.field-0
    (ap in_numbers (sym c.in_ok-parsed.was) ∙ c.requires.said_by (pos_of_ne-zero c.if-lines-eq0.false) c.if-line-gt-LONGEST.false)

pub returns : goal.returns
returns c =
    goes_by
    (line_read c.args.lines c.args.line.now c.args.table.now c.if-lines-eq0.false c.if-lines-gt-MOST_LINES.false c.if-line-gt-LONGEST.false
    (ap in_numbers (sym c.in_ok-parsed.was) ∙ c.requires.said_by (pos_of_ne-zero c.if-lines-eq0.false) c.if-line-gt-LONGEST.false))
    c.judge_event.ensures

-- A permitted step and the row that permits it, in both directions. What holds for all rows holds for that row.
-- Assumes nothing.
use mathlib.Core.Path.{◌≡◌}
use mathlib.Core.Bool.{Bool, true, ◌&&◌}
use mathlib.Core.List.{List}
use Prim.Native.Nat.{ℕ}
use lib.Dec.{eqb}
use Rattle.kinds.specs.Tests.{all, ◌∈?◌}
use Rattle.kinds.proofs.Lists.{In, any_found, found_any, all_at, and_left, and_right, and_both}
use Rattle.rows.specs.Rows.{Row, rows}
use Rattle.rows.specs.Permitted.{asked, answered, tagged, holds, permitted}

-- a row that permits the step, with everything that it asks
pub record Permits (e : List ℕ) (t s s' : ℕ) : Type 0 where
  pub row : Row
  pub inside : In row rows
  pub from : eqb s row.before ≡ true
  pub to : s' ∈? row.finals ≡ true
  pub is_asked : asked e row.table row.ret row.marked ≡ true
  pub is_answered : answered e row.table row.answer ≡ true
  pub is_tagged : tagged e t row.table row.before row.answer ≡ true

pub permitted_row : (e : List ℕ) (t s s' : ℕ) → permitted e t s s' ≡ true → Permits e t s s'
unfolding permitted
permitted_row e t s s' h =
    let f = any_found (holds e t s s') rows h in
    let r = f.one in
    let a = eqb s r.before in
    let b = s' ∈? r.finals in
    let c = asked e r.table r.ret r.marked in
    let d = answered e r.table r.answer in
    let g = tagged e t r.table r.before r.answer in
    let abcd = and_left (a && b && c && d) g f.passes in
    let abc = and_left (a && b && c) d abcd in
    let ab = and_left (a && b) c abc in
    record {
      row = r;
      inside = f.inside;
      from = and_left a b ab;
      to = and_right a b ab;
      is_asked = and_right (a && b) c abc;
      is_answered = and_right (a && b && c) d abcd;
      is_tagged = and_right (a && b && c && d) g f.passes;
    }

pub row_permitted : (e : List ℕ) (t s s' : ℕ) → Permits e t s s' → permitted e t s s' ≡ true
unfolding permitted
row_permitted e t s s' p =
    found_any (holds e t s s') p.inside
    (and_both (and_both (and_both (and_both p.from p.to) p.is_asked) p.is_answered) p.is_tagged)

-- a test that all rows pass is passed by the row that permits the step
pub by_rows : (test : Row → Bool) {e : List ℕ} {t s s' : ℕ} → all test rows ≡ true → (p : Permits e t s s') → test p.row ≡ true
by_rows test h p = all_at test h p.inside

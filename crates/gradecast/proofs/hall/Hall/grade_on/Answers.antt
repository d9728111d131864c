-- `Hall::grade_on` meets its contract: the test is whether leader k must be counted, and the grade is over k's column.
-- Of any other leader the row is the box's own word, and the support is the sound boxes and the echoes, which together
-- fit a byte. Assumes nothing.
use mathlib.Core.Path.{sym, ap, ◌∙◌}
use Prim.Native.Nat.{◌+◌}
use Rattle.tally.specs.declared.Graded.{Graded}
use Rattle.tally.specs.Tally.{support_of, graded_row}
use Rattle.gradecast.proofs.Asked.{on_counted, on_other}
use Rattle.gradecast.proofs.Columns.{column_row, column_support}
use Rattle.gradecast.proofs.hall.Hall.grade_on.Goals as goal

pub returns-then-must_count : goal.returns-then-must_count
returns-then-must_count c =
    let a = c.args in
    let p = c.requires in
    let counted = sym c.must_count.ensures ∙ c.if-must_count.true in
    let size = a.self.size in
    let column = c.column.ensures in (
      ap (λ (r : Graded). r.row) c.grade-graded.ensures
          ∙ column_row a.self.settings size p.0 a.heard.now c.told-heard column
          ∙ sym (on_counted _ _ _ _ _ _ counted),
      ap (λ (r : Graded). r.support) c.grade-graded.ensures
          ∙ column_support a.self.settings size p.0 a.heard.now c.told-heard column
          ∙ sym (on_counted _ _ _ _ _ _ counted),
    )

pub returns : goal.returns
returns c =
    let a = c.args in
    let not-counted = sym c.must_count.ensures ∙ c.if-must_count.false in
    let support = a.self.many + a.echoes in (
      sym (on_other _ _ graded_row a.own a.heard.now a.k not-counted),
      sym (on_other _ a.self.settings (λ t. support_of) support a.heard.now a.k not-counted),
    )

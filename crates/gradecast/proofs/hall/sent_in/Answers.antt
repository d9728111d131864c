-- `hall::sent_in` meets its contract: a turn counts one more cell where it holds a row, and none else, and at the
-- end all are counted. Assumes nothing.
use mathlib.Core.Path.{sym, ◌∙◌}
use mathlib.Core.Bool.{not}
use native.Mathlib.Omega.{arith}
use lib.Dec.{eqb}
use lib.ListN.{length, get_or}
use Rattle.counting.proofs.Count.{count_le}
use Rattle.counting.proofs.Loops.{count_begins, count_ends}
use Rattle.gradecast.proofs.Turns.{counts_one, counts_none}
use borrow.Author.Rules.{rules}
use Rattle.gradecast.proofs.hall.sent_in.Goals as goal
use Rattle.gradecast.proofs.hall.sent_in.Goals.{then-is_row, else-is_row}

pub loop-row-init : goal.loop-row-init
loop-row-init c = count_begins _

pub overflow_add-sent : goal.overflow_add-sent
overflow_add-sent c =
    let cells = c.args.cells.now in
    let so_far = c.loop-row.invariant in
    omega (arith, so_far.1, count_le c.loop-row.row-index (λ k. not (eqb (get_or cells k 0) 0)))

pub loop-row-preserved : goal.loop-row-preserved
loop-row-preserved c =
    let so_far = c.loop-row.invariant in
    elim c.if-is_row.branch [
      | then-is_row w ↦
          rw w.sent-is (counts_one _ so_far (search rules) (sym c.is_row.ensures ∙ w.if-is_row.true))
      | else-is_row w ↦
          rw w.sent-is (counts_none _ so_far (search rules) (sym c.is_row.ensures ∙ w.if-is_row.false))
    ]

pub returns : goal.returns
returns c =
    let cells = c.args.cells.now in
    let e = count_ends _ c.loop-row.invariant (omega arith) in
    (e, omega (arith, e, count_le (length cells) (λ k. not (eqb (get_or cells k 0) 0))))

-- `hall::faulty_boxes` meets its contract: a turn counts one more box where it is faulty, and none else, and at
-- the end all are counted. Assumes nothing.
use mathlib.Core.Path.{sym, ◌∙◌}
use native.Mathlib.Omega.{arith}
use Rattle.counting.specs.Sets.{member}
use Rattle.counting.proofs.Count.{count_le}
use Rattle.counting.proofs.Loops.{count_begins, count_ends}
use Rattle.gradecast.proofs.Turns.{counts_one, counts_none}
use Rattle.gradecast.proofs.hall.faulty_boxes.Goals as goal
use Rattle.gradecast.proofs.hall.faulty_boxes.Goals.{then-is_member, else-is_member}

pub loop-j-init : goal.loop-j-init
loop-j-init c = count_begins _

pub overflow_add-found : goal.overflow_add-found
overflow_add-found c =
    let so_far = c.loop-j.invariant in
    omega (arith, so_far.1, count_le c.loop-j.j (member c.args.faulty))

pub loop-j-preserved : goal.loop-j-preserved
loop-j-preserved c =
    let so_far = c.loop-j.invariant in
    let below = c.loop-j-test.true in
    elim c.if-is_member.branch [
      | then-is_member w ↦ rw w.found-is (counts_one _ so_far below (sym c.is_member.ensures ∙ w.if-is_member.true))
      | else-is_member w ↦ rw w.found-is (counts_none _ so_far below (sym c.is_member.ensures ∙ w.if-is_member.false))
    ]

pub returns : goal.returns
returns c = count_ends _ c.loop-j.invariant (omega arith)

-- `Seat::put_grades` meets its contract: each turn puts one more row and one more support. Assumes nothing.
use native.Mathlib.Omega.{arith}
use Rattle.gradecast.proofs.Cells.{put_turn, put_ends}
use Rattle.gradecast.proofs.hall.Seat.put_grades.Goals as goal
use Rattle.gradecast.proofs.hall.Seat.put_grades.Goals.{In-loop-k}

pub loop-k-preserved : goal.loop-k-preserved
loop-k-preserved c =
    let seat = c.args.self in
    let so_far = c.loop-k.invariant in
    let below = c.loop-k-test.true in
    let graded = c.grade_on-found.ensures in
    record {
      put_rows = put_turn seat.hall.size.high seat.below _ _ _ so_far.put_rows below graded.0;
      put_supports = put_turn seat.hall.size.high seat.below _ _ _ so_far.put_supports below graded.1;
    }

pub returns : goal.returns
returns c =
    let seat = c.args.self in
    let put = c.loop-k.invariant in
    record {
      put_rows = put_ends seat.hall.size.high seat.below _ (omega arith) put.put_rows;
      put_supports = put_ends seat.hall.size.high seat.below _ (omega arith) put.put_supports;
    }

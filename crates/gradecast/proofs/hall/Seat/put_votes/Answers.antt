-- `Seat::put_votes` meets its contract: each turn puts one more vote. Assumes nothing.
use native.Mathlib.Omega.{arith}
use Rattle.gradecast.proofs.Cells.{put_turn, put_ends}
use Rattle.gradecast.proofs.hall.Seat.put_votes.Goals as goal
use Rattle.gradecast.proofs.hall.Seat.put_votes.Goals.{In-loop-k}

pub loop-k-preserved : goal.loop-k-preserved
loop-k-preserved c =
    let seat = c.args.self in
    put_turn seat.hall.size.high seat.below _ _ _ c.loop-k.invariant c.loop-k-test.true c.vote_on.ensures

pub returns : goal.returns
returns c = let seat = c.args.self in put_ends seat.hall.size.high seat.below _ (omega arith) c.loop-k.invariant

-- `Hall::hear_plain` meets its contract: each turn puts down one more sender's rows. Assumes nothing.
use native.Mathlib.Omega.{arith}
use Rattle.gradecast.proofs.Columns.{senders_turn}
use Rattle.gradecast.proofs.hall.Hall.hear_plain.Goals as goal

pub loop-j-preserved : goal.loop-j-preserved
loop-j-preserved c = senders_turn _ c.loop-j-test.true c.loop-j.invariant c.hear_plain_from.ensures

pub returns : goal.returns
returns c = λ k j hk hj. c.loop-j.invariant k j hk (omega arith)

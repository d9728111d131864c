-- `run::start_rows`: after k turns the first k rows stand as they are to, and the other places still hold 0.
use lib.ListN.{length, replicate}
use Rattle.counting.proofs.Loops.{Filled}
use Rattle.run.specs.State.{start_row}
use Rattle.run.proofs.start_rows.Given as goal

abbrev pub invariant-loop-k : goal.invariant-loop-k
invariant-loop-k l =
    Filled (length l.rows) (start_row (length l.rows) l.faulty l.rows) (replicate 13 0) l.k l.held

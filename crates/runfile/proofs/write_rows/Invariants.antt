-- The first k rows stand at the front of the slice. Assumes nothing.
use Rattle.counting.proofs.Loops.{Filled}
use Rattle.runfile.specs.File.{row_from}
use Rattle.runfile.proofs.write_rows.Given as goal

abbrev pub invariant-loop-k : goal.invariant-loop-k
invariant-loop-k l = Filled l.count (row_from l.at l.bytes) l.initial.rows l.k l.rows

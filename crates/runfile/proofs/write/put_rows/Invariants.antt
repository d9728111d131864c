-- The bytes of the first k rows stand from the place on. Assumes nothing.
use mathlib.Core.Path.{◌≡◌}
use Rattle.runfile.specs.File.{rows_in_bytes}
use Rattle.runfile.specs.Write.{put_from}
use Rattle.runfile.proofs.write.put_rows.Given as goal

abbrev pub invariant-loop-k : goal.invariant-loop-k
invariant-loop-k l = l.out ≡ put_from l.at (rows_in_bytes l.rows l.k) l.initial.out

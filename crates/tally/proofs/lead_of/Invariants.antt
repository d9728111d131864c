-- After i turns the lead is the best of the first i rows, with its support.
use mathlib.Core.Path.{◌≡◌}
use Prim.Native.Nat.{◌≤◌}
use lib.ListN.{length}
use Rattle.counting.specs.Most.{best}
use Rattle.tally.specs.Inside.{lead_of}
use Rattle.tally.proofs.lead_of.Given as goal

abbrev pub invariant-loop-i : goal.invariant-loop-i
invariant-loop-i l = (l.i ≤ length l.rows) × (l.lead ≡ lead_of l.rows (best l.rows l.i))

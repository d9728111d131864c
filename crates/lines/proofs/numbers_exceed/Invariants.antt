-- After so many turns the numbers passed have used up what `left` lacks of the room. Assumes nothing.
use mathlib.Core.Path.{◌≡◌}
use Prim.Native.Nat.{◌+◌}
use lib.ListN.{length}
use Rattle.lines.specs.Line.{fields}
use Rattle.lines.proofs.numbers_exceed.Given as goal

abbrev pub invariant-loop-number : goal.invariant-loop-number
invariant-loop-number l = l.left + length (fields l.numbers l.number-index) ≡ l.room

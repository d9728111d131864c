-- The loop goes from part to part, and the first `count` numbers of the line stand at the front of the slice. What is
-- left of the line falls. Assumes nothing.
use mathlib.Core.Path.{◌≡◌}
use lib.ListN.{length, take}
use Rattle.lines.specs.Line.{placed}
use Rattle.lines.specs.Read.{numbers_in}
use Rattle.lines.proofs.Walk.{Left}
use Rattle.lines.proofs.take_numbers.Given as goal

abbrev pub invariant-loop-left : goal.invariant-loop-left
invariant-loop-left l = record {
  walked : Left l.line l.left l.count;
  written : l.numbers ≡ placed l.initial.numbers 0 (take l.count (numbers_in l.line));
}

abbrev pub decreases-loop-left : goal.decreases-loop-left
decreases-loop-left l = length l.left

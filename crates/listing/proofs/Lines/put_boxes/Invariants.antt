-- `Lines::put_boxes` meets its contract: after each turn the lines of the boxes before this one stand there, 37 bytes
-- at most for each. Assumes nothing.
use mathlib.Core.Path.{◌≡◌}
use mathlib.Core.List.{◌++◌}
use Prim.Native.Nat.{◌+◌, ◌*◌, ◌≤◌}
use lib.ListN.{length}
use Rattle.listing.specs.Listing.{box_lines}
use Rattle.listing.proofs.Lines.put_boxes.Given as goal

abbrev pub invariant-loop-i : goal.invariant-loop-i
invariant-loop-i l =
    (l.self ≡ l.initial.self ++ box_lines l.s l.i) × (length l.self ≤ length l.initial.self + 37 * l.i)

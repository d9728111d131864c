-- `listing::tell_iterations` meets its contract: at each turn the state is the one after so many iterations as it
-- says, none of them refused, and the lines of those stand in the text, 481 bytes at most for each. What falls is the
-- number of iterations due. Assumes nothing.
use mathlib.Core.Path.{◌≡◌}
use mathlib.Core.List.{◌++◌}
use Prim.Native.Nat.{◌+◌, ◌-◌, ◌*◌, ◌≤◌}
use lib.ListN.{length}
use Rattle.listing.specs.Listing.{iteration_lines}
use Rattle.listing.proofs.Iterations.{Going}
use Rattle.listing.proofs.tell_iterations.Given as goal

abbrev pub invariant-loop-s : goal.invariant-loop-s
invariant-loop-s l =
    Going l.bytes l.s ×
    (l.text ≡ l.initial.text ++ iteration_lines l.bytes l.s.done) ×
    (length l.text ≤ length l.initial.text + 481 * l.s.done)

abbrev pub decreases-loop-s : goal.decreases-loop-s
decreases-loop-s l = l.s.t + 1 - l.s.done

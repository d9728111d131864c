-- `hall::faulty_boxes` meets its contract: after j turns it has counted the faulty boxes below j. Assumes nothing.
use Rattle.counting.specs.Sets.{member}
use Rattle.counting.proofs.Loops.{Counted}
use Rattle.gradecast.proofs.hall.faulty_boxes.Given as goal

abbrev pub invariant-loop-j : goal.invariant-loop-j
invariant-loop-j l = Counted l.n (member l.faulty) l.j l.found

-- `Hall::confidences_of` meets its contract: each turn puts one more confidence, and n rows of n lie within the 169
-- places. Assumes nothing.
use mathlib.Core.Path.{◌∙◌}
use native.Mathlib.Omega.{arith}
use Rattle.counting.proofs.Build.{front_whole}
use Rattle.counting.proofs.Loops.{fill_begins, fill_turn}
use Rattle.sizes.proofs.Laws.{square_le}
use Rattle.tally.specs.Tally.{confidence_at}
use Rattle.gradecast.proofs.Cells.{cells_mapped}
use Rattle.gradecast.proofs.hall.Hall.confidences_of.Goals as goal
use Rattle.gradecast.proofs.hall.Hall.confidences_of.Goals.{In-loop-p}

pub loop-p-init : goal.loop-p-init
loop-p-init c = fill_begins _ _

pub loop-p-preserved : goal.loop-p-preserved
loop-p-preserved c =
    fill_turn _ _ (square_le c.args.self.size.high) c.loop-p.invariant c.loop-p-test.true c.confidence_at.ensures

pub returns : goal.returns
returns c =
    λ f e.
    let filled = c.loop-p.invariant in
    front_whole _ _ (omega (arith, filled.0)) filled.1 ∙ cells_mapped _ f (confidence_at _) _ e

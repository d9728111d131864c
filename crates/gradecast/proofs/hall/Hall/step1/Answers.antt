-- `Hall::step1` meets its contract: the boxes put their cells one after the other. Assumes nothing.
use native.Mathlib.Omega.{arith}
use Rattle.gradecast.proofs.Cells.{boxes_begin, boxes_turn, boxes_end}
use Rattle.gradecast.proofs.hall.Hall.step1.Goals as goal

pub loop-i-init : goal.loop-i-init
loop-i-init c = boxes_begin _ _ c.requires

pub loop-i-preserved : goal.loop-i-preserved
loop-i-preserved c = boxes_turn _ _ c.loop-i.invariant c.step1_box.ensures

pub returns : goal.returns
returns c = boxes_end _ _ (omega arith) c.loop-i.invariant

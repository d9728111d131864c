-- `Hall::step3` meets its contract: the boxes put their votes one after the other, each from the V of all boxes.
-- Assumes nothing.
use mathlib.Core.Path.{refl}
use native.Mathlib.Omega.{arith}
use Rattle.gradecast.proofs.Cells.{boxes_begin, boxes_turn, boxes_end}
use Rattle.gradecast.proofs.Places.{second_fits}
use Rattle.gradecast.proofs.hall.Hall.step3.Goals as goal

pub loop-i-init : goal.loop-i-init
loop-i-init c =
    record { alike = λ k j hk hj o. c.hear_plain.ensures k j hk hj; put = boxes_begin _ _ c.requires.1 }

pub invariant_of-seat : goal.invariant_of-seat
invariant_of-seat c = record { below = c.loop-i-test.true; its_own = refl; fits = second_fits _ }

pub step3-requires : goal.step3-requires
step3-requires c = (record { begins = refl; second = c.requires.0 }, c.loop-i.invariant.alike)

pub loop-i-preserved : goal.loop-i-preserved
loop-i-preserved c =
    let put = c.step3.ensures in
    record { alike = put.alike; put = boxes_turn _ _ c.loop-i.invariant.put put.put_votes }

pub returns : goal.returns
returns c = boxes_end _ _ (omega arith) c.loop-i.invariant.put

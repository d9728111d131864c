-- `Hall::step4` meets its contract: the boxes put their grades one after the other, each from the Y of all boxes.
-- Assumes nothing.
use mathlib.Core.Path.{refl}
use native.Mathlib.Omega.{arith}
use Rattle.gradecast.proofs.Cells.{boxes_begin, boxes_turn, boxes_end}
use Rattle.gradecast.proofs.Places.{third_fits}
use Rattle.gradecast.proofs.hall.Hall.step4.Goals as goal

pub loop-i-init : goal.loop-i-init
loop-i-init c =
    let p = c.requires in
    record {
      alike = λ k j hk hj o. c.hear_plain.ensures k j hk hj;
      put_rows = boxes_begin _ _ p.1;
      put_supports = boxes_begin _ _ p.2;
    }

pub invariant_of-seat : goal.invariant_of-seat
invariant_of-seat c = record { below = c.loop-i-test.true; its_own = refl; fits = third_fits _ }

pub step4-requires : goal.step4-requires
step4-requires c = (record { begins = refl; third = c.requires.0 }, c.loop-i.invariant.alike)

pub loop-i-preserved : goal.loop-i-preserved
loop-i-preserved c =
    let put = c.step4.ensures in
    let so_far = c.loop-i.invariant in
    record {
      alike = put.alike;
      put_rows = boxes_turn _ _ so_far.put_rows put.put_rows;
      put_supports = boxes_turn _ _ so_far.put_supports put.put_supports;
    }

pub returns : goal.returns
returns c =
    let so_far = c.loop-i.invariant in
    (boxes_end _ _ (omega arith) so_far.put_rows, boxes_end _ _ (omega arith) so_far.put_supports)

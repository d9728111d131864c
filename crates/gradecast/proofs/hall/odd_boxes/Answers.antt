-- `hall::odd_boxes` meets its contract: each turn puts one more list to the set, up to the 13th.
-- Assumes nothing.
use mathlib.Core.Path.{◌≡◌, ap, ◌∙◌}
use Prim.Native.Nat.{ℕ}
use native.Mathlib.Omega.{arith}
use Rattle.gradecast.specs.Inside.{odd_to}
use Rattle.gradecast.proofs.Plain.{odd_none, odd_turn}
use Rattle.gradecast.proofs.hall.odd_boxes.Goals as goal

pub loop-list-init : goal.loop-list-init
loop-list-init c = odd_none c.args.faulty c.args.lists.now

pub loop-list-preserved : goal.loop-list-preserved
loop-list-preserved c =
    let a = c.args in
    odd_turn a.faulty a.lists.now c.loop-list.list-index c.loop-list.odd c.loop-list.invariant

pub returns : goal.returns
returns c =
    let a = c.args in
    let whole : c.loop-list.list-index ≡ 13 = omega arith in
    λ j. c.loop-list.invariant j ∙ ap (λ (m : ℕ). odd_to m a.faulty a.lists.now j) whole

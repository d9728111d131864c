-- `Hall::new` meets its contract: no more than n boxes are faulty, and what the boxes go by is as the functions that
-- find it say. Assumes nothing.
use mathlib.Core.Path.{ap}
use Prim.Native.Nat.{ℕ, ◌-◌}
use native.Mathlib.Omega.{arith}
use Rattle.counting.specs.Sets.{member}
use Rattle.counting.proofs.Count.{count_le}
use Rattle.gradecast.proofs.hall.Hall.new.Goals as goal

pub overflow_sub-many : goal.overflow_sub-many
overflow_sub-many c =
    let s = c.args.settings in
    omega (arith, c.faulty_boxes-number.ensures, count_le s.n (member s.faulty))

pub invariant_of-result : goal.invariant_of-result
invariant_of-result c =
    let odd = c.odd_boxes-odd.ensures in
    record {
      ready = c.requires.0;
      size = c.requires.1;
      all_sound = ap (λ (m : ℕ). c.args.settings.n - m) c.faulty_boxes-number.ensures;
      odd_set = odd;
      enough = c.asked_leaders-asked.ensures _ odd;
    }

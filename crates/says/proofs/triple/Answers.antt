-- `says::triple` meets its contract: three digits in base n make a number below n³. Assumes nothing.
use mathlib.Core.Path.{◌≡◌, ap₂}
use Prim.Native.Nat.{ℕ, ◌+◌, ◌-◌, ◌*◌}
use native.Mathlib.Omega.{arith}
use Rattle.gradecast.specs.Steps.{place1, place_from}
use Rattle.gradecast.proofs.Places.{three_digits}
use Rattle.says.proofs.Places.{box_fits}
use Rattle.says.proofs.triple.Goals as goal

pub returns : goal.returns
unfolding place1 place_from
returns c =
    let n = c.args.n in
    let p = c.in_ok-pair.ensures in
    let l = c.in_ok-from_0.ensures in
    let is : c.in_ok-pair.field-0 * n + c.in_ok-from_0.field-0
    ≡ ((c.args.sender - 1) * n + (c.args.receiver - 1)) * n + (c.args.leader - 1) =
    ap₂ (λ (a b : ℕ). a * n + b) p.2 l.1 in
    (p.0, p.1, l.0, omega (arith, is), omega (arith, is, three_digits (box_fits p.0) (box_fits p.1) (box_fits l.0)))

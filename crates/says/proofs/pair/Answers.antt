-- `says::pair` meets its contract: two digits in base n make a number below n². Assumes nothing.
use mathlib.Core.Path.{◌≡◌, ap₂}
use Prim.Native.Nat.{ℕ, ◌+◌, ◌-◌, ◌*◌}
use native.Mathlib.Omega.{arith}
use Rattle.gradecast.specs.Steps.{place1}
use Rattle.gradecast.proofs.Places.{two_digits}
use Rattle.says.proofs.Places.{box_fits}
use Rattle.says.proofs.pair.Goals as goal

pub returns : goal.returns
unfolding place1
returns c =
    let n = c.args.n in
    let s = c.in_ok-from_0.ensures in
    let r = c.in_ok-from_0-2.ensures in
    let is : c.in_ok-from_0.field-0 * n + c.in_ok-from_0-2.field-0
    ≡ (c.args.sender - 1) * n + (c.args.receiver - 1) = ap₂ (λ (a b : ℕ). a * n + b) s.1 r.1 in
    (s.0, r.0, is, omega (arith, is, two_digits (box_fits s.0) (box_fits r.0)))

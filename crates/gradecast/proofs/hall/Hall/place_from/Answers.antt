-- `Hall::place_from` meets its contract: sender, receiver and leader are three digits in base n, and n is at most
-- 13. Assumes nothing.
use mathlib.Core.Path.{refl}
use Prim.Native.Nat.{◌+◌, ◌*◌, ◌<◌}
use native.Mathlib.Omega.{arith}
use Rattle.gradecast.specs.Steps.{place_from}
use Rattle.gradecast.proofs.Places.{three_digits}
use Rattle.gradecast.proofs.hall.Hall.place_from.Goals as goal
use Rattle.gradecast.proofs.hall.Hall.place_from.Goals.{Start}

-- the three digits
digits : (c : Start) →
    let a = c.args in
    let n = a.self.settings.n in
    (a.sender * n + a.receiver) * n + a.leader < n * n * n
digits c = let p = c.requires in three_digits p.1 p.2.is_box p.2.is_leader

pub returns : goal.returns
unfolding place_from
returns c = (refl, omega (arith, digits c))

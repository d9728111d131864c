-- `Hall::place_of_first` meets its contract: sender and receiver are two digits in base n, and n is at most 13.
-- Assumes nothing.
use mathlib.Core.Path.{refl}
use Prim.Native.Nat.{◌+◌, ◌*◌, ◌<◌}
use Rattle.gradecast.specs.Steps.{place1}
use Rattle.gradecast.proofs.Places.{two_digits}
use Rattle.gradecast.proofs.hall.Hall.place_of_first.Goals as goal
use Rattle.gradecast.proofs.hall.Hall.place_of_first.Goals.{Start}

-- the two digits
digits : (c : Start) → let a = c.args in let n = a.self.settings.n in a.sender * n + a.receiver < n * n
digits c = two_digits c.requires.is_box c.requires.is_leader

pub returns : goal.returns
unfolding place1
returns c = (refl, digits c)

-- `run::Run::has_bad_reason`: after i turns the first i boxes have no bad reason on their lists, and those on their
-- lists are counted.
use mathlib.Core.Path.{◌≡◌}
use Prim.Native.Nat.{◌*◌, ◌/◌, ◌%◌}
use lib.ListN.{get_or}
use Rattle.counting.specs.Count.{count}
use Rattle.counting.specs.Sets.{member}
use Rattle.counting.proofs.Loops.{NoneYet}
use Rattle.run.specs.Inside.{bad_box}
use Rattle.run.proofs.Run.has_bad_reason.Given as goal

abbrev pub invariant-loop-i : goal.invariant-loop-i
invariant-loop-i l =
    NoneYet 13 (λ i. bad_box l.self.t l.self.done (get_or l.self.lists i 0) l.self.reasons i) l.i ×
    (l.listed ≡ count (13 * l.i) (λ p. member (get_or l.self.lists (p / 13) 0) (p % 13)))

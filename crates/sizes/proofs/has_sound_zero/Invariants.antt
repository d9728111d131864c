-- `sizes::has_sound_zero` meets its contract: a turn ends the search at a sound box with row 0, and otherwise none of
-- the first k + 1 is one. Assumes nothing.
use mathlib.Core.Bool.{◌&&◌}
use lib.Dec.{eqb}
use lib.ListN.{length, get_or}
use Rattle.counting.proofs.Loops.{NoneYet}
use Rattle.sizes.specs.Sizes.{sound}
use Rattle.sizes.proofs.has_sound_zero.Given as goal

abbrev pub invariant-loop-k : goal.invariant-loop-k
invariant-loop-k l = NoneYet (length l.rows) (λ k. sound l.faulty k && eqb (get_or l.rows k 0) 0) l.k

-- None of the first k boxes is sound with a row of 0. Assumes nothing.
use mathlib.Core.Bool.{Bool, ◌&&◌}
use mathlib.Core.List.{List}
use Prim.Native.Nat.{ℕ}
use lib.Dec.{eqb}
use lib.ListN.{get_or}
use Rattle.counting.specs.Count.{build}
use Rattle.counting.proofs.Loops.{NoneYet}
use Rattle.sizes.specs.Sizes.{sound}
use Rattle.runfile.specs.File.{heading_row}
use Rattle.runfile.proofs.has_sound_zero.Given as goal

-- is box j sound, and its row 0?
abbrev pub zero_at : List ℕ → ℕ → ℕ → ℕ → Bool
zero_at bytes n faulty j = sound faulty j && eqb (get_or (build n (heading_row bytes)) j 0) 0

abbrev pub invariant-loop-k : goal.invariant-loop-k
invariant-loop-k l = NoneYet l.n (zero_at l.bytes l.n l.faulty) l.k

-- Wrong lines that no edit of the code can try without another operation in it: each is told from the line `at` by
-- one byte. Box 9 taken for box 1, and so on with every eighth, differs at box 9; the iteration counted from 0
-- differs at the first. Assumes nothing.
use mathlib.Core.Path.{◌≡◌, ap}
use mathlib.Core.List.{List}
use Prim.Native.Nat.{ℕ}
use native.Mathlib.Omega.{arith}
use lib.ListN.{get_or}
use Rattle.lines.specs.Line.{tens, decimal, field, fields, line_of}
use Rattle.listing.specs.Listing.{at_line}
use Rattle.listing.specs.Wrong.{boxes_by_eight, iterations_from0}

-- behind `at` and a space stands the iteration, and behind another space the box
pub not_by_eight : boxes_by_eight 1 8 10 8 ≡ at_line 1 8 10 8 → ⊥
unfolding boxes_by_eight at_line line_of fields field decimal tens
not_by_eight e = let box = ap (λ (line : List ℕ). get_or line 5 0) e in omega (arith, box)

pub not_from_0 : iterations_from0 1 0 10 8 ≡ at_line 1 0 10 8 → ⊥
unfolding iterations_from0 at_line line_of fields field decimal tens
not_from_0 e = let iteration = ap (λ (line : List ℕ). get_or line 3 0) e in omega (arith, iteration)

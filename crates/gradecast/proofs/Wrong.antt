-- The list as it grows within the iteration gives other confidences than the rules. Four boxes, t = 1, boxes 0
-- and 3 named faulty. They are silent, but that in step 3 both say 9 about leader 3 to box 1. That is two places, so
-- its confidence in leader 3 is 1. By the list as it grows box 1 has listed leader 0 by then, hears 9 from box 3
-- alone, and has confidence 0. Assumes nothing.
use mathlib.Core.Path.{◌≡◌, refl}
use mathlib.Core.List.{List, [], ◌∷◌}
use Prim.Native.Nat.{ℕ}
use native.Mathlib.Omega.{arith}
use lib.ListN.{set, replicate}
use Rattle.counting.specs.Count.{count, build, find}
use Rattle.counting.specs.Sets.{member}
use Rattle.counting.specs.Most.{places, support, before, best, most}
use Rattle.sizes.specs.Sizes.{table_rows}
use Rattle.tally.specs.Tally.{carried, vote_of, support_of, confidence_at, confidence_of}
use Rattle.gradecast.specs.Steps.{place1, place_from, place2, place3, sends, hears, heard1, heard2, column2}
use Rattle.gradecast.specs.Steps.{voted, heard3, column3, confidence}
use Rattle.gradecast.specs.Lies.{silent}
use Rattle.gradecast.specs.Wrong.{joined, confidence_through, list_at, growing_confidence}

-- the sound boxes 1 and 2 hold 10 and 20
abbrev rows : List ℕ
rows = 0 ∷ 10 ∷ 20 ∷ 0 ∷ []

-- no box is listed yet
abbrev lists : List ℕ
lists = replicate 4 0

-- boxes 0 and 3 say 9 about leader 3 to box 1, and nothing else
abbrev table : List ℕ
table = set (set (silent 4) (place3 4 0 1 3) 9) (place3 4 3 1 3) 9

right : confidence 4 1 9 rows lists table 1 3 ≡ 1
unfolding confidence column3 heard3 voted column2 heard2 heard1 hears sends place1 place2 place3 place_from
    table_rows count build find member places support before best most carried vote_of support_of
    confidence_at confidence_of
right = refl

wrong : growing_confidence 4 1 9 rows lists table 1 3 ≡ 0
unfolding growing_confidence list_at joined confidence_through voted column2 heard2 heard1 hears sends
    place1 place2 place3 place_from table_rows count build find member places support before best most
    carried vote_of support_of confidence_at confidence_of
wrong = refl

pub not_as_it_grows : growing_confidence 4 1 9 rows lists table 1 3 ≡ confidence 4 1 9 rows lists table 1 3 → ⊥
not_as_it_grows e = omega (arith, wrong, right, e)

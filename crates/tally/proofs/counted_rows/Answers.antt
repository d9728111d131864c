-- `tally::counted_rows` meets its contract: 13 places are enough, so each turn fills one more, and at the end those of
-- all leaders are filled. Assumes nothing.
use Prim.Native.Nat.{◌≤◌}
use native.Mathlib.Omega.{arith}
use lib.ListN.{length, replicate}
use Rattle.counting.proofs.Loops.{fill_begins, fill_turn, fill_length, fill_fronts}
use Rattle.tally.specs.Tally.{counted}
use borrow.Author.Rules.{rules}
use Rattle.tally.proofs.counted_rows.Goals as goal
use Rattle.tally.proofs.counted_rows.Goals.{After-counted_row, At-loop-i, Start}

-- at a turn: 13 places are enough, and so many there are
enough : (c : After-counted_row) → length c.args.rows.now ≤ 13
enough c = c.requires.0

abbrev turn_of : After-counted_row → At-loop-i
turn_of c = (goal.at.After-counted_row c).At-loop-i

pub loop-i-init : goal.loop-i-init
loop-i-init c = fill_begins _ (replicate 13 0)

pub loop-i-preserved : goal.loop-i-preserved
loop-i-preserved c =
    fill_turn _ (replicate 13 0) (enough c) (turn_of c).loop-i.invariant (search rules) c.counted_row.ensures

pub returns : goal.returns
unfolding counted
returns c =
    let filled = c.loop-i.invariant in
    let whole = c.requires.0 in
    (fill_length _ (replicate 13 0) whole filled, fill_fronts _ (replicate 13 0) filled (omega arith))

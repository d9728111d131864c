-- `Lines::put_at` meets its contract: the numbers have at most 3, 2, 20 and 5 digits, so the line has its place.
-- Assumes nothing.
use native.Mathlib.Omega.{arith}
use Rattle.listing.specs.Listing.{at_line}
use Rattle.listing.proofs.Text.{at_most, grown}
use Rattle.listing.proofs.Lines.put_at.Goals as goal

pub put_line-requires : goal.put_line-requires
unfolding at_line
put_line-requires c =
    let a = c.args in
    let f = c.ranges in
    omega (arith, at_most a.done a.i a.row a.list f.done.fits c.requires.0 f.row.fits f.list.fits, c.requires.1)

pub returns-clause-text : goal.returns-clause-text
unfolding at_line
returns-clause-text c = c.put_line.ensures

pub returns-clause-most : goal.returns-clause-most
unfolding at_line
returns-clause-most c =
    let a = c.args in
    let f = c.ranges in
    grown a.self.now _ 37 c.put_line.ensures
    (at_most a.done a.i a.row a.list f.done.fits c.requires.0 f.row.fits f.list.fits)

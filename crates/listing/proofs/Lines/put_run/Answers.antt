-- `Lines::put_run` meets its contract: the numbers have at most 3, 3 and 5 digits, so the line has its place.
-- Assumes nothing.
use native.Mathlib.Omega.{arith}
use Rattle.listing.specs.Listing.{run_line}
use Rattle.listing.proofs.Text.{run_most, grown}
use Rattle.listing.proofs.Lines.put_run.Goals as goal

pub put_line-requires : goal.put_line-requires
unfolding run_line
put_line-requires c =
    let a = c.args in
    let f = c.ranges in
    omega (arith, run_most a.n a.t a.faulty f.n.fits f.t.fits f.faulty.fits, c.requires)

pub returns-clause-text : goal.returns-clause-text
unfolding run_line
returns-clause-text c = c.put_line.ensures

pub returns-clause-most : goal.returns-clause-most
unfolding run_line
returns-clause-most c =
    let a = c.args in
    let f = c.ranges in
    grown a.self.now _ 18 c.put_line.ensures (run_most a.n a.t a.faulty f.n.fits f.t.fits f.faulty.fits)

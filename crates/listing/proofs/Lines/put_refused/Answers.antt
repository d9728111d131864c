-- `Lines::put_refused` meets its contract: a refusal has at most 3 digits, so the line has its place. Assumes nothing.
use native.Mathlib.Omega.{arith}
use borrow.Author.Tests.{ne_eqb}
use Rattle.listing.specs.Listing.{last_line}
use Rattle.listing.proofs.Text.{refused_most}
use Rattle.listing.proofs.Lines.put_refused.Goals as goal

pub put_line-requires : goal.put_line-requires
put_line-requires c = omega (arith, refused_most c.args.refusal c.ranges.refusal.fits, c.requires.1)

pub returns : goal.returns
unfolding last_line
returns c = rw (ne_eqb c.args.refusal 0 c.requires.0) c.put_line.ensures

-- `Lines::put_sent` meets its contract: the messages have at most 20 digits, so the line has its place. Assumes
-- nothing.
use native.Mathlib.Omega.{arith}
use Rattle.listing.specs.Listing.{last_line}
use Rattle.listing.proofs.Text.{sent_most}
use Rattle.listing.proofs.Lines.put_sent.Goals as goal

pub put_line-requires : goal.put_line-requires
put_line-requires c = omega (arith, sent_most c.args.sent c.ranges.sent.fits, c.requires)

pub returns : goal.returns
unfolding last_line
returns c = c.put_line.ensures

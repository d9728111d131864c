-- `listing::begins` meets its contract: inside 1 to 13 the reply is the formula, and five of the largest tables behind
-- the largest heading are 182,633 bytes. Assumes nothing.
use Rattle.listing.proofs.Behind.{begins_inside, begins_most}
use Rattle.listing.proofs.begins.Goals as goal
use Rattle.listing.proofs.begins.Goals.{Start}

pub returns : goal.returns
returns c =
    let s = (goal.at.returns c).Start in (
      begins_inside _ _ _ c.table_begins.ensures s.requires.0 s.requires.1,
      begins_most _ _ _ c.table_begins.ensures s.requires.0 s.requires.1 s.requires.2,
    )

-- `listing::take_sender` meets its contract: the sender's rows stand in three parts of the table, and each part is
-- read to its place; what was read before stays. Assumes nothing.
use mathlib.Core.Path.{◌≡◌}
use native.Mathlib.Omega.{arith}
use lib.ListN.{length}
use Rattle.listing.proofs.Sender.{sender_taken, sender_kept}
use Rattle.listing.proofs.take_sender.Goals as goal

pub returns : goal.returns
returns c =
    let p = c.requires in
    let room : length c.args.table.now ≡ 4563 = omega arith in
    let one = c.read_part.ensures.rows_after in
    let two = c.read_part-2.ensures.rows_after in
    let three = c.read_part-3.ensures.rows_after in (
      sender_taken p.0 p.1 _ _ _ _ _ p.2 room one two three,
      sender_kept p.0 p.1 _ _ _ _ _ p.2 room one two three,
    )

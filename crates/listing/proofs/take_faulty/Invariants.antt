-- `listing::take_faulty` meets its contract: after each turn the faulty senders before this one are taken. Assumes
-- nothing.
use Rattle.listing.specs.Inside.{TakenTo}
use Rattle.listing.proofs.take_faulty.Given as goal

abbrev pub invariant-loop-sender : goal.invariant-loop-sender
invariant-loop-sender l = TakenTo l.n l.faulty l.bytes l.table l.sender

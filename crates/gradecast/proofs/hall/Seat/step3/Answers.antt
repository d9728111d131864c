-- `Seat::step3` meets its contract: a faulty box's cells are 0 as they stand; a sound box votes over the columns of
-- step 2 in the rules, or with its own word where the leader need not be counted, and the votes are its Y. What every
-- box hears alike stays for the next box. Assumes nothing.
use mathlib.Core.Path.{sym, ◌∙◌}
use Rattle.gradecast.proofs.Asked.{seat_faulty, seat_sound, votes_made}
use Rattle.gradecast.proofs.hall.Seat.step3.Goals as goal

pub returns-then-is_member : goal.returns-then-is_member
returns-then-is_member c =
    let is_faulty = sym c.is_member.ensures ∙ c.if-is_member.true in
    record { put_votes = seat_faulty c.args.self is_faulty _; alike = c.requires.1 }

pub returns : goal.returns
returns c =
    let is_sound = sym c.is_member.ensures ∙ c.if-is_member.false in
    let heard = c.hear.ensures in
    record {
      put_votes =
          seat_sound c.args.self _ _
          (votes_made c.args.self _ c.hear.array_long is_sound heard.all_heard c.requires.0)
          c.put_votes.ensures;
      alike = heard.alike;
    }

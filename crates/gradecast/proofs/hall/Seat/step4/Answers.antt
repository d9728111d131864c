-- `Seat::step4` meets its contract: a faulty box's cells are 0 as they stand; a sound box grades over the columns of
-- step 3 in the rules, or by its own word and the echoes where the leader need not be counted, and the rows and
-- supports are those of step 4. What every box hears alike stays for the next box. Assumes nothing.
use mathlib.Core.Path.{refl, sym, ◌∙◌}
use Rattle.gradecast.proofs.Asked.{seat_faulty, seat_sound, rows_made, supports_made}
use Rattle.gradecast.proofs.Echoes.{echoes_few}
use Rattle.gradecast.proofs.hall.Seat.step4.Goals as goal

pub returns-then-is_member : goal.returns-then-is_member
returns-then-is_member c =
    let is_faulty = sym c.is_member.ensures ∙ c.if-is_member.true in
    record {
      put_rows = seat_faulty c.args.self is_faulty _;
      put_supports = seat_faulty c.args.self is_faulty _;
      alike = c.requires.1;
    }

pub put_grades-requires : goal.put_grades-requires
put_grades-requires c = echoes_few _ _ _ c.args.self.hall.size.high _ (c.hear.ensures.echoes_after refl)

pub returns : goal.returns
returns c =
    let seat = c.args.self in
    let is_sound = sym c.is_member.ensures ∙ c.if-is_member.false in
    let heard = c.hear.ensures in
    let counted = heard.echoes_after refl in
    let graded = c.put_grades.ensures in
    record {
      put_rows =
          seat_sound seat _ _
          (rows_made seat _ c.hear.array_long is_sound heard.all_heard c.requires.0)
          graded.put_rows;
      put_supports =
          seat_sound seat _ _
          (λ k l. supports_made seat _ c.hear.array_long is_sound heard.all_heard c.requires.0 k l counted)
          graded.put_supports;
      alike = heard.alike;
    }

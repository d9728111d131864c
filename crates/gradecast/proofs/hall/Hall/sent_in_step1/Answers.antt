-- `Hall::sent_in_step1` meets its contract: a turn counts one more box where it is sound and has a row, and none
-- else, and at the end all are counted. Assumes nothing.
use mathlib.Core.Path.{refl, sym, ◌∙◌}
use native.Mathlib.Omega.{arith}
use Rattle.counting.proofs.Count.{count_le}
use Rattle.counting.proofs.Loops.{count_begins, count_ends}
use Rattle.sizes.specs.Sizes.{sound}
use Rattle.gradecast.specs.Inside.{sends_first}
use Rattle.gradecast.proofs.Turns.{counts_one, counts_none}
use Rattle.gradecast.proofs.hall.Hall.sent_in_step1.Goals as goal
use Rattle.gradecast.proofs.hall.Hall.sent_in_step1.Goals.{
  then-not-is_member+then-is_row,
  else-not-is_member,
  else-not-is_member-via-then-not-is_member+else-is_row,
  else-not-is_member-via-else-not-is_member,
}

pub loop-j-init : goal.loop-j-init
loop-j-init c = count_begins _

pub overflow_add-sent : goal.overflow_add-sent
overflow_add-sent c =
    let so_far = c.loop-j.invariant in
    omega (arith, so_far.1, count_le c.loop-j.j (sends_first c.args.self.settings.faulty c.args.self.rows.now))

pub loop-j-preserved : goal.loop-j-preserved
unfolding sound
loop-j-preserved c =
    let so_far = c.loop-j.invariant in
    let below = c.loop-j-test.true in
    elim c.if-not-is_member.branch [
      | then-not-is_member+then-is_row w ↦ rw w.sent-is (
          counts_one _ so_far below
          (rw (sym c.is_member.ensures ∙ w.if-not-is_member.true, sym w.is_row.ensures ∙ w.if-is_row.true) refl)
          )
      | else-not-is_member w ↦ rw w.sent-is (
          counts_none _ so_far below
          (elim w.else-not-is_member.branch [
            | else-not-is_member-via-then-not-is_member+else-is_row v ↦
                rw (sym c.is_member.ensures ∙ v.if-not-is_member.true, sym v.is_row.ensures ∙ v.if-is_row.false) refl
            | else-not-is_member-via-else-not-is_member v ↦
                rw (sym c.is_member.ensures ∙ v.if-not-is_member.false) refl
          ])
          )
    ]

pub returns : goal.returns
returns c =
    let hall = c.args.self in
    let e = count_ends (sends_first hall.settings.faulty hall.rows.now) c.loop-j.invariant (omega arith) in
    (e, omega (arith, e, count_le hall.settings.n (sends_first hall.settings.faulty hall.rows.now)))

-- `Seat::hear` meets its contract: a sender that is gone through puts down its rows and leaves the others' as they
-- are; from any other all boxes hear alike, and its echo is not counted. Assumes nothing.
use mathlib.Core.Path.{◌≡◌, sym, ◌∙◌}
use native.Mathlib.Omega.{arith}
use Rattle.gradecast.specs.Inside.{odd_to}
use Rattle.gradecast.proofs.Columns.{senders_turn}
use Rattle.gradecast.proofs.Echoes.{echoes_begin, echoes_few}
use Rattle.gradecast.proofs.Echoes.{echoes_turn, echoes_skip, echoes_end}
use Rattle.gradecast.proofs.Plain.{plain_turn, plain_stays}
use Rattle.gradecast.proofs.hall.Seat.hear.Given.{Over}
use Rattle.gradecast.proofs.hall.Seat.hear.Goals as goal
use Rattle.gradecast.proofs.hall.Seat.hear.Goals.{After-is_member, then-is_member, else-is_member}

-- what the test says
is_odd : {g : Over} (c : After-is_member g) → let hall = c.args.self.hall in
    odd_to 13 hall.settings.faulty hall.lists.now c.loop-j.j ≡ c.is_member.result
is_odd c = sym (c.args.self.hall.odd_set c.loop-j.j) ∙ sym c.is_member.ensures

pub loop-j-init : goal.loop-j-init
loop-j-init g c =
    let p = c.requires in
    record {
      heard_so_far = λ k j hk l. absurd (omega arith);
      alike = p.0;
      counted = λ h. echoes_begin _ _ _ c.args.self.hall.size.high p.1;
    }

pub hear_from-requires : goal.hear_from-requires
hear_from-requires g c =
    let high = c.args.self.hall.size.high in
    let below = c.loop-j-test.true in (
      below,
      λ h k l. omega (arith, echoes_few _ _ _ high c.loop-j.j (c.loop-j.invariant.counted h) k l, below),
    )

pub loop-j-preserved : goal.loop-j-preserved
loop-j-preserved g c =
    let a = c.args in
    let hall = a.self.hall in
    let high = hall.size.high in
    let j = c.loop-j.j in
    let inv = c.loop-j.invariant in
    let below = c.loop-j-test.true in
    let is = sym c.is_member.ensures in
    let odd = is_odd (goal.at.loop-j-preserved g c).After-is_member in
    elim c.if-is_member.branch [
      | then-is_member w ↦ rw (w.heard-is, w.echoes-is) (
          let put = w.hear_from.ensures in
          record {
            heard_so_far = senders_turn _ below inv.heard_so_far put.from_sender;
            alike = plain_stays hall.settings hall.lists.now a.self.said.now j _ _ _ (odd ∙ w.if-is_member.true)
                put.from_sender inv.alike;
            counted = λ h. echoes_turn _ _ _ high j (inv.counted h) (is ∙ w.if-is_member.true) (put.echoes_after h);
          }
          )
      | else-is_member w ↦ rw (w.heard-is, w.echoes-is) (
          record {
            heard_so_far =
                plain_turn hall.settings hall.lists.now a.self.said.now _ hall.table.now
                (omega (arith, a.self.below, high))
                a.self.its_own j c.loop-j.heard below (odd ∙ w.if-is_member.false) inv.alike inv.heard_so_far;
            alike = inv.alike;
            counted = λ h. echoes_skip _ _ _ high j (inv.counted h) (is ∙ w.if-is_member.false);
          }
          )
    ]

pub returns : goal.returns
returns g c =
    let high = c.args.self.hall.size.high in
    let inv = c.loop-j.invariant in
    let all : c.loop-j.j ≡ c.args.self.hall.settings.n = omega arith in
    record {
      all_heard = λ k j hk hj. inv.heard_so_far k j hk (omega arith);
      alike = inv.alike;
      echoes_after = λ h. echoes_end _ _ _ high c.loop-j.j (inv.counted h) all;
    }

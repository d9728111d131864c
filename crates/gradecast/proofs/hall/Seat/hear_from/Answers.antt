-- `Seat::hear_from` meets its contract: each turn puts down one more row of box j; the echoes were at most n, so one
-- more fits. Assumes nothing.
use mathlib.Core.Path.{◌≡◌, sym, ap, ap₂, ◌∙◌, subst}
use mathlib.Core.Bool.{true, cond, not}
use mathlib.Core.List.{List}
use Prim.Native.Nat.{ℕ, ◌+◌, ◌*◌, ◌≤◌}
use native.Mathlib.Omega.{arith}
use lib.Dec.{eqb}
use lib.ListN.{length, get_or}
use Rattle.counting.proofs.Build.{front_next, front_whole}
use Rattle.counting.proofs.Count.{one_le}
use Rattle.counting.proofs.Loops.{fill_begins, fill_turn}
use Rattle.gradecast.proofs.Columns.{sender_begins, sender_turn, sender_ends}
use Rattle.counting.proofs.Bools.{bool_number}
use Rattle.gradecast.proofs.Turns.{counting, not_counting}
use borrow.Author.Rules.{rules}
use Rattle.gradecast.proofs.hall.Seat.hear_from.Given.{Over}
use Rattle.gradecast.proofs.hall.Seat.hear_from.Goals as goal
use Rattle.gradecast.proofs.hall.Seat.hear_from.Goals.{In-loop-k, then-this-ne0, else-this-ne0}

-- the thirteen places have room for n
room : {g : Over} (c : In-loop-k g) → c.args.self.hall.settings.n ≤ length c.args.echoes.now
room c = omega (arith, c.told-echoes, c.args.self.hall.size.high)

-- where the step counts, what stands there is what stood there first
stands : {g : Over} (c : In-loop-k g) → not (eqb g.row.COUNTS 0) ≡ true →
    get_or c.loop-k.echoes c.loop-k.k 0 ≡ get_or c.args.echoes.now c.loop-k.k 0
stands c h =
    let k = c.loop-k.k in
    ap (λ (xs : List ℕ). get_or xs k 0) (c.loop-k.invariant.counted h).1
    ∙ front_next k _ c.args.echoes.now (omega (arith, room c, c.loop-k-test.true))

pub loop-k-init : goal.loop-k-init
loop-k-init g c = record { from_sender = sender_begins _ _ _ _; counted = λ h. fill_begins _ _ }

pub overflow_add-echoes : goal.overflow_add-echoes
overflow_add-echoes g c =
    let turn = (goal.at.overflow_add-echoes g c).In-loop-k in
    let counts = counting _ c.if-this-ne0.true in
    let one = c.from.ensures ∙ bool_number _ in
    omega (
      arith,
      stands turn counts,
      c.requires.1 counts c.loop-k.k c.loop-k-test.true,
      c.args.self.hall.size.high,
      subst (λ (m : ℕ). m ≤ 1) (sym one) (one_le _),
    )

pub loop-k-preserved : goal.loop-k-preserved
loop-k-preserved g c =
    let turn = (goal.at.loop-k-preserved g c).In-loop-k in
    let seat = c.args.self in
    let inv = c.loop-k.invariant in
    let below = c.loop-k-test.true in
    let whole : length c.loop-k.heard ≡ 169 = search rules in
    let heard = c.hear_about-row.ensures in
    let put = sender_turn seat.hall.size.high c.requires.0 _ _ _ whole inv.from_sender below heard in
    let own = get_or seat.said.now (seat.i * seat.hall.settings.n + c.loop-k.k) 0 in
    elim c.if-this-ne0.branch [
      | then-this-ne0 w ↦ rw w.echoes-is (
          record {
            from_sender = put;
            counted = λ h.
                fill_turn _ _ (room turn) (inv.counted h) below
                (ap₂ ◌+◌ (stands turn h)
                (w.from.ensures ∙ bool_number _ ∙ ap (λ (m : ℕ). cond (eqb m own) 1 0) heard));
          }
          )
      | else-this-ne0 w ↦
          record { from_sender = put; counted = λ h. not_counting _ w.if-this-ne0.false h }
    ]

pub returns : goal.returns
returns g c =
    let inv = c.loop-k.invariant in
    record {
      from_sender = sender_ends _ (omega arith) inv.from_sender;
      echoes_after = λ h. let filled = inv.counted h in front_whole _ _ (omega (arith, filled.0)) filled.1;
    }

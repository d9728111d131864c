-- `run::Reasons::keep_box` meets its contract: a list that has not changed is joined by nobody. Otherwise a turn puts
-- down what is found now of a box that joins, and leaves the place of any other; behind n nobody joins. Assumes
-- nothing.
use mathlib.Core.Path.{◌≡◌, refl, sym, ◌∙◌}
use Prim.Native.Nat.{◌<◌}
use native.Mathlib.Omega.{arith}
use Rattle.run.specs.Inside.{cell_of, joins_in}
use Rattle.run.proofs.Keep.{so_far_joins, so_far_stays, so_far_ends, box_stays}
use Rattle.run.proofs.Reasons.keep_box.Goals as goal
use Rattle.run.proofs.Reasons.keep_box.Goals.{After-joins_now, then-joins_now, else-joins_now}

-- the box joins where its confidence says so
joins_is : (c : After-joins_now) → c.joins_now.result ≡ joins_in c.args.j.now c.args.i c.loop-k.k
unfolding cell_of
joins_is c =
    c.joins_now.ensures
    ∙ sym (c.requires.0.by_confidence c.args.i c.loop-k.k c.requires.1 c.loop-k-test.true c.if-old-j.false)

pub returns-then-old-j : goal.returns-then-old-j
returns-then-old-j c =
    let l : c.args.i < 13 = omega (arith, c.requires.1, c.requires.0.high) in
    let same = c.if-old-j.true in
    record {
      iterations = box_stays _ _ _ l same;
      confidences = box_stays _ _ _ l same;
      supports = box_stays _ _ _ l same;
    }

pub loop-k-preserved : goal.loop-k-preserved
unfolding cell_of
loop-k-preserved c =
    let inv = c.loop-k.invariant in
    let l : c.args.i < 13 = omega (arith, c.requires.1, c.requires.0.high) in
    let k : c.loop-k.k < 13 = omega (arith, c.loop-k-test.true, c.requires.0.high) in
    let is = sym (joins_is (goal.at.loop-k-preserved c).After-joins_now) in
    elim c.if-joins_now.branch [
      | then-joins_now w ↦
          let joins = is ∙ w.if-joins_now.true in
          rw w.self-is (
            so_far_joins _ _ _ l k inv.0 joins refl,
            so_far_joins _ _ _ l k inv.1 joins refl,
            so_far_joins _ _ _ l k inv.2 joins refl,
          )
      | else-joins_now w ↦
          let stays = is ∙ w.if-joins_now.false in
          rw w.self-is (
            so_far_stays _ _ _ l k inv.0 stays,
            so_far_stays _ _ _ l k inv.1 stays,
            so_far_stays _ _ _ l k inv.2 stays,
          )
    ]

pub returns : goal.returns
returns c =
    let l : c.args.i < 13 = omega (arith, c.requires.1, c.requires.0.high) in
    let at_end : c.loop-k.k ≡ c.args.j.now.n = omega (arith, c.loop-k-test.false, c.loop-k.auto.k-end) in
    let high = c.requires.0.high in
    let none = c.requires.0.within c.args.i in
    let inv = c.loop-k.invariant in
    record {
      iterations = so_far_ends _ _ _ l at_end high none inv.0;
      confidences = so_far_ends _ _ _ l at_end high none inv.1;
      supports = so_far_ends _ _ _ l at_end high none inv.2;
    }

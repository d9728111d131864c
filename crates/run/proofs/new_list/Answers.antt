-- `run::new_list` meets its contract: no bit above the thirteenth is reached, and a turn adds the bit of a leader that
-- joins. Assumes nothing.
use mathlib.Core.Path.{refl, sym, ◌∙◌}
use native.Mathlib.Omega.{arith}
use Prim.Native.Nat.{◌+◌, ◌^◌, ◌≤◌}
use Rattle.std.proofs.lemmas.Nat.{one_shl}
use Rattle.counting.specs.Count.{sum}
use Rattle.counting.specs.Sets.{set_of}
use Rattle.counting.proofs.Bools.{cond_true, cond_false}
use Rattle.counting.proofs.Sets.{set_of_turn, set_of_turn_lt, set_of_whole, bits_le}
use Rattle.run.specs.Inside.{list_from}
use Rattle.run.proofs.new_list.Goals as goal
use Rattle.run.proofs.new_list.Goals.{then-joins, else-joins}

pub loop-k-init : goal.loop-k-init
unfolding set_of sum
loop-k-init c = refl

pub overflow_add-list : goal.overflow_add-list
overflow_add-list c =
    let low : 2 ^ (c.loop-k.k + 1) ≤ 8192 = bits_le _ (omega (arith, c.requires, c.loop-k-test.true)) in
    omega (
      arith,
      low,
      set_of_turn_lt _ _ c.loop-k.invariant
          (one_shl _ 16 (omega (arith, c.requires, c.loop-k-test.true))
          ∙ sym (cond_true _ 0 (sym c.joins.ensures ∙ c.if-joins.true))),
    )

pub loop-k-preserved : goal.loop-k-preserved
loop-k-preserved c =
    let so_far = c.loop-k.invariant in
    elim c.if-joins.branch [
      | then-joins w ↦
          w.list-is
          ∙ set_of_turn _ _ so_far
          (one_shl _ 16 (omega (arith, c.requires, c.loop-k-test.true))
          ∙ sym (cond_true _ 0 (sym c.joins.ensures ∙ w.if-joins.true)))
      | else-joins w ↦
          w.list-is ∙ omega arith
          ∙ set_of_turn _ _ so_far (sym (cond_false _ 0 (sym c.joins.ensures ∙ w.if-joins.false)))
    ]

pub returns : goal.returns
unfolding list_from
returns c = set_of_whole _ (omega arith) c.loop-k.invariant

-- `run::start_rows` meets its contract: a turn puts down a sound box's row, and leaves the 0 of a faulty one. Assumes
-- nothing.
use mathlib.Core.Path.{sym, ◌∙◌}
use lib.ListN.{replicate}
use borrow.Author.Tests.{lt-ltb}
use Rattle.counting.proofs.Bools.{both, not_of_true, not_of_false, and_false_right}
use Rattle.counting.proofs.Loops.{fill_begins, fill_turn}
use Rattle.sizes.specs.Sizes.{sound}
use Rattle.run.specs.State.{start_row}
use Rattle.run.proofs.Entries.{entry_box, entry_none, entry_above, place_stays, places_filled}
use Rattle.run.proofs.start_rows.Goals as goal
use Rattle.run.proofs.start_rows.Goals.{then-not-is_member, else-not-is_member}

pub loop-k-init : goal.loop-k-init
loop-k-init c = fill_begins _ (replicate 13 0)

pub loop-k-preserved : goal.loop-k-preserved
unfolding start_row sound
loop-k-preserved c =
    let inv = c.loop-k.invariant in
    let l = c.loop-k-test.true in
    elim c.if-not-is_member.branch [
      | then-not-is_member w ↦
          let box = both (lt-ltb _ _ l) (not_of_false (sym c.is_member.ensures ∙ w.if-not-is_member.true)) in
          rw w.held-is (fill_turn _ (replicate 13 0) c.requires inv l (entry_box _ _ _ _ box))
      | else-not-is_member w ↦
          let none = and_false_right _ (not_of_true (sym c.is_member.ensures ∙ w.if-not-is_member.false)) in
          rw w.held-is (place_stays _ c.requires inv l (entry_none _ _ _ _ none))
    ]

pub returns : goal.returns
unfolding start_row
returns c =
    places_filled _ c.requires (λ q h. entry_above _ _ q _ h) c.loop-k.invariant c.loop-k-test.false

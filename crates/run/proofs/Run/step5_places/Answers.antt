-- `run::Run::step5_places` meets its contract: a turn puts down what a sound box has, and leaves the 0 of any other.
-- Assumes nothing.
use mathlib.Core.Path.{◌≡◌, sym, ◌∙◌}
use native.Mathlib.Omega.{arith}
use Prim.Native.Nat.{◌+◌, ◌-◌, ◌*◌}
use lib.ListN.{replicate}
use Rattle.counting.proofs.Loops.{fill_begins, fill_turn}
use Rattle.run.proofs.Entries.{entry_box, entry_none, entry_above, place_stays, places_filled}
use Rattle.run.proofs.Run.step5_places.Goals as goal
use Rattle.run.proofs.Run.step5_places.Goals.{then-is_sound_box, else-is_sound_box}

pub loop-i-init : goal.loop-i-init
loop-i-init c = (fill_begins _ (replicate 13 0), fill_begins _ (replicate 13 0))

pub loop-i-preserved : goal.loop-i-preserved
loop-i-preserved c =
    let inv = c.loop-i.invariant in
    let l = c.loop-i-test.true in
    elim c.if-is_sound_box.branch [
      | then-is_sound_box w ↦
          let box = sym c.is_sound_box.ensures ∙ w.if-is_sound_box.true in
          let from = c.loop-i.i * c.args.self.now.n in
          let size : from + c.args.self.now.n - from ≡ c.args.self.now.n = omega arith in
          let row = rw size at w.new_row.ensures in
          let list = rw size at w.new_list.ensures in (
            rw w.rows-is (fill_turn _ (replicate 13 0) c.requires inv.0 l (row ∙ entry_box _ _ _ _ box)),
            rw w.lists-is (fill_turn _ (replicate 13 0) c.requires inv.1 l (list ∙ entry_box _ _ _ _ box)),
          )
      | else-is_sound_box w ↦
          let none = sym c.is_sound_box.ensures ∙ w.if-is_sound_box.false in (
            rw w.rows-is (place_stays _ c.requires inv.0 l (entry_none _ _ _ _ none)),
            rw w.lists-is (place_stays _ c.requires inv.1 l (entry_none _ _ _ _ none)),
          )
    ]

pub returns-clause-rows : goal.returns-clause-rows
returns-clause-rows c =
    places_filled _ c.requires (λ q h. entry_above _ _ q _ h) c.loop-i.invariant.0 c.loop-i-test.false

pub returns-clause-lists : goal.returns-clause-lists
returns-clause-lists c =
    places_filled _ c.requires (λ q h. entry_above _ _ q _ h) c.loop-i.invariant.1 c.loop-i-test.false

-- `run::Run::is_bad_place` meets its contract: a sound box's place goes by its list, and any other by its row and its
-- list. Assumes nothing.
use Rattle.std.proofs.Common.{arith}
use Rattle.std.proofs.lemmas.Bool.Decides.{nat_tests}
use Rattle.run.specs.State.{bad_place, bad_entry}
use Rattle.run.proofs.Run.is_bad_place.Goals as goal

pub returns-then-is_sound_box : goal.returns-then-is_sound_box
unfolding bad_place bad_entry
returns-then-is_sound_box c = grind (arith, nat_tests)

pub returns-then-self-k-ne0 : goal.returns-then-self-k-ne0
unfolding bad_place bad_entry
returns-then-self-k-ne0 c = grind (arith, nat_tests)

pub returns-else-self-k-ne0 : goal.returns-else-self-k-ne0
unfolding bad_place bad_entry
returns-else-self-k-ne0 c = grind (arith, nat_tests)

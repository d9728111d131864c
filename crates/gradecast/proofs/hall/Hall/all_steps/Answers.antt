-- `Hall::all_steps` meets its contract: the cells of step 2 and of step 3 are V and Y of the definitions, the grades
-- over them are step 4's, and the messages are counted over the cells. Assumes nothing.
use mathlib.Core.Path.{refl}
use Rattle.gradecast.proofs.Replies.{cast_is}
use Rattle.gradecast.proofs.hall.Hall.all_steps.Goals as goal

pub returns : goal.returns
returns c =
    let grades = c.step4.ensures in
    cast_is _ _ _ _ _ _ _ refl c.messages_of-sent.ensures grades (c.confidences_of.ensures _ grades.1)

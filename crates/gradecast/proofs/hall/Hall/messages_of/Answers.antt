-- `Hall::messages_of` meets its contract: the rows, the cells of step 2 and the cells of step 3 that are not 0, n − 1
-- times, are the messages. Assumes nothing.
use mathlib.Core.Path.{ap, ap₂, ◌∙◌}
use Prim.Native.Nat.{ℕ, ◌+◌, ◌-◌, ◌*◌}
use Rattle.gradecast.proofs.Sent.{messages_counted}
use Rattle.gradecast.proofs.hall.Hall.messages_of.Goals as goal
use Rattle.gradecast.proofs.hall.Hall.messages_of.Goals.{After-sent_in, After-sent_in-2}

pub returns : goal.returns
returns c =
    let hall = c.args.self in
    let two = ap₂ ◌+◌ c.sent_in_step1.ensures.0 c.sent_in.ensures.0 in
    ap (λ (m : ℕ). (hall.settings.n - 1) * m) (ap₂ ◌+◌ two c.sent_in-2.ensures.0)
    ∙ messages_counted hall.settings hall.rows.now hall.lists.now hall.table.now _ _ c.requires.0 c.requires.1

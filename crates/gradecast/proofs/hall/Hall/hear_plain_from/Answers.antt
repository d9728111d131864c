-- `Hall::hear_plain_from` meets its contract: each turn puts down one more row of box j. Assumes nothing.
use mathlib.Core.Path.{◌≡◌, refl}
use lib.ListN.{length}
use borrow.Author.Rules.{rules}
use native.Mathlib.Omega.{arith}
use Rattle.gradecast.proofs.Columns.{sender_turn, sender_ends}
use Rattle.gradecast.proofs.hall.Hall.hear_plain_from.Goals as goal
use Rattle.gradecast.proofs.hall.Hall.hear_plain_from.Goals.{In-loop-k}

pub loop-k-preserved : goal.loop-k-preserved
loop-k-preserved c =
    let turn = (goal.at.loop-k-preserved c).In-loop-k in
    let whole : length c.loop-k.heard ≡ 169 = search rules in
    sender_turn c.args.self.size.high c.requires _ _ _ whole turn.loop-k.invariant turn.loop-k-test.true refl

pub returns : goal.returns
returns c = sender_ends _ (omega arith) c.loop-k.invariant

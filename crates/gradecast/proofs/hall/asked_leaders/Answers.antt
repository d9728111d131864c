-- `hall::asked_leaders` meets its contract: to ask all is always enough, and to ask the faulty ones is where the
-- two tests say that few are faulty and that no other box is odd. Assumes nothing.
use mathlib.Core.Path.{◌≡◌}
use native.Mathlib.Omega.{arith}
use Rattle.gradecast.proofs.Asked.{all_asked, faulty_asked}
use Rattle.gradecast.proofs.hall.asked_leaders.Goals as goal

pub returns-then-none_listed : goal.returns-then-none_listed
returns-then-none_listed c =
    let a = c.args in
    let same : a.odd ≡ a.settings.faulty = omega (arith, c.if-none_listed.true) in
    faulty_asked _ _ c.requires.0 (omega (arith, c.requires.1, c.if-not-too_many.true)) same

pub returns : goal.returns
returns c = all_asked _ _ c.requires.0.high

-- `Lines::put_box` meets its contract: a faulty box has no line, and a sound one has the line of its row and its list.
-- Assumes nothing.
use mathlib.Core.Path.{◌≡◌, sym, ◌∙◌}
use mathlib.Core.List.{append-nil}
use mathlib.Core.Bool.{true, false}
use Rattle.counting.proofs.Bools.{not_of_true, not_of_false}
use Rattle.sizes.specs.Sizes.{sound}
use Rattle.listing.specs.Listing.{box_line}
use Rattle.listing.proofs.Lines.put_box.Goals as goal

pub returns-then-is_member-clause-text : goal.returns-then-is_member-clause-text
unfolding box_line sound
returns-then-is_member-clause-text c =
    let faulty : sound c.args.s.now.faulty c.args.i ≡ false =
    not_of_true (sym c.is_member.ensures ∙ c.if-is_member.true) in
    rw faulty (sym (append-nil _))

pub returns-clause-text : goal.returns-clause-text
unfolding box_line sound
returns-clause-text c =
    let sound_box : sound c.args.s.now.faulty c.args.i ≡ true =
    not_of_false (sym c.is_member.ensures ∙ c.if-is_member.false) in
    rw sound_box c.put_at.ensures.text

-- `notebook_show::write_part` is safe and ends: what was written lies within the text. Assumes nothing.
use Prim.Native.Nat.{◌≤◌}
use mathlib.Core.Path.{sym, ap}
use native.Mathlib.Omega.{arith}
use lib.ListN.{length}
use lib.Seq.{length-take-le}
use Rattle.showing.specs.declared.Shown.{Shown}
use Rattle.showing.proofs.Room.{show_within}
use Rattle.notebook_show.proofs.write_part.Goals as goal
use Rattle.notebook_show.proofs.write_part.Goals.{After-show-size}

-- what was written is part of the text
written : (c : After-show-size) → c.show-size.result.size ≤ length c.show-size.new.out
written c =
    let a = c.args in
    omega (
      arith,
      ap (λ (r : Shown). r.size) c.show-size.ensures.value,
      show_within a.file.now a.part (length a.text.now) (λ i. (c.type_inv.file i).fits),
      c.show-size.auto,
    )

pub slice_bounds-write_all-end : goal.slice_bounds-write_all-end
slice_bounds-write_all-end c = written (goal.at.slice_bounds-write_all-end c).After-show-size

pub slice_bounds-write_all-end-2 : goal.slice_bounds-write_all-end-2
slice_bounds-write_all-end-2 c =
    sym (length-take-le _ _ (written (goal.at.slice_bounds-write_all-end-2 c).After-show-size))

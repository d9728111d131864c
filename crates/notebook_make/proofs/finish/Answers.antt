-- `notebook_make::finish` is safe and ends: what is made lies within the file's bytes. Assumes nothing.
use mathlib.Core.Path.{sym, ap}
use Prim.Native.Nat.{◌≤◌}
use lib.ListN.{length}
use lib.Seq.{length-take-le}
use native.Mathlib.Omega.{arith}
use Rattle.making.specs.declared.Made.{Made}
use Rattle.making.proofs.Fits.{made_fits}
use Rattle.notebook_make.proofs.finish.Goals as goal
use Rattle.notebook_make.proofs.finish.Goals.{After-finish-made}

-- what is made lies within the file
fits_of : (c : After-finish-made) → c.finish-made.result.size ≤ length c.finish-made.new.file
fits_of c =
    let f = c.args in
    omega (
      arith,
      ap (λ (r : Made). r.size) c.finish-made.ensures.value,
      made_fits f.maker f.line.now f.file.now,
      c.finish-made.auto,
    )

pub slice_bounds-write_all-end : goal.slice_bounds-write_all-end
slice_bounds-write_all-end c = fits_of (goal.at.slice_bounds-write_all-end c).After-finish-made

pub slice_bounds-write_all-end-2 : goal.slice_bounds-write_all-end-2
slice_bounds-write_all-end-2 c =
    sym (length-take-le _ _ (fits_of (goal.at.slice_bounds-write_all-end-2 c).After-finish-made))

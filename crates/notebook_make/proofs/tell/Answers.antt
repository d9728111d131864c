-- `notebook_make::tell` is safe, ends and gives the size of the whole line: what is told has at most 110 bytes, and
-- lies within the slice. Assumes nothing.
use Prim.Native.Nat.{◌≤◌}
use mathlib.Core.Path.{◌≡◌, refl, sym, ap, ◌∙◌}
use native.Mathlib.Omega.{arith}
use lib.ListN.{length}
use lib.Seq.{length-take-le}
use Rattle.lines.specs.declared.Written.{Written}
use Rattle.says.specs.Told.{told_text}
use Rattle.says.proofs.Faults.{text_given, text_within}
use Rattle.says.proofs.Short.{told_short}
use Rattle.notebook_make.proofs.tell.Goals as goal
use Rattle.notebook_make.proofs.tell.Goals.{After-tell-size, Start}

-- what was written is part of the slice
written : (c : After-tell-size) → c.tell-size.result.size ≤ length c.tell-size.new.out
written c =
    let f = c.args in
    omega (
      arith,
      ap (λ (w : Written). w.size) c.tell-size.ensures.value,
      text_within (told_text f.refusal f.line f.fault) 110,
      c.tell-size.auto,
    )

-- all of it was written
whole : (c : After-tell-size) → let f = c.args in c.tell-size.result.size ≡ length (told_text f.refusal f.line f.fault)
whole c =
    let a = (goal.at.After-tell-size c).Start in
    let f = a.args in
    let short = told_short f.refusal f.line f.fault a.ranges.refusal.fits a.ranges.line.fits in
    ap (λ (w : Written). w.size) (c.tell-size.ensures.value
    ∙ sym (text_given (told_text f.refusal f.line f.fault) 110 _ refl short))

pub slice_bounds-told-end : goal.slice_bounds-told-end
slice_bounds-told-end c =
    let t = (goal.at.slice_bounds-told-end c).After-tell-size in
    omega (arith, written t, t.tell-size.auto)

pub slice_bounds-write_all-end : goal.slice_bounds-write_all-end
slice_bounds-write_all-end c =
    sym (length-take-le _ _ (written (goal.at.slice_bounds-write_all-end c).After-tell-size))

pub returns : goal.returns
returns c = whole (goal.at.returns c).After-tell-size

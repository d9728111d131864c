-- `notebook_show::tell` is safe, ends and gives the size of the whole line: what is told has at most 110 bytes, and
-- lies within the line. Assumes nothing.
use Prim.Native.Nat.{◌≤◌}
use mathlib.Core.Path.{◌≡◌, refl, sym, ap, ◌∙◌}
use native.Mathlib.Omega.{arith}
use lib.ListN.{length}
use lib.Seq.{length-take-le}
use Rattle.lines.specs.declared.Written.{Written}
use Rattle.says.specs.Told.{told_text}
use Rattle.says.proofs.Faults.{text_given, text_within}
use Rattle.says.proofs.Short.{told_short}
use Rattle.notebook_show.proofs.tell.Goals as goal
use Rattle.notebook_show.proofs.tell.Goals.{After-tell-size, Start}

-- what was written is part of the line
written : (c : After-tell-size) → c.tell-size.result.size ≤ length c.tell-size.new.out
written c =
    omega (
      arith,
      ap (λ (w : Written). w.size) c.tell-size.ensures.value,
      text_within (told_text c.args.refusal 0 0) 110,
      c.tell-size.auto,
    )

-- all of it was written
whole : (c : After-tell-size) → let f = c.args in c.tell-size.result.size ≡ length (told_text f.refusal 0 0)
whole c =
    let a = (goal.at.After-tell-size c).Start in
    let f = a.args in
    let short = told_short f.refusal 0 0 a.ranges.refusal.fits (omega arith) in
    ap (λ (w : Written). w.size) (c.tell-size.ensures.value
    ∙ sym (text_given (told_text f.refusal 0 0) 110 _ refl short))

pub slice_bounds-line-end : goal.slice_bounds-line-end
slice_bounds-line-end c = written (goal.at.slice_bounds-line-end c).After-tell-size

pub slice_bounds-write_all-end : goal.slice_bounds-write_all-end
slice_bounds-write_all-end c =
    sym (length-take-le _ _ (written (goal.at.slice_bounds-write_all-end c).After-tell-size))

pub returns : goal.returns
returns c = whole (goal.at.returns c).After-tell-size

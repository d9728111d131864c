-- `inout::print_line` meets its contract: the size that was written lies within the text, and printing leaves the text
-- as it is. Assumes nothing.
use Prim.Native.Nat.{◌≤◌}
use mathlib.Core.Path.{◌≡◌, sym, ap, ◌∙◌}
use native.Mathlib.Omega.{arith}
use lib.ListN.{length}
use lib.Seq.{length-take-le}
use Rattle.lines.specs.declared.Written.{Written}
use Rattle.lines.proofs.Put.{line_within}
use Rattle.inout.proofs.print_line.Reads as Reads
use Rattle.inout.proofs.print_line.Goals as goal
use Rattle.inout.proofs.print_line.Goals.{After-write_line-size}

-- the contract admits one last contents of the slice; there is no reply
pub only_one : (κs : _) (a : _) (r s : _) (x y : _) → Reads.Post κs a r x → Reads.Post κs a s y → x.0.now ≡ y.0.now
only_one κs a r s x y p q = p ∙ sym q

fits : (c : After-write_line-size) → c.write_line-size.result.size ≤ length c.write_line-size.new.out
fits c =
    let f = c.args in
    omega (
      arith,
      ap (λ (w : Written). w.size) c.write_line-size.ensures.value,
      line_within f.word.now f.numbers.now (length f.text.now),
    )

pub slice_bounds-write_all-end : goal.slice_bounds-write_all-end
slice_bounds-write_all-end c = fits (goal.at.slice_bounds-write_all-end c).After-write_line-size

pub slice_bounds-write_all-end-2 : goal.slice_bounds-write_all-end-2
slice_bounds-write_all-end-2 c =
    sym (length-take-le _ _ (fits (goal.at.slice_bounds-write_all-end-2 c).After-write_line-size))

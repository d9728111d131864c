-- `lines::put_number` meets its contract: the space is a text of one byte, and the digits stand behind it.
-- Assumes nothing.
use mathlib.Core.Path.{refl, ◌∙◌}
use mathlib.Core.List.{[], ◌∷◌}
use Prim.Native.Nat.{◌+◌}
use native.Mathlib.Omega.{arith}
use lib.ListN.{set, length-set}
use Rattle.lines.specs.Line.{decimal, field}
use Rattle.lines.proofs.Placed.{placed_one, placed_then}
use Rattle.lines.proofs.put_number.Goals as goal
use Rattle.lines.proofs.put_number.Goals.{After-put_digits, Start}

pub bounds-out-at : goal.bounds-out-at
unfolding field
bounds-out-at c = omega (arith, c.requires)

pub put_digits-requires : goal.put_digits-requires
unfolding field
put_digits-requires c = simp length-set (omega (arith, c.requires))

pub returns : goal.returns
unfolding field
returns c =
    let last = (goal.at.returns c).After-put_digits in
    let s = (goal.at.After-put_digits last).Start in
    let f = s.args in
    let out = f.out.now in
    let space = placed_one out f.at 32 (omega (arith, s.requires)) in
    record {
      value = omega (arith, last.put_digits.ensures.value);
      out_after = last.put_digits.ensures.out_after
          ∙ placed_then out (set out f.at 32) f.at (32 ∷ []) (decimal f.n) (f.at + 1) space refl s.requires;
    }

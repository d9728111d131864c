-- `Lines::put_line` meets its contract: a line that has its place behind the bytes that are there is put behind them.
-- Assumes nothing.
use mathlib.Core.Path.{◌≡◌}
use mathlib.Core.List.{◌++◌}
use Prim.Native.Nat.{◌≤◌}
use native.Mathlib.Omega.{arith}
use lib.ListN.{length, take}
use Rattle.lines.specs.Line.{line_of}
use Rattle.listing.proofs.Text.{put_more}
use Rattle.listing.proofs.Lines.put_line.Goals as goal
use Rattle.listing.proofs.Lines.put_line.Goals.{After-put_line-self-inside}

-- where the line was put
put_of : (c : After-put_line-self-inside) →
    let end = c.put_line-self-inside.result in
    (take end c.put_line-self-inside.new.text ≡ c.args.self.now ++ line_of c.args.word.now c.args.numbers.now)
    × (end ≤ length c.self.inside.bytes)
put_of c =
    let e = c.put_line-self-inside.ensures in
    put_more _ _ _ _ _ _ _ c.self.view_is (omega (arith, c.self.told, c.self.invariant))
    (omega (arith, c.self.told, c.requires)) e.value e.text_after

pub invariant_of-self : goal.invariant_of-self
invariant_of-self c =
    omega (arith, (put_of (goal.at.invariant_of-self c).After-put_line-self-inside).1, c.self.told)

pub returns : goal.returns
returns c = (put_of (goal.at.returns c).After-put_line-self-inside).0

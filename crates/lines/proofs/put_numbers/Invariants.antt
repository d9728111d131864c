-- After so many turns the numbers passed stand at the place, and `end` is behind them. Assumes nothing.
use mathlib.Core.Path.{◌≡◌}
use Prim.Native.Nat.{◌+◌}
use lib.ListN.{length}
use Rattle.lines.specs.Line.{fields, placed}
use Rattle.lines.proofs.put_numbers.Given as goal

abbrev pub invariant-loop-number : goal.invariant-loop-number
invariant-loop-number l = record {
  end : l.end ≡ l.at + length (fields l.numbers l.number-index);
  out : l.out ≡ placed l.initial.out l.at (fields l.numbers l.number-index);
}

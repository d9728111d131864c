-- The digits up to the index stand for the value, which is below 2⁶⁴. Assumes nothing.
use Rattle.lines.proofs.Digits.{ReadTo}
use Rattle.lines.proofs.read_piece.Given as goal

abbrev pub invariant-loop-size : goal.invariant-loop-size
invariant-loop-size l = ReadTo l.text l.size l.value

-- `why::read_number` meets its contract: the text is digits where what is left of it is, and its value is what is left
-- read behind the value so far, both capped. Assumes nothing.
use Rattle.why.proofs.Numbers.{ReadTo}
use Rattle.why.proofs.read_number.Given as goal

abbrev pub invariant-loop-byte : goal.invariant-loop-byte
invariant-loop-byte l = ReadTo l.text l.byte-index l.value

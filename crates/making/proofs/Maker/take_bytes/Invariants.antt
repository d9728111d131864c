-- `making::Maker::take_bytes`: what the bytes that are left make of what is known so far is what all bytes make of
-- what was known at first.
use mathlib.Core.Path.{◌≡◌}
use lib.ListN.{length, drop}
use Rattle.making.specs.Text.{reading, bytes_taken}
use Rattle.making.proofs.Maker.take_bytes.Given as goal

abbrev pub invariant-loop-byte : goal.invariant-loop-byte
invariant-loop-byte l =
    (length l.line ≡ length l.initial.line) ×
    (length l.file ≡ length l.initial.file) ×
    (bytes_taken (reading l.maker l.line l.file) (drop l.byte-index l.text)
    ≡ bytes_taken (reading l.initial.maker l.initial.line l.initial.file) l.text)

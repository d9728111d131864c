-- The piece ends at the first space, or with the text. A byte that is no digit, or brings the value to 2⁶⁴, decides:
-- what follows makes it no smaller. Assumes nothing.
use mathlib.Core.Path.{sym, subst}
use Prim.Native.Nat.{◌+◌}
use native.Mathlib.Omega.{arith}
use Rattle.lines.proofs.Pieces.{piece_stops, piece_end}
use Rattle.lines.proofs.Digits.{ReadTo, read_begins, read_bad, read_turn, read_small, read_long, read_value}
use Rattle.lines.proofs.read_piece.Goals as goal

pub loop-size-init : goal.loop-size-init
loop-size-init c = read_begins c.args.text.now

pub returns-then-byte-eq32 : goal.returns-then-byte-eq32
returns-then-byte-eq32 c =
    let r = c.loop-size.invariant in
    let e = piece_stops c.args.text.now c.loop-size.size c.loop-size-test.true c.if-byte-eq32.true in
    (read_small r e, read_long r e, read_value r e)

pub returns-in_err-value : goal.returns-in_err-value
returns-in_err-value c =
    rw c.from_residual.ensures
    (read_bad c.loop-size.invariant c.loop-size-test.true c.if-byte-eq32.false c.in_err-value.ensures)

pub loop-size-preserved : goal.loop-size-preserved
loop-size-preserved c =
    let more = c.in_ok-value.ensures in
    subst (ReadTo c.args.text.now (c.loop-size.size + 1)) (sym more.1)
    (read_turn c.loop-size.invariant c.loop-size-test.true c.if-byte-eq32.false more.0)

pub returns : goal.returns
returns c =
    let r = c.loop-size.invariant in
    let text = c.args.text.now in
    let e = piece_end text c.loop-size.size c.loop-size-test.false in
    (read_small r e, omega (arith, read_long r e, c.loop-size-test.false, c.loop-size.auto.size-end), read_value r e)

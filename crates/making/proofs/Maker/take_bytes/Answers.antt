-- `making::Maker::take_bytes` meets its contract: each turn takes the first of the bytes that are left, and at the
-- end none is. Assumes nothing.
use mathlib.Core.Path.{refl, sym, ap, ◌∙◌}
use Prim.Native.Nat.{◌+◌}
use lib.ListN.{drop}
use Rattle.making.specs.Text.{Reading, bytes_taken}
use Rattle.making.proofs.Pieces.{bytes_turn, bytes_end}
use Rattle.making.proofs.Maker.take_bytes.Goals as goal

pub loop-byte-init : goal.loop-byte-init
loop-byte-init c = (refl, refl, refl)

pub loop-byte-preserved : goal.loop-byte-preserved
loop-byte-preserved c =
    let inv = c.loop-byte.invariant in
    let text = c.args.text.now in
    let k = c.take_byte-maker.auto in (
      k.line ∙ inv.0,
      k.file ∙ inv.1,
      ap (λ (s : Reading). bytes_taken s (drop (c.loop-byte.byte-index + 1) text)) c.take_byte-maker.ensures
          ∙ sym (bytes_turn _ text c.loop-byte.byte-index c.loop-byte-test.true)
          ∙ inv.2,
    )

pub returns : goal.returns
returns c =
    let inv = c.loop-byte.invariant in
    let text = c.args.text.now in
    bytes_end _ text c.loop-byte.byte-index c.loop-byte-test.false ∙ inv.2

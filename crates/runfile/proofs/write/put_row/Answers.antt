-- The bytes that are copied are the row's, each by one division, and stand between what lies before and behind them.
-- Assumes nothing.
use mathlib.Core.Path.{sym, ap₂, ◌∙◌}
use mathlib.Core.List.{List, ◌++◌}
use Prim.Native.Nat.{ℕ, ◌+◌}
use native.Mathlib.Omega.{arith}
use lib.ListN.{take}
use borrow.Rule.Slice.PartMut.{Post-is}
use Rattle.runfile.specs.File.{in_bytes}
use Rattle.runfile.proofs.Put.{eight_bytes, length_in_bytes, put_text}
use Rattle.runfile.proofs.write.put_row.Goals as goal

pub returns : goal.returns
returns c =
    let at = c.args.at in
    let out = c.args.out.now in
    let bytes = c.copy_from_slice.ensures.after ∙ c.to_be_bytes.ensures ∙ sym (eight_bytes c.args.row) in
    ap₂ (λ (ys zs : List ℕ). take at out ++ (ys ++ zs)) bytes (Post-is at (at + 8) out (omega arith))
    ∙ put_text at (at + 8) (in_bytes 8 c.args.row) out (omega arith) (omega (arith, length_in_bytes 8 c.args.row))

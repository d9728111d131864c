-- The next row is put behind those that stand. Assumes nothing.
use mathlib.Core.Path.{◌∙◌}
use native.Mathlib.Omega.{arith}
use Rattle.runfile.specs.File.{rows_in_bytes}
use Rattle.runfile.proofs.Put.{put_none, put_turn}
use Rattle.runfile.proofs.write.put_rows.Goals as goal

pub loop-k-init : goal.loop-k-init
unfolding rows_in_bytes
loop-k-init c = put_none _ _ (omega (arith, c.requires))

pub loop-k-preserved : goal.loop-k-preserved
loop-k-preserved c =
    c.put_row.ensures
    ∙ put_turn c.args.at c.args.rows.now c.args.out.now _ c.loop-k.k (omega (arith, c.requires)) c.loop-k.invariant

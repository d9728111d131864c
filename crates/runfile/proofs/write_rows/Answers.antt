-- A turn writes row k, as the bytes have it. Assumes nothing.
use Rattle.counting.proofs.Loops.{fill_begins, fill_turn}
use Rattle.runfile.specs.File.{row_from}
use Rattle.runfile.proofs.write_rows.Goals as goal

pub loop-k-init : goal.loop-k-init
loop-k-init c = fill_begins _ _

pub loop-k-preserved : goal.loop-k-preserved
unfolding row_from
loop-k-preserved c =
    fill_turn _ c.args.rows.now c.requires.1 c.loop-k.invariant c.loop-k-test.true c.number8.ensures

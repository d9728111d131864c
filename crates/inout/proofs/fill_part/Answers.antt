-- `inout::fill_part` meets its contract: a read writes only to the part that it is lent, and gives no more bytes than
-- that part has. So what lies before and behind it stays. Assumes nothing.
use Prim.Native.Nat.{◌-◌}
use mathlib.Core.Path.{◌≡◌, ◌∙◌}
use lib.ListN.{length}
use borrow.Rule.Slice.PartMut.{mid_len, drop_put}
use Rattle.inout.proofs.fill_part.Goals as goal

pub returns-clause-back : goal.returns-clause-back
returns-clause-back c =
    let f = c.args in
    let low = c.requires.0 in
    let high = c.requires.1 in
    let as_many : length c.read_full.new.buf ≡ f.end - f.at =
    c.read_full.auto.buf ∙ mid_len f.at f.end f.bytes.now high in
    drop_put f.at f.end f.bytes.now c.read_full.new.buf low high as_many

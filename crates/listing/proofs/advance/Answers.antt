-- `listing::advance` meets its contract: a table that is not whole is refused by 8. Of a whole one the faulty
-- senders' rows are taken, and an iteration reads no others, so its reply is that of the whole table. Assumes
-- nothing.
use mathlib.Core.Path.{◌≡◌, refl}
use Rattle.std.specs.Prelude.{Result, Ok, Err}
use Prim.Native.Nat.{ℕ, ◌+◌, ◌*◌, ◌≤◌}
use native.Mathlib.Omega.{arith}
use lib.ListN.{length}
use borrow.Rule.Slice.PartMut.{mid_len}
use Rattle.sizes.specs.Sizes.{table_rows}
use Rattle.sizes.proofs.Laws.{table_le}
use Rattle.run.specs.declared.Run.{Run}
use Rattle.listing.specs.File.{table_bytes}
use Rattle.listing.specs.Inside.{LeadsTo, Advanced}
use Rattle.listing.proofs.Behind.{rows_inside}
use Rattle.listing.proofs.Table.{cut_short, moved_on}
use Rattle.listing.proofs.advance.Goals as goal
use Rattle.listing.proofs.advance.Goals.{After-begins-from, After-iterate-next}

-- inside 1 to 13 the table by n is the formula
rows_of : (c : After-begins-from) → c.table_rows-rows.result ≡ table_rows c.args.s.now.n
rows_of c = rows_inside _ _ c.table_rows-rows.ensures c.requires.low c.requires.high

pub overflow_mul-rows : goal.overflow_mul-rows
overflow_mul-rows c = omega (arith, rows_of c, table_le c.requires.high)

pub returns-then-bytes-from : goal.returns-then-bytes-from
unfolding table_bytes
returns-then-bytes-from c =
    let b = (goal.at.returns-then-bytes-from c).After-begins-from in
    rw c.from.ensures
    (cut_short _ _ c.requires (omega (arith, rows_of b, c.begins-from.ensures.0, c.if-bytes-from.true)))

pub take_faulty-requires : goal.take_faulty-requires
unfolding table_bytes
take_faulty-requires c =
    let b = (goal.at.take_faulty-requires c).After-begins-from in
    let from = c.begins-from.result in
    let end = from + 8 * c.table_rows-rows.result in
    let bytes = c.args.bytes.now in
    let within : end ≤ length bytes =
    omega (arith, c.if-bytes-from.false, c.requires.behind, c.begins-from.ensures.0) in
    (c.requires.high, omega (arith, mid_len from end bytes within, rows_of b))

pub shared_ref_as_front-iterate : goal.shared_ref_as_front-iterate
shared_ref_as_front-iterate c =
    omega (arith, rows_of (goal.at.shared_ref_as_front-iterate c).After-begins-from, table_le c.requires.high)

-- the reply to the table, where the faulty senders' rows were taken
moves : (c : After-iterate-next) → (r : Result Run ℕ) →
    LeadsTo c.iterate-next.result.refusal c.iterate-next.result.run r → Advanced c.args.s.now c.args.bytes.now r
unfolding table_bytes
moves c =
    moved_on _ _ c.requires _ _ _ _ (rows_of (goal.at.After-iterate-next c).After-begins-from) c.begins-from.ensures.0
    c.if-bytes-from.false refl c.take_faulty.ensures c.take_faulty.array_long _ c.iterate-next.ensures

pub returns-then-next-ne0 : goal.returns-then-next-ne0
returns-then-next-ne0 c =
    moves (goal.at.returns-then-next-ne0 c).After-iterate-next (Err c.iterate-next.result.refusal)
    (refl, c.if-next-ne0.true)

pub returns : goal.returns
returns c =
    moves (goal.at.returns c).After-iterate-next (Ok c.iterate-next.result.run) (c.if-next-ne0.false, refl)

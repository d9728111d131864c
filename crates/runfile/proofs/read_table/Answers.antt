-- A table that is not refused has its rows in the bytes and room in the slice. Assumes nothing.
use mathlib.Core.Path.{◌≡◌, sym, ap, ◌∙◌}
use Prim.Native.Nat.{ℕ}
use native.Mathlib.Omega.{arith}
use lib.ListN.{length}
use Rattle.counting.specs.Count.{front}
use Rattle.sizes.proofs.Numbers.{named}
use Rattle.runfile.specs.File.{table_row}
use Rattle.runfile.proofs.Laws.{TableAccepted, table_accepted, table_leaves, table_written}
use Rattle.runfile.proofs.read_table.Reads as Reads
use Rattle.runfile.proofs.read_table.Goals as goal
use Rattle.runfile.proofs.read_table.Goals.{In-Ok}

-- what the table passed
read : (c : In-Ok) → TableAccepted c.args.n c.args.bytes.now (length c.args.rows.now)
read c = table_accepted _ _ _ (sym c.in-Ok.ensures.refusal)

-- the contract admits one reply, and one last contents of the slice
pub only_one : (κs : _) (a : _) (r s : _) (x y : _) → Reads.Post κs a r x → Reads.Post κs a s y →
    (r ≡ s) × (x.1.1.0.now ≡ y.1.1.0.now)
only_one κs a r s x y p q = (p.0 ∙ sym q.0, p.1 ∙ sym q.1)

pub write_rows-requires : goal.write_rows-requires
write_rows-requires c =
    let passed = read (goal.at.write_rows-requires c).In-Ok in
    omega (arith, c.in-Ok.ensures.count, passed.exact, passed.enough)

pub returns-in-Ok-clause-rows_after : goal.returns-in-Ok-clause-rows_after
unfolding table_row
returns-in-Ok-clause-rows_after c =
    let bytes = c.args.bytes.now in
    let rows = c.args.rows.now in
    c.write_rows.ensures
    ∙ ap (λ (n : ℕ). front n (table_row bytes) rows) c.in-Ok.ensures.count
    ∙ sym (table_written _ bytes rows (sym c.in-Ok.ensures.refusal))

pub returns-in-Err-clause-rows_after : goal.returns-in-Err-clause-rows_after
returns-in-Err-clause-rows_after c = sym (table_leaves _ _ _ (λ z. named _ (c.in-Err.ensures.refusal ∙ z)))

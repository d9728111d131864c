-- A table that is not refused has its exact number of rows and room in the slice. Assumes nothing.
use mathlib.Core.Path.{◌≡◌, sym, ap, ◌∙◌}
use mathlib.Core.List.{[]}
use Prim.Native.Nat.{ℕ, ◌*◌}
use native.Mathlib.Omega.{arith}
use lib.ListN.{length}
use Rattle.sizes.proofs.Numbers.{named}
use Rattle.sizes.specs.Sizes.{table_rows}
use Rattle.runfile.specs.File.{rows_in_bytes}
use Rattle.runfile.specs.Write.{table_file, at_front, write_table_refusal, write_table_reply, write_table_writes}
use Rattle.runfile.proofs.Put.{put_front}
use Rattle.runfile.proofs.Written.{
  TableWritten,
  write_table_accepted,
  wrote_refused,
  wrote_leaves,
  wrote_given,
  wrote_written,
}
use Rattle.runfile.proofs.write.write_table.Reads as Reads
use Rattle.runfile.proofs.write.write_table.Goals as goal
use Rattle.runfile.proofs.write.write_table.Goals.{In_default}

none : (c : In_default) → write_table_refusal c.args.n c.args.rows.now (length c.args.out.now) ≡ 0
none c = sym c.in_default.ensures

-- what the table passed
fits : (c : In_default) → TableWritten c.args.n c.args.rows.now (length c.args.out.now)
fits c = write_table_accepted _ _ _ (none c)

-- the contract admits one reply, and one last contents of the slice
pub only_one : (κs : _) (a : _) (r s : _) (x y : _) → Reads.Post κs a r x → Reads.Post κs a s y →
    (r ≡ s) × (x.1.1.0.now ≡ y.1.1.0.now)
only_one κs a r s x y p q = (p.0 ∙ sym q.0, p.1 ∙ sym q.1)

pub returns-in-Err : goal.returns-in-Err
unfolding write_table_reply write_table_writes
returns-in-Err c =
    let e = c.in-Err.ensures in
    let a = c.args in
    let some : write_table_refusal a.n a.rows.now (length a.out.now) ≡ 0 → ⊥ =
    λ z. named _ (e ∙ z) in
    record {
      value = ap (λ (k : ℕ). record { refusal = k; size = 0 }) (c.from.ensures ∙ e)
          ∙ sym (wrote_refused _ _ [] [] some);
      out_after = sym (wrote_leaves _ 0 _ _ some);
    }

pub put_rows-requires : goal.put_rows-requires
put_rows-requires c =
    let f = fits (goal.at.put_rows-requires c).In_default in
    omega (arith, f.exact, f.enough)

pub returns : goal.returns
unfolding write_table_reply write_table_writes table_file
returns c =
    let l = (goal.at.returns c).In_default in
    let a = l.args in
    let size : 8 * length a.rows.now ≡ 8 * table_rows a.n = omega (arith, (fits l).exact) in
    record {
      value = ap (λ (k : ℕ). record { refusal = 0; size = k }) size ∙ sym (wrote_given _ _ [] [] (none l));
      out_after = c.put_rows.ensures
          ∙ put_front _ _
          ∙ ap (λ (k : ℕ). at_front (rows_in_bytes a.rows.now k) a.out.now) (fits l).exact
          ∙ sym (wrote_written _ 0 _ _ (none l));
    }

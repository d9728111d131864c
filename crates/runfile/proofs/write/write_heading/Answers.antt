-- A heading that is not refused has its exact number of rows and room in the slice. Assumes nothing.
use mathlib.Core.Path.{◌≡◌, sym, ap, ◌∙◌}
use mathlib.Core.List.{List, [], ◌++◌}
use Prim.Native.Nat.{ℕ, ◌+◌, ◌*◌, ◌≤◌}
use native.Mathlib.Omega.{arith}
use lib.ListN.{length}
use Rattle.sizes.proofs.Numbers.{named}
use Rattle.runfile.specs.File.{heading_bytes, rows_in_bytes}
use Rattle.runfile.specs.Inside.{first_nine}
use Rattle.runfile.specs.Write.{at_front, write_heading_refusal, write_heading_reply, write_heading_writes}
use Rattle.runfile.proofs.Put.{length_nine, nine_then_rows, put_behind}
use Rattle.runfile.proofs.Written.{
  HeadingWritten,
  write_heading_accepted,
  wrote_refused,
  wrote_leaves,
  wrote_given,
  wrote_written,
}
use Rattle.runfile.proofs.write.write_heading.Reads as Reads
use Rattle.runfile.proofs.write.write_heading.Goals as goal
use Rattle.runfile.proofs.write.write_heading.Goals.{After-put_nine, In_default}

none : (c : In_default) →
    let a = c.args in write_heading_refusal a.n a.t a.faulty a.rows.now (length a.out.now) ≡ 0
none c = sym c.in_default.ensures

-- what the heading passed
fits : (c : In_default) → let a = c.args in HeadingWritten a.n a.t a.faulty a.rows.now (length a.out.now)
fits c = write_heading_accepted _ _ _ _ _ (none c)

-- the slice has room for nine bytes and for the rows
room : (c : In_default) → 9 + 8 * length c.args.rows.now ≤ length c.args.out.now
unfolding heading_bytes
room c = omega (arith, (fits c).starts.pass11, (fits c).enough)

-- the contract admits one reply, and one last contents of the slice
pub only_one : (κs : _) (a : _) (r s : _) (x y : _) → Reads.Post κs a r x → Reads.Post κs a s y →
    (r ≡ s) × (x.1.1.1.1.0.now ≡ y.1.1.1.1.0.now)
only_one κs a r s x y p q = (p.0 ∙ sym q.0, p.1 ∙ sym q.1)

pub returns-in-Err : goal.returns-in-Err
unfolding write_heading_reply write_heading_writes
returns-in-Err c =
    let e = c.in-Err.ensures in
    let a = c.args in
    let some : write_heading_refusal a.n a.t a.faulty a.rows.now (length a.out.now) ≡ 0 → ⊥ =
    λ z. named _ (e ∙ z) in
    record {
      value = ap (λ (k : ℕ). record { refusal = k; size = 0 }) (c.from.ensures ∙ e)
          ∙ sym (wrote_refused _ _ [] [] some);
      out_after = sym (wrote_leaves _ 0 _ _ some);
    }

pub put_nine-requires : goal.put_nine-requires
put_nine-requires c = omega (arith, room (goal.at.put_nine-requires c).In_default)

pub put_rows-requires : goal.put_rows-requires
put_rows-requires c =
    let nine = (goal.at.put_rows-requires c).After-put_nine in
    omega (arith, room (goal.at.After-put_nine nine).In_default, nine.put_nine.auto.out)

pub returns : goal.returns
unfolding write_heading_reply write_heading_writes heading_bytes
returns c =
    let nine = (goal.at.returns c).After-put_nine in
    let l = (goal.at.After-put_nine nine).In_default in
    let a = l.args in
    let rows = a.rows.now in
    let out = a.out.now in
    let count : length rows ≡ a.n = (fits l).starts.pass11 in
    let size : 9 + 8 * length rows ≡ 9 + 8 * a.n = omega arith in
    let first = first_nine a.n a.t a.faulty in
    record {
      value = ap (λ (k : ℕ). record { refusal = 0; size = k }) size ∙ sym (wrote_given _ _ [] [] (none l));
      out_after = c.put_rows.ensures
          ∙ put_behind first _ out _ 9 (length_nine a.n a.t a.faulty) nine.put_nine.ensures
          ∙ ap (λ (k : ℕ). at_front (first ++ rows_in_bytes rows k) out) count
          ∙ ap (λ (text : List ℕ). at_front text out) (nine_then_rows a.n a.t a.faulty rows)
          ∙ sym (wrote_written _ 0 _ _ (none l));
    }

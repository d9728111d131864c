-- A heading that is not refused has room for its rows in the bytes and in the slice. Assumes nothing.
use mathlib.Core.Path.{◌≡◌, sym, ap, ◌∙◌}
use Prim.Native.Nat.{ℕ}
use native.Mathlib.Omega.{arith}
use lib.ListN.{length}
use Rattle.sizes.proofs.Numbers.{named}
use Rattle.runfile.specs.File.{heading_bytes, heading_row, n_of}
use Rattle.counting.specs.Count.{front}
use Rattle.runfile.specs.Reply.{heading_refusal, heading_of, nothing_read}
use Rattle.runfile.specs.declared.Heading.{Heading}
use Rattle.runfile.proofs.Laws.{
  Readable,
  heading_readable,
  heading_refused,
  heading_leaves,
  heading_given,
  heading_written,
}
use Rattle.runfile.proofs.read_heading.Reads as Reads
use Rattle.runfile.proofs.read_heading.Goals as goal
use Rattle.runfile.proofs.read_heading.Goals.{In-Ok}

none : (c : In-Ok) → heading_refusal c.args.bytes.now (length c.args.rows.now) ≡ 0
none c = sym c.in-Ok.ensures.refusal

-- what the heading passed
read : (c : In-Ok) → Readable c.args.bytes.now (length c.args.rows.now)
read c = heading_readable _ _ (none c)

-- the heading's n is that of the bytes
boxes : (c : In-Ok) → c.in-Ok.heading.n ≡ n_of c.args.bytes.now
unfolding heading_of
boxes c = ap (λ (heading : Heading). heading.n) c.in-Ok.ensures.heading

-- the contract admits one reply, and one last contents of the slice
pub only_one : (κs : _) (a : _) (r s : _) (x y : _) → Reads.Post κs a r x → Reads.Post κs a s y →
    (r ≡ s) × (x.1.0.now ≡ y.1.0.now)
only_one κs a r s x y p q = (p.0 ∙ sym q.0, p.1 ∙ sym q.1)

pub write_rows-requires : goal.write_rows-requires
unfolding heading_bytes
write_rows-requires c =
    let accepted = (goal.at.write_rows-requires c).In-Ok in
    let passed = read accepted in
    omega (arith, boxes accepted, passed.whole, passed.enough)

pub returns-in-Ok : goal.returns-in-Ok
unfolding heading_row
returns-in-Ok c =
    let bytes = c.args.bytes.now in
    let rows = c.args.rows.now in
    let accepted = (goal.at.returns-in-Ok c).In-Ok in
    let passed = none accepted in
    record {
      value = c.in-Ok.ensures.heading ∙ sym (heading_given bytes rows passed);
      rows_after = c.write_rows.ensures
          ∙ ap (λ (n : ℕ). front n (heading_row bytes) rows) (boxes accepted)
          ∙ sym (heading_written bytes rows passed);
    }

pub returns-in-Err : goal.returns-in-Err
unfolding nothing_read
returns-in-Err c =
    let told = c.in-Err.ensures.refusal in
    let some : heading_refusal c.args.bytes.now (length c.args.rows.now) ≡ 0 → ⊥ = λ z. named _ (told ∙ z) in
    record {
      value = ap nothing_read (c.from.ensures ∙ told) ∙ sym (heading_refused _ c.args.rows.now some);
      rows_after = sym (heading_leaves _ _ some);
    }

-- A slice of fewer than 8 bytes has no room wherever the row goes, and otherwise the place is held against what is
-- left before 8 bytes, so that no sum can be too large. Assumes nothing.
use mathlib.Core.Path.{◌≡◌, refl, sym, ◌∙◌}
use Prim.Native.Nat.{ℕ, ◌+◌, ◌≤◌, ◌<◌}
use native.Mathlib.Omega.{arith}
use lib.ListN.{length}
use borrow.Author.Tests.{lt-ltb, le-ltb}
use Rattle.runfile.specs.Write.{row_refusal, row_writes}
use Rattle.runfile.proofs.write.write_row.Reads as Reads
use Rattle.runfile.proofs.write.write_row.Goals as goal
use Rattle.runfile.proofs.write.write_row.Goals.{
  Else-out-at,
  then-out-lt8-via-then-out-lt8,
  then-out-lt8-via-else-out-lt8+then-out-at,
}

-- the slice has no room, and it has
short : (at room : ℕ) → room < at + 8 → 10 ≡ row_refusal at room
unfolding row_refusal
short at room l = rw (lt-ltb room (at + 8) l) refl

room_of : (c : Else-out-at) → c.args.at + 8 ≤ length c.args.out.now
room_of c = omega (arith, c.if-out-at.false, c.if-out-lt8.false)

-- the contract admits one reply, and one last contents of the slice
pub only_one : (κs : _) (a : _) (r s : _) (x y : _) → Reads.Post κs a r x → Reads.Post κs a s y →
    (r ≡ s) × (x.1.1.0.now ≡ y.1.1.0.now)
only_one κs a r s x y p q = (p.0 ∙ sym q.0, p.1 ∙ sym q.1)

pub returns-then-out-lt8 : goal.returns-then-out-lt8
unfolding row_writes
returns-then-out-lt8 c =
    let at = c.args.at in
    let out = c.args.out.now in
    let less : length out < at + 8 =
    elim c.then-out-lt8.branch [
      | then-out-lt8-via-then-out-lt8 w ↦ omega arith
      | then-out-lt8-via-else-out-lt8+then-out-at w ↦ omega arith
    ] in
    record {
      value = c.from.ensures ∙ short at (length out) less;
      out_after = rw (lt-ltb (length out) (at + 8) less) refl;
    }

pub returns : goal.returns
unfolding row_refusal row_writes
returns c =
    let l = (goal.at.returns c).Else-out-at in
    let a = l.args in
    let enough = le-ltb (length a.out.now) (a.at + 8) (room_of l) in
    record { value = rw enough refl; out_after = c.put_row.ensures ∙ rw enough refl }

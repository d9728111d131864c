-- A part that is not refused has its rows in the bytes and its places in the slice, and those places, lent by
-- themselves, are written from the first to the last. Assumes nothing.
use mathlib.Core.Path.{◌≡◌, sym, ap₂, ◌∙◌}
use mathlib.Core.List.{List, ◌++◌}
use Prim.Native.Nat.{ℕ, ◌+◌, ◌-◌}
use native.Mathlib.Omega.{arith}
use lib.ListN.{length, take, drop}
use borrow.Rule.Slice.PartMut.{mid_len, Post-is}
use Rattle.counting.proofs.Build.{front_all}
use Rattle.sizes.proofs.Numbers.{named}
use Rattle.runfile.specs.Reply.{part_refusal, part_of}
use Rattle.runfile.proofs.Part.{PartAccepted, part_accepted, part_leaves, part_written}
use Rattle.runfile.proofs.read_part.Reads as Reads
use Rattle.runfile.proofs.read_part.Goals as goal
use Rattle.runfile.proofs.read_part.Goals.{In_default}

none : (c : In_default) →
    part_refusal c.args.from c.args.count c.args.bytes.now (length c.args.rows.now) ≡ 0
none c = sym c.in_default.ensures

-- the place behind the part
abbrev end_of : In_default → ℕ
end_of c = c.args.from + c.args.count

-- what the part passed
read : (c : In_default) →
    PartAccepted c.args.from c.args.count c.args.bytes.now (length c.args.rows.now)
read c = part_accepted _ _ _ _ (none c)

-- the part that is lent has as many places as rows are to be written
part_long : (c : In_default) →
    length (take (end_of c - c.args.from) (drop c.args.from c.args.rows.now)) ≡ c.args.count
part_long c =
    let a = c.args in
    mid_len a.from (end_of c) a.rows.now (read c).enough ∙ omega arith

-- the contract admits one reply, and one last contents of the slice
pub only_one : (κs : _) (a : _) (r s : _) (x y : _) → Reads.Post κs a r x → Reads.Post κs a s y →
    (r ≡ s) × (x.1.1.1.0.now ≡ y.1.1.1.0.now)
only_one κs a r s x y p q = (p.0 ∙ sym q.0, p.1 ∙ sym q.1)

pub returns-in-Err-clause-rows_after : goal.returns-in-Err-clause-rows_after
returns-in-Err-clause-rows_after c = sym (part_leaves _ _ _ _ (λ z. named _ (c.in-Err.ensures ∙ z)))

pub overflow_add-end : goal.overflow_add-end
overflow_add-end c = omega (arith, (read c).enough)

pub overflow_mul-from : goal.overflow_mul-from
overflow_mul-from c = omega (arith, (read c).within)

pub offset_bounds-rows-from : goal.offset_bounds-rows-from
offset_bounds-rows-from c = omega (arith, (read c).within)

pub slice_bounds-write_rows-end : goal.slice_bounds-write_rows-end
slice_bounds-write_rows-end c = omega (arith, (read c).enough)

pub write_rows-requires : goal.write_rows-requires
write_rows-requires c =
    let d = (goal.at.write_rows-requires c).In_default in
    (omega (arith, (read d).within), omega (arith, part_long d))

pub returns-clause-rows_after : goal.returns-clause-rows_after
unfolding part_of
returns-clause-rows_after c =
    let d = (goal.at.returns-clause-rows_after c).In_default in
    let a = d.args in
    let written = front_all _ _ a.count (part_long d) c.write_rows.ensures in
    let rest = Post-is a.from (end_of d) a.rows.now (omega arith) in
    ap₂ (λ (ys zs : List ℕ). take a.from a.rows.now ++ (ys ++ zs)) written rest ∙ sym (part_written _ _ _ _ (none d))

-- `making::Maker::write_empty` meets its contract: a heading that is refused is not written. Otherwise it has room,
-- so that the slice is as long as the file, and behind the heading all of it is cleared. Assumes nothing.
use mathlib.Core.Path.{◌≡◌, sym, ap, ◌∙◌}
use mathlib.Core.List.{List}
use Prim.Native.Nat.{ℕ, ◌≤◌}
use native.Mathlib.Omega.{arith}
use lib.ListN.{length, replicate, length-replicate, get_or-replicate}
use Rattle.counting.specs.Count.{build}
use Rattle.counting.proofs.Build.{built}
use Rattle.runfile.specs.declared.write.Wrote.{Wrote}
use Rattle.runfile.specs.File.{heading_bytes}
use Rattle.runfile.specs.Write.{write_heading_refusal}
use Rattle.runfile.proofs.Written.{
  write_heading_accepted,
  write_heading_number,
  write_heading_leaves,
  write_heading_size,
  write_heading_length,
}
use Rattle.making.proofs.Files.{heading_cleared}
use Rattle.making.proofs.Maker.write_empty.Goals as goal
use Rattle.making.proofs.Maker.write_empty.Goals.{After-write_heading-wrote, Else-wrote-ne0}

-- the refusal is the heading's
number_of : (c : After-write_heading-wrote) →
    let a = c.args in
    c.write_heading-wrote.result.refusal
    ≡ write_heading_refusal a.self.n a.self.t a.self.faulty a.rows.now (length a.file.now)
number_of c =
    let a = c.args in
    ap (λ (r : Wrote). r.refusal) c.write_heading-wrote.ensures.value
    ∙ write_heading_number a.self.n a.self.t a.self.faulty a.rows.now a.file.now

-- where the heading stands
abbrev heading_at : Else-wrote-ne0 → After-write_heading-wrote
heading_at c = (goal.at.Else-wrote-ne0 c).After-write_heading-wrote

none : (c : Else-wrote-ne0) →
    let a = c.args in write_heading_refusal a.self.n a.self.t a.self.faulty a.rows.now (length a.file.now) ≡ 0
none c = sym (number_of (heading_at c)) ∙ c.if-wrote-ne0.false

size_of : (c : Else-wrote-ne0) → (heading_at c).write_heading-wrote.result.size ≡ heading_bytes c.args.self.n
size_of c =
    let a = c.args in
    ap (λ (r : Wrote). r.size) (heading_at c).write_heading-wrote.ensures.value
    ∙ write_heading_size a.self.n a.self.t a.self.faulty a.rows.now a.file.now (none c)

long_of : (c : Else-wrote-ne0) → length (heading_at c).write_heading-wrote.new.out ≡ length c.args.file.now
long_of c =
    let a = c.args in
    ap length (heading_at c).write_heading-wrote.ensures.out_after
    ∙ write_heading_length a.self.n a.self.t a.self.faulty a.rows.now a.file.now

room_of : (c : Else-wrote-ne0) → heading_bytes c.args.self.n ≤ length c.args.file.now
room_of c = (write_heading_accepted _ _ _ _ _ (none c)).enough

pub returns-then-wrote-ne0 : goal.returns-then-wrote-ne0
returns-then-wrote-ne0 c =
    let w = (goal.at.returns-then-wrote-ne0 c).After-write_heading-wrote in
    let a = w.args in (
      number_of w,
      c.if-wrote-ne0.true,
      w.write_heading-wrote.ensures.out_after
          ∙ (write_heading_leaves a.self.n a.self.t a.self.faulty a.rows.now a.file.now
          (λ z. c.if-wrote-ne0.true (number_of w ∙ z))).1,
    )

pub slice_bounds-fill-count : goal.slice_bounds-fill-count
slice_bounds-fill-count c = omega (arith, size_of c, room_of c, long_of c)

pub slice_bounds-fill-start : goal.slice_bounds-fill-start
slice_bounds-fill-start c = omega (arith, size_of c, room_of c, long_of c)

-- zeros, as many as there are places
zeros_built : (n : ℕ) (xs : List ℕ) → xs ≡ replicate n 0 → xs ≡ build n (λ k. 0)
zeros_built n xs e =
    e ∙ built n (λ k. 0) (replicate n 0) (length-replicate n 0) (λ k l. get_or-replicate n k 0 0 l)

pub returns : goal.returns
returns c =
    let d = (goal.at.returns c).Else-wrote-ne0 in
    let a = d.args in (
      none d,
      heading_cleared a.self a.rows.now a.file.now _ _ _ (none d)
          c.write_heading-wrote.ensures.out_after (size_of d)
          (zeros_built _ _ (c.fill.ensures.after (λ y e. e))) d.requires,
    )

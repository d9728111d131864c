-- `showing::show` meets its contract: what is refused leaves the slice as it is, and otherwise the part is put at its
-- front. Assumes nothing.
use mathlib.Core.Path.{◌≡◌, refl, sym, ap, ap₂, ◌∙◌}
use mathlib.Core.List.{List}
use Prim.Native.Nat.{ℕ, zero, suc, ◌+◌, ◌-◌, ◌≤◌}
use native.Mathlib.Omega.{arith}
use lib.ListN.{length}
use Rattle.std.specs.Prelude.{SomeIff, Option, Some, None}
use Rattle.lines.specs.Line.{placed}
use Rattle.runfile.specs.declared.Heading.{Heading}
use Rattle.listing.specs.File.{due}
use Rattle.showing.specs.declared.Shown.{Shown}
use Rattle.showing.specs.Inside.{part_of}
use Rattle.showing.specs.Show.{part_text, part_room, parts_of, show_refusal}
use Rattle.showing.proofs.Laws.{none_refused_of, show_refused, show_given, show_leaves, show_written}
use Rattle.showing.proofs.GoodFiles.{said}
use Rattle.showing.proofs.show.Reads as Reads
use Rattle.showing.proofs.show.Goals as goal
use Rattle.showing.proofs.show.Goals.{In-Err, In-Ok, After-checked_sub-table}

-- which part it is
part_is : (part : ℕ) (table : Option ℕ) → SomeIff table (1 ≤ part) (part - 1) → part_of table ≡ part
part_is zero None p = refl
part_is (suc part) None p = absurd (p (omega arith))
part_is part (Some m) p = omega (arith, p.0, p.1)

same_part : (c : After-checked_sub-table) → part_of c.checked_sub-table.result ≡ c.args.part
same_part c = part_is c.args.part c.checked_sub-table.result c.checked_sub-table.ensures

-- where the part is refused
number : (c : In-Err) → c.in-Err.refusal ≡ show_refusal c.args.bytes.now c.args.part (length c.args.out.now)
number c =
    c.in-Err.ensures.0
    ∙ ap (λ (part : ℕ). show_refusal c.args.bytes.now part (length c.args.out.now))
    (same_part (goal.at.In-Err c).After-checked_sub-table)

refused : (c : In-Err) → show_refusal c.args.bytes.now c.args.part (length c.args.out.now) ≡ 0 → ⊥
refused c z = c.in-Err.ensures.1 (number c ∙ z)

-- where it is not
none : (c : In-Ok) → show_refusal c.args.bytes.now c.args.part (length c.args.out.now) ≡ 0
none c =
    sym (ap (λ (part : ℕ). show_refusal c.args.bytes.now part (length c.args.out.now))
    (same_part (goal.at.In-Ok c).After-checked_sub-table))
    ∙ c.in-Ok.ensures.0

-- the contract admits one reply, and one last contents of the slice
pub only_one : (κs : _) (a : _) (r s : _) (x y : _) → Reads.Post κs a r x → Reads.Post κs a s y →
    (r ≡ s) × (x.1.1.0.now ≡ y.1.1.0.now)
only_one κs a r s x y p q = (p.0 ∙ sym q.0, p.1 ∙ sym q.1)

pub put_part-size-requires : goal.put_part-size-requires
put_part-size-requires c =
    let part = part_of c.checked_sub-table.result in
    let fair = none_refused_of c.args.bytes.now part (length c.args.out.now) c.in-Ok.ensures.0 in
    omega (arith, ap (λ (xs : List ℕ). part_room xs part) c.in-Ok.ensures.1, fair.1)

pub returns-in-Ok : goal.returns-in-Ok
unfolding parts_of due
returns-in-Ok c =
    let d = none (goal.at.returns-in-Ok c).In-Ok in
    let a = c.args in
    let text = c.put_part-size.ensures in
    let same = ap₂ part_text c.in-Ok.ensures.1 (same_part (goal.at.returns-in-Ok c).After-checked_sub-table) in
    let size : c.put_part-size.result ≡ length (part_text a.bytes.now a.part) =
    omega (arith, text.ends, ap length same) in
    let parts : c.file.inside.heading.t + 2 ≡ parts_of a.bytes.now =
    omega (arith, ap (λ (h : Heading). h.t) (said c.file.invariant (c.file.view_is ∙ c.in-Ok.ensures.1))) in
    record {
      value = ap₂ {C = Shown} (λ (k m : ℕ). record { refusal = 0; size = k; parts = m }) size parts
          ∙ show_given _ _ _ d;
      out_after =
          text.stands
          ∙ ap (placed a.out.now 0) same
          ∙ show_written _ _ _ d;
    }

pub returns-in-Err : goal.returns-in-Err
returns-in-Err c =
    let e = (goal.at.returns-in-Err c).In-Err in
    record {
      value = ap {B = Shown} (λ (k : ℕ). record { refusal = k; size = 0; parts = 0 }) (number e)
          ∙ show_refused _ _ _ (refused e);
      out_after = show_leaves _ _ _ (refused e);
    }

-- `File::put_part` meets its contract: the first part is the heading's lines, the next t + 1 are the tables', and
-- behind the last there is nothing. Assumes nothing.
use mathlib.Core.Path.{◌≡◌, refl, sym, ap, subst, ◌∙◌}
use Prim.Native.Nat.{ℕ, suc, ◌+◌, ◌-◌}
use native.Mathlib.Omega.{arith}
use Rattle.std.specs.Prelude.{Option}
use Rattle.runfile.specs.declared.Heading.{Heading}
use Rattle.listing.specs.File.{due}
use Rattle.listing.specs.Inside.{Put}
use Rattle.listing.proofs.Text.{put_nothing}
use Rattle.showing.specs.Inside.{part_of}
use Rattle.showing.specs.Show.{part_room, table_text}
use Rattle.showing.proofs.Laws.{room_first, room_table, text_first, text_table, text_behind}
use Rattle.showing.proofs.GoodFiles.{said}
use Rattle.showing.proofs.File.put_part.Goals as goal
use Rattle.showing.proofs.File.put_part.Goals.{After-self}

-- the number of tables
due_of : (c : After-self) → c.self.inside.heading.t + 1 ≡ due c.args.self.now
unfolding due
due_of c = ap (λ (h : Heading). h.t + 1) (said c.self.invariant c.self.view_is)

pub put_heading-requires : goal.put_heading-requires
put_heading-requires c = omega (arith, room_first c.args.self.now _ (ap part_of c.in-None.is), c.requires)

pub put_table-requires : goal.put_table-requires
put_table-requires c =
    let all = due_of (goal.at.put_table-requires c).After-self in
    record {
      m = omega (arith, all, c.if-m-self.true);
      room = omega (
        arith,
        room_table c.args.self.now (suc c.in-Some.m) (λ z. omega (arith, z)),
        ap (λ (t : Option ℕ). part_room c.args.self.now (part_of t)) c.in-Some.is,
        c.requires,
      );
    }

pub returns-in-None : goal.returns-in-None
returns-in-None c =
    rw c.in-None.is (subst (Put _ _ _ _) (sym (text_first c.args.self.now 0 refl)) c.put_heading.ensures)

pub returns-in-Some : goal.returns-in-Some
returns-in-Some c =
    let all = due_of (goal.at.returns-in-Some c).After-self in
    let m = c.in-Some.m in
    let same : suc m - 1 ≡ m = omega arith in
    rw c.in-Some.is (subst (Put _ _ _ _)
    (ap (table_text c.args.self.now) (sym same)
    ∙ sym (text_table c.args.self.now (suc m) (λ z. omega (arith, z)) (omega (arith, all, c.if-m-self.true))))
    c.put_table.ensures)

pub returns-in-Some-2 : goal.returns-in-Some-2
returns-in-Some-2 c =
    let all = due_of (goal.at.returns-in-Some-2 c).After-self in
    rw c.in-Some.is (subst (Put _ _ _ _)
    (sym (text_behind c.args.self.now (suc c.in-Some.m) (λ z. omega (arith, z))
    (omega (arith, all, c.if-m-self.false))))
    (put_nothing _ _))

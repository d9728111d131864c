-- `File::part_room` meets its contract: the table by n is the formula, and 40 times it is small. Assumes nothing.
use mathlib.Core.Path.{◌≡◌, refl, sym, ap, ◌∙◌}
use Prim.Native.Nat.{ℕ, suc, ◌*◌}
use native.Mathlib.Omega.{arith}
use Rattle.sizes.specs.Sizes.{table_rows}
use Rattle.sizes.proofs.Laws.{table_le}
use Rattle.listing.specs.File.{heading}
use Rattle.listing.proofs.Behind.{rows_inside}
use Rattle.showing.specs.Show.{part_room}
use Rattle.showing.proofs.Laws.{room_table}
use Rattle.showing.proofs.GoodFiles.{boxes, headed_of}
use Rattle.showing.proofs.File.part_room.Goals as goal
use Rattle.showing.proofs.File.part_room.Goals.{After-table_rows}

rows_of : (c : After-table_rows) → c.table_rows.result ≡ table_rows (heading c.args.self.now).n
rows_of c =
    let n = boxes c.self.invariant c.self.view_is in
    let h = headed_of c.self.invariant c.self.view_is in
    rows_inside _ _ c.table_rows.ensures (omega (arith, n, h.low)) (omega (arith, n, h.high)) ∙ ap table_rows n

pub overflow_mul-result : goal.overflow_mul-result
overflow_mul-result c = omega (arith, rows_of c, table_le (headed_of c.self.invariant c.self.view_is).high)

pub returns-in-None : goal.returns-in-None
unfolding part_room
returns-in-None c = rw c.in-None.is refl

pub returns-in-Some : goal.returns-in-Some
returns-in-Some c =
    let table : suc c.in-Some.field-0 ≡ 0 → ⊥ = λ z. absurd (omega (arith, z)) in
    rw c.in-Some.is (ap (λ (rows : ℕ). 40 * rows) (rows_of c) ∙ sym (room_table _ _ table))

-- `says::say_at` meets its contract: a line is understood where each of its numbers names something. The place lies
-- within the table, so the table begins, and the place lies, among the 182,633 bytes of the largest file. Assumes
-- nothing.
use mathlib.Core.Path.{◌≡◌, ap₂, ap, ◌∙◌}
use mathlib.Core.Bool.{true}
use Prim.Native.Nat.{ℕ, ◌+◌, ◌*◌, ◌≤◌, ◌<◌}
use native.Mathlib.Omega.{arith}
use borrow.Author.Rules.{rules}
use Rattle.sizes.proofs.Laws.{table_le}
use Rattle.listing.specs.File.{table_begins}
use Rattle.listing.proofs.Behind.{begins_inside, begins_most}
use Rattle.says.specs.Say.{is_meant, say_at}
use Rattle.says.proofs.Laws.{meant_of}
use Rattle.says.proofs.Places.{said_inside}
use Rattle.says.proofs.Named.{few_meant, meant_placed, placed_meant, no_meaning}
use Rattle.says.proofs.say_at.Goals as goal
use Rattle.says.proofs.say_at.Goals.{In_ok-place, After-table_begins}

-- the line is understood
meant_at : (c : In_ok-place) → is_meant c.args.n c.args.t c.args.numbers.now ≡ true
meant_at c = placed_meant _ _ _ c.in_ok-place.ensures.0 c.in_ok-table.ensures.0

-- the place is that of a row
place_of : (c : In_ok-place) → c.in_ok-place.place < 4563
place_of c =
    let a = c.args in
    omega (
      arith,
      c.in_ok-place.ensures.1,
      said_inside a.n a.numbers.now (meant_of a.n a.t a.numbers.now (meant_at c)),
      table_le c.requires.1,
    )

abbrev place_at : After-table_begins → In_ok-place
place_at c = (goal.at.After-table_begins c).In_ok-place

begins_of : (c : After-table_begins) → c.table_begins.result ≤ 182633
begins_of c =
    let d = place_at c in
    let i = d.in_ok-table.ensures in
    begins_most _ _ _ c.table_begins.ensures d.requires.0 d.requires.1 (omega (arith, d.requires.2, i.0.high, i.1))

pub returns-in_default : goal.returns-in_default
returns-in_default c = few_meant _ _ _ (omega (arith, c.in_default.len_below))

pub returns-in_err-table : goal.returns-in_err-table
returns-in_err-table c =
    let a = c.args in
    no_meaning a.n a.t a.numbers.now _ _ (search rules)
    (λ e. c.in_err-table.ensures (meant_of a.n a.t a.numbers.now e).iteration)

pub returns-in_err-place : goal.returns-in_err-place
returns-in_err-place c =
    let a = c.args in
    no_meaning a.n a.t a.numbers.now _ _ (search rules)
    (λ e. c.in_err-place.ensures (meant_placed a.n a.t a.numbers.now e))

pub overflow_mul-result : goal.overflow_mul-result
overflow_mul-result c = omega (arith, place_of (place_at c))

pub overflow_add-result : goal.overflow_add-result
overflow_add-result c = omega (arith, place_of (place_at c), begins_of c)

pub returns : goal.returns
unfolding say_at
returns c =
    let d = place_at c in
    let i = d.in_ok-table.ensures in (
      meant_at d,
      ap₂ (λ (begins place : ℕ). begins + 8 * place)
          (begins_inside _ _ _ c.table_begins.ensures d.requires.0 d.requires.1
          ∙ ap (table_begins d.args.n) i.1)
          d.in_ok-place.ensures.1,
    )

-- `listing::table_begins` meets its contract: inside 1 to 13 the table by n is the formula, and 255 times its bytes
-- are few; outside both sides are 0. Assumes nothing.
use mathlib.Core.Path.{◌≡◌, sym, ap, ◌∙◌}
use Prim.Native.Nat.{ℕ, ◌+◌, ◌*◌, ◌≤◌}
use native.Mathlib.Nat.{mul-le-mul}
use native.Mathlib.Omega.{arith}
use Rattle.sizes.specs.Sizes.{table_rows}
use Rattle.sizes.proofs.Laws.{inside, by_n_inside, by_n_low, by_n_high, table_le}
use Rattle.runfile.specs.File.{heading_bytes}
use Rattle.listing.specs.File.{table_bytes, table_begins, begins_reply}
use Rattle.listing.proofs.Behind.{rows_inside}
use borrow.Author.Rules.{rules}
use Rattle.listing.proofs.table_begins.Reads as Reads
use Rattle.listing.proofs.table_begins.Goals as goal
use Rattle.listing.proofs.table_begins.Goals.{After-table_rows}

-- inside 1 to 13: n, the rows of a table, and the bytes of so many tables
inside_of : (c : After-table_rows) → (1 ≤ c.args.n) × (c.args.n ≤ 13)
inside_of c = (search rules, search rules)

rows_of : (c : After-table_rows) → c.table_rows.result ≡ table_rows c.args.n
rows_of c = rows_inside _ _ c.table_rows.ensures (inside_of c).0 (inside_of c).1

most_of : (c : After-table_rows) →
    (8 * c.table_rows.result ≤ 36504)
    × (c.args.m * (8 * c.table_rows.result) ≤ 255 * 36504)
most_of c =
    let one : 8 * c.table_rows.result ≤ 36504 = omega (arith, rows_of c, table_le (inside_of c).1) in
    let few : c.args.m ≤ 255 = search rules in
    (one, mul-le-mul few one)

-- the contract admits one reply
pub only_one : (κs : _) (a : _) (r s : _) (x y : _) → Reads.Post κs a r x → Reads.Post κs a s y → r ≡ s
only_one κs a r s x y p q = p ∙ sym q

pub overflow_mul-result-in-1-to-13 : goal.overflow_mul-result-in-1-to-13
overflow_mul-result-in-1-to-13 c = omega (arith, most_of c)

pub overflow_mul-result-in-1-to-13-2 : goal.overflow_mul-result-in-1-to-13-2
overflow_mul-result-in-1-to-13-2 c = omega (arith, most_of c)

pub overflow_add-result-in-1-to-13 : goal.overflow_add-result-in-1-to-13
overflow_add-result-in-1-to-13 c = omega (arith, most_of c, (inside_of c).1)

pub returns-in-1-to-13 : goal.returns-in-1-to-13
unfolding begins_reply table_begins table_bytes heading_bytes
returns-in-1-to-13 c =
    let a = c.args in
    ap (λ (rows : ℕ). 9 + 8 * a.n + a.m * (8 * rows)) (rows_of c)
    ∙ sym (by_n_inside (λ k. table_begins k a.m) _ (inside _ (inside_of c).0 (inside_of c).1))

pub returns-in_default : goal.returns-in_default
unfolding begins_reply
returns-in_default c = by_n_low (λ k. table_begins k c.args.m) c.args.n (search rules)

pub returns-in_default-2 : goal.returns-in_default-2
unfolding begins_reply
returns-in_default-2 c = by_n_high (λ k. table_begins k c.args.m) c.args.n (search rules)

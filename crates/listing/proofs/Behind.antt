-- Where a table begins, as a call gives it: inside 1 to 13 it is the formula, which grows with the tables, and a file
-- of the largest has 182,633 bytes. Assumes nothing.
use mathlib.Core.Path.{◌≡◌, ◌∙◌}
use Prim.Native.Nat.{ℕ, ◌≤◌}
use native.Mathlib.Nat.{mul-le-mul}
use native.Mathlib.Omega.{arith}
use Rattle.sizes.specs.Sizes.{table_rows, by_n}
use Rattle.sizes.proofs.Laws.{inside, by_n_inside, table_le}
use Rattle.runfile.specs.File.{heading_bytes}
use Rattle.listing.specs.File.{table_bytes, table_begins, begins_reply}

-- how many rows a table has, as a call gives it
pub rows_inside : (n r : ℕ) → r ≡ by_n table_rows n → 1 ≤ n → n ≤ 13 → r ≡ table_rows n
rows_inside n r e low high = e ∙ by_n_inside table_rows n (inside n low high)

pub begins_inside : (n m r : ℕ) → r ≡ begins_reply n m → 1 ≤ n → n ≤ 13 → r ≡ table_begins n m
unfolding begins_reply
begins_inside n m r e low high = e ∙ by_n_inside (λ k. table_begins k m) n (inside n low high)

pub tables_most : (n m : ℕ) → n ≤ 13 → m ≤ 5 → table_begins n m ≤ 182633
unfolding table_begins table_bytes heading_bytes
tables_most n m high few =
    let bytes : table_bytes n ≤ 36504 = omega (arith, table_le high) in
    omega (arith, mul-le-mul few bytes)

pub begins_most : (n m r : ℕ) → r ≡ begins_reply n m → 1 ≤ n → n ≤ 13 → m ≤ 5 → r ≤ 182633
begins_most n m r e low high few = omega (arith, begins_inside n m r e low high, tables_most n m high few)

-- Places in the table and in 169 cells: each is a number written with the digits sender, receiver and leader in base
-- n, so it is below n² or n³, and n is at most 13. Assumes nothing.
use Prim.Native.Nat.{ℕ, ◌+◌, ◌*◌, ◌≤◌, ◌<◌}
use native.Mathlib.Omega.{arith}
use lib.Arith.{digits_lt}
use Rattle.sizes.specs.Sizes.{table_rows}

module _ {n : ℕ} where
  -- two digits in base n
  pub two_digits : {a b : ℕ} → a < n → b < n → a * n + b < n * n
  two_digits ha hb = digits_lt ha hb

  -- three digits in base n
  pub three_digits : {a b c : ℕ} → a < n → b < n → c < n → (a * n + b) * n + c < n * n * n
  three_digits ha hb hc = digits_lt (two_digits ha hb) hc

-- the rows of step 1, of step 2 and of step 3 lie within the table
pub first_fits : (n : ℕ) → n * n ≤ table_rows n
unfolding table_rows
first_fits n = omega arith

pub second_fits : (n : ℕ) → n * n + n * n * n ≤ table_rows n
unfolding table_rows
second_fits n = omega arith

pub third_fits : (n : ℕ) → n * n + n * n * n + n * n * n ≤ table_rows n
unfolding table_rows
third_fits n = omega arith

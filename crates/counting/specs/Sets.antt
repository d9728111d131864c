-- A set of boxes in one number: box k, counted from 0, is in the set where bit k is 1.
use Rattle.std.specs.Prelude.{ℕ, ◌/◌, ◌%◌, ◌^◌, Bool, cond, eqb}
use Rattle.counting.specs.Count.{sum}

-- is box k in the set s?
unfoldable pub member : ℕ → ℕ → Bool
member s k = eqb (s / 2 ^ k % 2) 1

-- the set of the k below n that pass the test p
unfoldable pub set_of : ℕ → (ℕ → Bool) → ℕ
set_of n p = sum n (λ k. cond (p k) (2 ^ k) 0)

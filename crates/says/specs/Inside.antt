-- What the private functions and the lemmas say of a line `say`. No promise of the crate names any of it.
use Rattle.std.specs.Prelude.{ℕ, ◌+◌, ◌≤◌, ◌≡◌, true, List, length}
use Rattle.says.specs.Say.{iteration_in, step_in, sender_in, receiver_in, leader_in, fits_step}

-- is 1 to a limit
pub record Among (limit number : ℕ) : Type 0 where
  pub low : 1 ≤ number
  pub high : number ≤ limit

-- what a line `say` that is understood has: its numbers are in their ranges, and a step other than 1 has a leader
pub record Meant (n t : ℕ) (numbers : List ℕ) : Type 0 where
  pub five : 5 ≤ length numbers
  pub iteration : Among (t + 1) (iteration_in numbers)
  pub step : Among 3 (step_in numbers)
  pub sender : Among n (sender_in numbers)
  pub receiver : Among n (receiver_in numbers)
  pub leader : (step_in numbers ≡ 1 → ⊥) → Among n (leader_in numbers)

-- what a line `say` has that names a place of a table: numbers as its step asks, a sender and a receiver
pub record Placed (n : ℕ) (numbers : List ℕ) : Type 0 where
  pub fits : fits_step n numbers ≡ true
  pub sender : Among n (sender_in numbers)
  pub receiver : Among n (receiver_in numbers)

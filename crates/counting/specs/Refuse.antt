-- Numbered refusals: an ordered list of a test and its number. The first test that holds gives the refusal, and 0 is
-- none.
use Rattle.std.specs.Prelude.{ℕ, Bool, cond, List, [], ◌∷◌}

-- the number that is given where the test holds
pub data Refusal : Type 0 where
  refuse : ℕ → Bool → Refusal

-- the number of the first test that holds, or 0
unfoldable pub first_of : List Refusal → ℕ
first_of [] = 0
first_of (Refusal.refuse number test ∷ rest) = cond test number (first_of rest)

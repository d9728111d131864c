-- What a caller may read from the support in a grade's reply.
use Rattle.std.specs.Prelude.{ℕ, ◌+◌, ◌*◌, ◌≤◌, ◌<◌, ◌≡◌, List, ◌↔◌, length, get_or}
use Rattle.tally.specs.declared.Graded.{Graded}

-- a confidence is the one that the support gives, both ways for each of the three
pub record Fits (t support confidence : ℕ) : Type 0 where
  pub none : (confidence ≡ 0) ↔ (support ≤ t)
  pub one : (confidence ≡ 1) ↔ ((t < support) × (support < 2 * t + 1))
  pub two : (confidence ≡ 2) ↔ (2 * t + 1 ≤ support)

-- of the reply to a grade of these rows that is not refused
pub record SupportSays (rows : List ℕ) (t : ℕ) (r : Graded) : Type 0 where
  -- it is 0 where every row is 0, and only there
  pub nothing_heard : (r.support ≡ 0) ↔ ((k : ℕ) → k < length rows → get_or rows k 0 ≡ 0)
  -- it is at most n
  pub at_most_n : r.support ≤ length rows
  -- and it gives the confidence
  pub gives : Fits t r.support r.confidence

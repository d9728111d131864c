-- The numbers that are allowed (docs/SCOPE.md): boxes, the tolerated, a set of boxes, the rows of a table. Boxes
-- count from 0 here.
use Rattle.std.specs.Prelude.{
  ℕ,
  ◌+◌,
  ◌-◌,
  ◌*◌,
  ◌/◌,
  ◌^◌,
  ◌≤◌,
  ◌<◌,
  ◌≡◌,
  Bool,
  false,
  cond,
  not,
  ◌&&◌,
  ◌||◌,
  List,
  [],
  ◌∷◌,
  eqb,
  leb,
  ltb,
  length,
  get_or,
}
use Rattle.counting.specs.Count.{any}
use Rattle.counting.specs.Sets.{member}
use Rattle.counting.specs.Refuse.{first_of}
use Rattle.counting.specs.Refuse.Refusal.{refuse}

-- refusal 4: n outside 1 to 13
unfoldable pub outside : ℕ → Bool
outside n = ltb n 1 || ltb 13 n

-- refusal 5: 3t not less than n
unfoldable pub too_many : ℕ → ℕ → Bool
too_many n t = leb n (3 * t)

-- refusal 6: the set has a bit at place n or above
unfoldable pub stray : ℕ → ℕ → Bool
stray n set = leb (2 ^ n) set

-- refusals 4 and 5, of n boxes, or n rows, and t
unfoldable pub size_refusal : ℕ → ℕ → ℕ
size_refusal n t = first_of (refuse 4 (outside n) ∷ refuse 5 (too_many n t) ∷ [])

-- what passes them
pub record Sized (n t : ℕ) : Type 0 where
  pub low : 1 ≤ n
  pub high : n ≤ 13
  pub tolerated : 3 * t < n

-- is box j sound, that is, not named faulty?
unfoldable pub sound : ℕ → ℕ → Bool
sound faulty j = not (member faulty j)

-- refusal 9: a sound box's row is 0
unfoldable pub sound_zero : ℕ → ℕ → List ℕ → Bool
sound_zero n faulty rows = any n (λ k. sound faulty k && eqb (get_or rows k 0) 0)

-- the largest t with 3t less than n
unfoldable pub largest_t : ℕ → ℕ
largest_t n = (n - 1) / 3

-- rows in one iteration's table: n² for step 1, n³ for step 2 and n³ for step 3
unfoldable pub table_rows : ℕ → ℕ
table_rows n = n * n + 2 * (n * n * n)

-- what the tables by n give: the formula for n from 1 to 13, and 0 outside
unfoldable pub by_n : (ℕ → ℕ) → ℕ → ℕ
by_n formula n = cond (outside n) 0 (formula n)

-- what a start takes: it passes refusals 4, 5, 6, 11 and 9
pub record Startable (n t faulty : ℕ) (rows : List ℕ) : Type 0 where
  pub pass4 : outside n ≡ false
  pub pass5 : too_many n t ≡ false
  pub pass6 : stray n faulty ≡ false
  pub pass11 : length rows ≡ n
  pub pass9 : sound_zero n faulty rows ≡ false

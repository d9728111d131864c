-- The grades of step 4 are those of a column: confidence at most 2, and row 0 with confidence 0 and only there.
-- Assumes nothing.
use mathlib.Core.Path.{◌≡◌, refl}
use mathlib.Core.List.{List}
use Prim.Native.Nat.{ℕ, ◌≤◌}
use native.Mathlib.Omega.{arith}
use Rattle.tally.specs.Tally.{confidence_at, confidence_of}
use Rattle.tally.proofs.Laws.{confidence_le, graded_none, graded_counts}
use Rattle.gradecast.specs.Steps.{column3, confidence, grade_row, support_for}

-- a confidence that is not 0 is 1 or more
pub positive : {c : ℕ} → (c ≡ 0 → ⊥) → 1 ≤ c
positive z = omega (arith, z)

module _ (n t faulty : ℕ) (rows lists table : List ℕ) (i k : ℕ) where
  -- the confidence is the one that the support gives
  pub confidence_by : confidence n t faulty rows lists table i k ≡
      confidence_at t (support_for n t faulty rows lists table i k)
  unfolding confidence confidence_of support_for
  confidence_by = refl

  pub at_most_2 : confidence n t faulty rows lists table i k ≤ 2
  unfolding confidence
  at_most_2 = confidence_le t (column3 n t faulty rows lists table i k)

  pub row_none : confidence n t faulty rows lists table i k ≡ 0 → grade_row n t faulty rows lists table i k ≡ 0
  unfolding confidence grade_row
  row_none = graded_none t (column3 n t faulty rows lists table i k)

  pub row_not_zero : (confidence n t faulty rows lists table i k ≡ 0 → ⊥) →
      grade_row n t faulty rows lists table i k ≡ 0 → ⊥
  unfolding confidence grade_row
  row_not_zero z = (graded_counts t (column3 n t faulty rows lists table i k) z).0

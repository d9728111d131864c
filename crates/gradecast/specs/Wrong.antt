-- A wrong step 4, defined so that a theorem can tell it from the right one: it goes by the list as it grows within the
-- iteration. A box grades leader by leader, and hears nothing more from a leader that it has just listed. Neither the
-- code nor any promise uses this.
use Rattle.std.specs.Prelude.{ℕ, zero, suc, ◌+◌, ◌^◌, cond, ◌||◌, List, eqb, get_or}
use Rattle.counting.specs.Count.{build}
use Rattle.counting.specs.Sets.{member}
use Rattle.tally.specs.Tally.{confidence_of}
use Rattle.gradecast.specs.Steps.{place3, sends, hears, sent3}

-- the list after leader k is found with this confidence: with 0 or 1 the leader joins it
unfoldable pub joined : ℕ → ℕ → ℕ → ℕ
joined list k found = cond (eqb found 2 || member list k) list (list + 2 ^ k)

module _ (n t faulty : ℕ) (rows lists table : List ℕ) (i : ℕ) where
  -- the confidence of box i in leader k, where it hears step 3 by this list
  unfoldable pub confidence_through : ℕ → ℕ → ℕ
  confidence_through list k =
      confidence_of t
      (build n (λ j. hears list j (sends faulty table j (place3 n j i k) (sent3 n t faulty rows lists table j k))))

  -- its list when it comes to leader k: those below k with confidence 0 or 1, so found, have joined it
  unfoldable pub list_at : ℕ → ℕ
  list_at zero = get_or lists i 0
  list_at (suc k) = joined (list_at k) k (confidence_through (list_at k) k)

  -- the confidence of box i in leader k by the list as it grows
  unfoldable pub growing_confidence : ℕ → ℕ
  growing_confidence k = confidence_through (list_at k) k

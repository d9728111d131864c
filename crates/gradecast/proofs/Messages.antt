-- The messages of one iteration. A sound box sends the same number of non-zero rows to each of the n − 1 others, so
-- the sum over receivers is n − 1 times that number; it is at most one row in step 1 and n in each of steps 2 and 3.
-- Assumes nothing.
use mathlib.Core.Path.{◌≡◌, refl, sym, ap, ◌∙◌, subst}
use mathlib.Core.Bool.{Bool, true, false, cond, not, ◌&&◌}
use mathlib.Core.List.{List}
use Prim.Native.Nat.{ℕ, ◌+◌, ◌-◌, ◌*◌, ◌≤◌}
use native.Mathlib.Nat.{mul_assoc, mul_comm, mul-le-mul, mul-le-mul_left}
use native.Mathlib.Omega.{arith}
use lib.Dec.{eqb}
use Rattle.counting.specs.Count.{sum}
use Rattle.counting.proofs.Count.{sum_ext, sum_others, sum_scale, sum_at_most, count_le}
use Rattle.sizes.specs.Sizes.{sound}
use Rattle.gradecast.specs.Steps.{sent1, sent2, sent3, receives, sent_to, messages, message_limit}

module _ (n t faulty : ℕ) (rows lists table : List ℕ) where
  -- the non-zero rows that a sound box j sends to any one box, as to the first
  abbrev pub sent_by_one : ℕ → ℕ
  sent_by_one j = sent_to n t faulty rows lists table j 0

  -- and those of any box j: a faulty one's do not count
  abbrev by_one : ℕ → ℕ
  by_one j = cond (sound faulty j) (sent_by_one j) 0

  -- what box j sends to box i: nothing where it is faulty or i is j itself
  abbrev to_one : ℕ → ℕ → ℕ
  to_one j i = cond (sound faulty j && receives j i) (sent_by_one j) 0

  cond_and : (b c : Bool) (x : ℕ) → cond (b && c) x 0 ≡ cond c (cond b x 0) 0
  cond_and true c x = refl
  cond_and false true x = refl
  cond_and false false x = refl

  -- the quick formula
  pub messages_quick : messages n t faulty rows lists table ≡ (n - 1) * sum n by_one
  unfolding messages sent_to
  messages_quick =
      sum_ext n (λ j. sum n (to_one j)) (λ j. (n - 1) * by_one j)
      (λ j l.
      sum_ext n (to_one j) (λ i. cond (receives j i) (by_one j) 0)
      (λ i m. cond_and (sound faulty j) (receives j i) (sent_by_one j))
      ∙ sum_others n j (by_one j) l)
      ∙ sum_scale n (n - 1) by_one

  one_at_most : (b : Bool) → cond b 0 1 ≤ 1
  one_at_most true = omega arith
  one_at_most false = omega arith

  at_most : (b : Bool) (j : ℕ) → cond b (sent_by_one j) 0 ≤ 1 + 2 * n
  unfolding sent_to
  at_most true j =
      omega (
        arith,
        one_at_most (eqb (sent1 rows j) 0),
        count_le n (λ k. not (eqb (sent2 n faulty rows lists table j k) 0)),
        count_le n (λ k. not (eqb (sent3 n t faulty rows lists table j k) 0)),
      )
  at_most false j = omega arith

  -- one iteration keeps within its limit
  pub messages_bound : messages n t faulty rows lists table ≤ message_limit n
  messages_bound =
      rw messages_quick
      (subst (λ (m : ℕ). (n - 1) * sum n by_one ≤ m) size
      (mul-le-mul_left (n - 1) (sum_at_most n (1 + 2 * n) by_one (λ j l. at_most (sound faulty j) j))))
    where
      size : (n - 1) * (n * (1 + 2 * n)) ≡ n * (n - 1) * (1 + 2 * n)
      size = sym (mul_assoc (n - 1) n (1 + 2 * n)) ∙ ap (λ (m : ℕ). m * (1 + 2 * n)) (mul_comm (n - 1) n)

-- n is at most 13. So these are small, whatever k is taken off: n − k boxes, the pairs of a box and one of those, and
-- the rows between such pairs.
module _ {n : ℕ} (k : ℕ) (high : n ≤ 13) where
  pub others_le : n - k ≤ 13 - k
  others_le = omega arith

  pub pairs_le : n * (n - k) ≤ 13 * (13 - k)
  pairs_le = mul-le-mul high others_le

  pub between_le : n * (n - k) * (1 + 2 * n) ≤ 13 * (13 - k) * 27
  between_le = let rows : 1 + 2 * n ≤ 27 = omega arith in mul-le-mul pairs_le rows

-- so one iteration sends at most 4,212
pub limit_le : {n : ℕ} → n ≤ 13 → message_limit n ≤ 4212
limit_le = between_le 1

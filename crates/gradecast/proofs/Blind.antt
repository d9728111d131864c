-- The table is read in faulty senders' places only, so two tables that say the same there give the same at every step:
-- what is heard in step 1, then the votes, then the grades and the messages. Assumes nothing.
use mathlib.Core.Path.{◌≡◌, refl, sym, ap, ap₂, ◌∙◌}
use mathlib.Core.Bool.{Bool, true, false, cond, not}
use mathlib.Core.List.{List}
use Prim.Native.Nat.{ℕ, ◌+◌, ◌-◌, ◌*◌, ◌<◌}
use lib.Dec.{eqb}
use lib.ListN.{get_or}
use Rattle.counting.specs.Count.{count}
use Rattle.counting.specs.Sets.{member}
use Rattle.counting.proofs.Build.{build_ext}
use Rattle.counting.proofs.Count.{sum_ext, count_ext}
use Rattle.sizes.specs.Sizes.{sound}
use Rattle.tally.specs.Tally.{vote_of, confidence_of, graded_row, support_of}
use Rattle.gradecast.specs.Steps.{place1, place2, place3, sends, hears, sent1, heard1, heard2, column2, sent_to}
use Rattle.gradecast.specs.Steps.{voted, heard3, column3, confidence, grade_row, support_for, messages}
use Rattle.gradecast.specs.Lies.{SameLies}
use Rattle.gradecast.proofs.Messages.{sent_by_one, messages_quick}

module _ (n t faulty : ℕ) (rows lists a b : List ℕ) (same : SameLies n faulty a b) where
  heard_same : (i j place x y : ℕ) → (member faulty j ≡ true → get_or a place 0 ≡ get_or b place 0) → x ≡ y →
      hears (get_or lists i 0) j (sends faulty a j place x) ≡
      hears (get_or lists i 0) j (sends faulty b j place y)
  unfolding hears sends
  heard_same i j place x y h e = ap (λ (m : ℕ). cond (member (get_or lists i 0) j) 0 m) (go (member faulty j) h)
    where
      go : (c : Bool) → (c ≡ true → get_or a place 0 ≡ get_or b place 0) →
          cond c (get_or a place 0) x ≡ cond c (get_or b place 0) y
      go true f = f refl
      go false f = e

  heard1_same : (i k : ℕ) → i < n → k < n → heard1 n faulty rows lists a i k ≡ heard1 n faulty rows lists b i k
  unfolding heard1
  heard1_same i k li lk =
      heard_same i k (place1 n k i) (get_or rows k 0) (get_or rows k 0) (λ f. same.step1 k i lk li f) refl

  pub voted_same : (i k : ℕ) → i < n → k < n → voted n t faulty rows lists a i k ≡ voted n t faulty rows lists b i k
  unfolding voted column2 heard2
  voted_same i k li lk =
      ap (vote_of t)
      (build_ext n (λ j. heard2 n faulty rows lists a i j k) (λ j. heard2 n faulty rows lists b i j k)
      (λ j lj.
      heard_same i j (place2 n j i k) (heard1 n faulty rows lists a j k) (heard1 n faulty rows lists b j k)
      (λ f. same.step2 j i k lj li lk f) (heard1_same j k lj lk)))

  column3_same : (i k : ℕ) → i < n → k < n → column3 n t faulty rows lists a i k ≡ column3 n t faulty rows lists b i k
  unfolding column3 heard3
  column3_same i k li lk =
      build_ext n (λ j. heard3 n t faulty rows lists a i j k) (λ j. heard3 n t faulty rows lists b i j k)
      (λ j lj.
      heard_same i j (place3 n j i k) (voted n t faulty rows lists a j k) (voted n t faulty rows lists b j k)
      (λ f. same.step3 j i k lj li lk f) (voted_same j k lj lk))

  pub confidence_same : (i k : ℕ) → i < n → k < n →
      confidence n t faulty rows lists a i k ≡ confidence n t faulty rows lists b i k
  unfolding confidence
  confidence_same i k li lk = ap (confidence_of t) (column3_same i k li lk)

  pub support_same : (i k : ℕ) → i < n → k < n →
      support_for n t faulty rows lists a i k ≡ support_for n t faulty rows lists b i k
  unfolding support_for
  support_same i k li lk = ap support_of (column3_same i k li lk)

  pub grade_row_same : (i k : ℕ) → i < n → k < n →
      grade_row n t faulty rows lists a i k ≡ grade_row n t faulty rows lists b i k
  unfolding grade_row
  grade_row_same i k li lk = ap (graded_row t) (column3_same i k li lk)

  pub messages_same : messages n t faulty rows lists a ≡ messages n t faulty rows lists b
  unfolding sent_to
  messages_same =
      messages_quick n t faulty rows lists a
      ∙ ap (λ (m : ℕ). (n - 1) * m)
      (sum_ext n (λ j. cond (sound faulty j) (sent_by_one n t faulty rows lists a j) 0)
      (λ j. cond (sound faulty j) (sent_by_one n t faulty rows lists b j) 0)
      (λ j lj. ap (λ (m : ℕ). cond (sound faulty j) m 0) (by_one j lj)))
      ∙ sym (messages_quick n t faulty rows lists b)
    where
      non_zeros : (f g : ℕ → ℕ) → ((k : ℕ) → k < n → f k ≡ g k) →
          count n (λ k. not (eqb (f k) 0)) ≡ count n (λ k. not (eqb (g k) 0))
      non_zeros f g h =
          count_ext n (λ k. not (eqb (f k) 0)) (λ k. not (eqb (g k) 0)) (λ k l. ap (λ (m : ℕ). not (eqb m 0)) (h k l))

      by_one : (j : ℕ) → j < n → sent_by_one n t faulty rows lists a j ≡ sent_by_one n t faulty rows lists b j
      by_one j lj =
          ap₂ (λ (x y : ℕ). cond (eqb (sent1 rows j) 0) 0 1 + x + y)
          (non_zeros (heard1 n faulty rows lists a j) (heard1 n faulty rows lists b j)
          (λ k lk. heard1_same j k lj lk))
          (non_zeros (voted n t faulty rows lists a j) (voted n t faulty rows lists b j)
          (λ k lk. voted_same j k lj lk))

-- The number of messages as the code counts it: the rows of step 1, the cells of step 2 and the cells of step 3 that
-- are not 0, each sent to the n − 1 others. It is the definition's sum over senders and receivers, since a faulty
-- box's cells are 0.
-- Assumes nothing.
use mathlib.Core.Path.{◌≡◌, refl, sym, ap, ap₂, ◌∙◌}
use mathlib.Core.Bool.{Bool, true, false, cond, not, ◌&&◌}
use mathlib.Core.List.{List}
use Prim.Native.Nat.{ℕ, ◌+◌, ◌-◌, ◌*◌, ◌/◌, ◌%◌}
use lib.Dec.{eqb}
use lib.ListN.{get_or, take, replicate}
use Rattle.counting.specs.Count.{sum, count, build}
use Rattle.counting.proofs.Bools.{cond_true, cond_false}
use Rattle.counting.proofs.Build.{front_take, length_build, get_or_build}
use Rattle.counting.proofs.Count.{count_ext, count_none, count_rows, count_sum, sum_ext, sum_add}
use Rattle.sizes.specs.Sizes.{sound}
use Rattle.gradecast.specs.Steps.{sent1, sent2, sent3, messages, sent_to}
use Rattle.gradecast.specs.Cast.{of_sound, cells_to, cells}
use Rattle.gradecast.specs.declared.Settings.{Settings}
use Rattle.gradecast.specs.Inside.{SaidSecond, SaidThird, filled, sends_first}
use Rattle.gradecast.proofs.Messages.{sent_by_one, messages_quick}

-- the cells of n rows of n that are not 0, row by row
pub filled_cells : (n faulty : ℕ) (f : ℕ → ℕ → ℕ) (xs : List ℕ) → xs ≡ cells n (of_sound faulty f) →
    filled (take (n * n) xs) ≡ sum n (λ j. cond (sound faulty j) (count n (λ k. not (eqb (f j k) 0))) 0)
unfolding cells cells_to of_sound
filled_cells n faulty f xs e =
    ap (λ (ys : List ℕ). filled (take (n * n) ys)) e
    ∙ ap filled (front_take (n * n) cell (replicate 169 0))
    ∙ ap (λ (m : ℕ). count m (λ k. not (eqb (get_or (build (n * n) cell) k 0) 0))) (length_build (n * n) cell)
    ∙ count_ext (n * n) (λ k. not (eqb (get_or (build (n * n) cell) k 0) 0)) (λ q. is (q / n) (q % n))
    (λ k l. ap (λ (v : ℕ). not (eqb v 0)) (get_or_build (n * n) cell k 0 l))
    ∙ count_rows n n is
    ∙ sum_ext n (λ j. count n (is j)) (λ j. cond (sound faulty j) (count n (λ k. not (eqb (f j k) 0))) 0)
    (λ j l. of_row j (sound faulty j) refl)
  where
    cell : ℕ → ℕ
    cell q = of_sound faulty f (q / n) (q % n)

    is : ℕ → ℕ → Bool
    is j k = not (eqb (of_sound faulty f j k) 0)

    of_row : (j : ℕ) (b : Bool) → sound faulty j ≡ b →
        count n (is j) ≡ cond (sound faulty j) (count n (λ k. not (eqb (f j k) 0))) 0
    of_row j true h =
        count_ext n (is j) (λ k. not (eqb (f j k) 0)) (λ k l. ap (λ (b : Bool). not (eqb (cond b (f j k) 0) 0)) h)
        ∙ sym (cond_true _ 0 h)
    of_row j false h =
        count_none n (is j) (λ k l. ap (λ (b : Bool). not (eqb (cond b (f j k) 0) 0)) h)
        ∙ sym (cond_false _ 0 h)

parted : (b : Bool) (x y z : ℕ) → cond b (x + y + z) 0 ≡ cond b x 0 + cond b y 0 + cond b z 0
parted true x y z = refl
parted false x y z = refl

first : (b c : Bool) → ◌≡◌ {A = ℕ} (cond (b && not c) 1 0) (cond b (cond c 0 1) 0)
first true true = refl
first true false = refl
first false c = refl

module _ (s : Settings) (rows lists table second third : List ℕ) where
  abbrev n : ℕ
  n = s.n

  -- what sound box j sends in each step, and 0 for a faulty one
  abbrev in_step1 : ℕ → ℕ
  in_step1 j = cond (sound s.faulty j) (cond (eqb (sent1 rows j) 0) 0 1) 0

  abbrev in_step2 : ℕ → ℕ
  in_step2 j =
      cond (sound s.faulty j) (count n (λ k. not (eqb (sent2 n s.faulty rows lists table j k) 0))) 0

  abbrev in_step3 : ℕ → ℕ
  in_step3 j =
      cond (sound s.faulty j) (count n (λ k. not (eqb (sent3 n s.t s.faulty rows lists table j k) 0))) 0

  boxes : count n (sends_first s.faulty rows) ≡ sum n in_step1
  boxes =
      count_sum n (sends_first s.faulty rows)
      ∙ sum_ext n (λ j. cond (sends_first s.faulty rows j) 1 0) in_step1
      (λ j l. first (sound s.faulty j) (eqb (sent1 rows j) 0))

  -- the three counts together, n − 1 times
  pub messages_counted : SaidSecond s lists table second rows → SaidThird s lists table third rows →
      (n - 1) * (count n (sends_first s.faulty rows) + filled (take (n * n) second) + filled (take (n * n) third)) ≡
      messages n s.t s.faulty rows lists table
  unfolding sent_to
  messages_counted e₂ e₃ =
      ap (λ (m : ℕ). (n - 1) * m)
      (ap₂ ◌+◌ (ap₂ ◌+◌ boxes (filled_cells n s.faulty _ second e₂)) (filled_cells n s.faulty _ third e₃)
      ∙ ap (λ (m : ℕ). m + sum n in_step3) (sym (sum_add n in_step1 in_step2))
      ∙ sym (sum_add n (λ j. in_step1 j + in_step2 j) in_step3)
      ∙ sum_ext n (λ j. in_step1 j + in_step2 j + in_step3 j)
      (λ j. cond (sound s.faulty j) (sent_by_one n s.t s.faulty rows lists table j) 0)
      (λ j l. sym (parted (sound s.faulty j) _ _ _)))
      ∙ sym (messages_quick n s.t s.faulty rows lists table)

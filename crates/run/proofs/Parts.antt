-- Step 5 reads box i's part of the 169 places, from i * n to i * n + n: it is the list of the leaders' rows, or
-- confidences, that the definitions give box i. So the row, the list and the reasons from that part are those of the
-- definitions. Assumes nothing.
use mathlib.Core.Path.{◌≡◌, sym, ap, ap₂, ◌∙◌, subst}
use mathlib.Core.Bool.{false, cond, ◌||◌}
use mathlib.Core.List.{List}
use Prim.Native.Nat.{ℕ, ◌+◌, ◌*◌, ◌≤◌, ◌<◌}
use native.Mathlib.Omega.{arith}
use lib.Dec.{eqb, ltb}
use lib.ListN.{length, get_or}
use Rattle.counting.specs.Count.{build}
use Rattle.counting.specs.Sets.{member, set_of}
use Rattle.counting.proofs.Build.{get_or_build, length_build}
use Rattle.tally.specs.Tally.{chosen_row}
use Rattle.tally.specs.Reply.{choice_reply}
use Rattle.tally.proofs.Laws.{confidence_le}
use Rattle.tally.proofs.Taken.{choice_row}
use Rattle.gradecast.specs.Fair.{SoundBox}
use Rattle.gradecast.specs.Steps.{grade_row, confidence, support_for}
use Rattle.gradecast.specs.Cast.{of_sound, cells}
use Rattle.gradecast.proofs.Boxes.{sound_not_faulty}
use Rattle.gradecast.proofs.Cells.{cells_at, part_built}
use Rattle.gradecast.proofs.Sound.{of_sound_lem}
use Rattle.run.specs.declared.Run.{Run}
use Rattle.run.specs.Inside.{GradesOf, cell_of, part, row_from, list_from}
use Rattle.run.specs.Iteration.{graded_rows, confidences, new_row, new_list}

module _ (n faulty : ℕ) (f : ℕ → ℕ → ℕ) (i : ℕ) (high : n ≤ 13) (below : i < n)
    (is_sound : member faulty i ≡ false) where
  -- a cell of a sound box's part
  pub cell_of_lem : (xs : List ℕ) → xs ≡ cells n (of_sound faulty f) → (k : ℕ) → k < n →
      get_or xs (i * n + k) 0 ≡ f i k
  cell_of_lem xs e k h =
      ap (λ (ys : List ℕ). get_or ys (i * n + k) 0) e ∙ cells_at n (of_sound faulty f) i k below h
      ∙ of_sound_lem faulty f i k is_sound

  -- the part as a list
  pub part_of : (xs : List ℕ) → length xs ≡ 169 → xs ≡ cells n (of_sound faulty f) → part n xs i ≡ build n (f i)
  part_of xs l e = part_built n i (f i) xs high below l (cell_of_lem xs e)

module _ (s : Run) (i : ℕ) (low : 1 ≤ s.n) (high : s.n ≤ 13) (box : SoundBox s.n s.faulty i)
    (table rows confs supports : List ℕ) (g : GradesOf s table rows confs supports) where
  -- what the definitions give box i
  row : ℕ → ℕ → ℕ
  row = grade_row s.n s.t s.faulty s.rows s.lists table

  conf : ℕ → ℕ → ℕ
  conf = confidence s.n s.t s.faulty s.rows s.lists table

  below : i < s.n
  below = box.below

  works : member s.faulty i ≡ false
  works = sound_not_faulty s.faulty i box.is_sound

  -- the confidence, and the support, that box i found for leader k
  pub confidence_cell : (k : ℕ) → k < s.n →
      cell_of s.n confs i k ≡ confidence s.n s.t s.faulty s.rows s.lists table i k
  unfolding cell_of conf
  confidence_cell = cell_of_lem s.n s.faulty conf i high below works confs g.found_confidences

  pub support_cell : (k : ℕ) → k < s.n →
      cell_of s.n supports i k ≡ support_for s.n s.t s.faulty s.rows s.lists table i k
  unfolding cell_of
  support_cell =
      cell_of_lem s.n s.faulty (support_for s.n s.t s.faulty s.rows s.lists table) i high below works
      supports g.found_supports

  -- the row that `choose` gives over box i's parts is the definition's choice
  choice_of : length rows ≡ 169 → length confs ≡ 169 →
      (choice_reply (part s.n rows i) (part s.n confs i)).row ≡
      chosen_row (graded_rows s table i) (confidences s table i)
  unfolding graded_rows confidences confidence row conf
  choice_of lr lc =
      ap₂ (λ (xs ys : List ℕ). (choice_reply xs ys).row)
      (part_of s.n s.faulty row i high below works rows lr g.found_rows)
      (part_of s.n s.faulty conf i high below works confs lc g.found_confidences)
      ∙ choice_row (build s.n (row i)) (build s.n (conf i))
      (omega (arith, length_build s.n (row i)))
      (omega (arith, length_build s.n (row i)))
      (length_build s.n (row i) ∙ sym (length_build s.n (conf i)))
      (λ k l. small k (omega (arith, length_build s.n (conf i))))
    where
      small : (k : ℕ) → k < s.n → get_or (build s.n (conf i)) k 0 ≤ 2
      small k l = subst (λ (m : ℕ). m ≤ 2) (sym (get_or_build s.n (conf i) k 0 l)) (confidence_le _ _)

  -- so the row from box i's part is the definition's new row
  pub row_of : length rows ≡ 169 → length confs ≡ 169 →
      row_from (get_or s.rows i 0) (part s.n rows i) (part s.n confs i) ≡ new_row s table i
  unfolding row_from new_row
  row_of lr lc = ap (λ (chosen : ℕ). cond (eqb chosen 0) (get_or s.rows i 0) chosen) (choice_of lr lc)

  -- and so is the list
  pub list_of : length confs ≡ 169 → list_from (get_or s.lists i 0) (part s.n confs i) ≡ new_list s table i
  unfolding list_from new_list confidences confidence conf
  list_of lc =
      let old = get_or s.lists i 0 in
      ap (list_from old) (part_of s.n s.faulty conf i high below works confs lc g.found_confidences)
      ∙ ap (λ (m : ℕ). set_of m (λ k. member old k || ltb (get_or (build s.n (conf i)) k 0) 2))
      (length_build s.n (conf i))

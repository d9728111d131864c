-- The places of a start, and of the next state. A sound box's place holds its row and its list, every other place 0.
-- A new row is a row that was chosen or the old row, so it is not 0 where the old row was not. A new list holds the
-- old members and the leaders with confidence 0 or 1. A box joins where it is on the new list alone, so only a sound
-- box's list is joined, and only by a box below n. Assumes nothing.
use mathlib.Core.Path.{◌≡◌, refl, sym, ap, ◌∙◌}
use mathlib.Core.Bool.{Bool, true, false, cond, not, ◌&&◌, ◌||◌}
use mathlib.Core.List.{List}
use mathlib.Core.Logic.{⊎_elim}
use Prim.Native.Nat.{ℕ, ◌+◌, ◌*◌, ◌≤◌, ◌<◌}
use native.Mathlib.Omega.{arith}
use lib.Dec.{eqb, ltb}
use lib.ListN.{get_or, get_or-replicate}
use borrow.Author.Tests.{eqb-false, ltb-true, ltb-false}
use Rattle.counting.specs.Count.{build}
use Rattle.counting.specs.Most.{most}
use Rattle.counting.specs.Sets.{member}
use Rattle.counting.proofs.Bools.{
  either,
  never,
  and_right,
  not_both,
  or_true_left,
  cond_true,
  cond_false,
}
use Rattle.counting.proofs.Build.{length_build, get_or_build}
use Rattle.counting.proofs.Sets.{member_set_of, member_above, member_empty, set_of_lt}
use Rattle.sizes.specs.Sizes.{sound}
use Rattle.tally.specs.Tally.{chosen_row}
use Rattle.tally.proofs.Laws.{chosen_all}
use Rattle.gradecast.specs.Steps.{confidence, grade_row}
use Rattle.gradecast.specs.Fair.{SoundBox}
use Rattle.gradecast.proofs.Grades.{row_none}
use Rattle.gradecast.proofs.Boxes.{is_box, box_is, no_box_lem}
use Rattle.run.specs.declared.Run.{Run}
use Rattle.run.specs.State.{start_row, start_run, no_reasons, listed_by}
use Rattle.run.specs.Iteration.{
  graded_rows,
  confidences,
  new_row,
  new_list,
  entry,
  no_reason,
  reason_from,
  reason_in,
  reason_at,
  joined,
  joins_now,
  reason_now,
  new_reason,
  next_run,
}
use Rattle.run.proofs.Listings.{reason_of}

module _ (n t faulty : ℕ) (rows : List ℕ) where
  pub start_row_lem : (k : ℕ) → n ≤ 13 → SoundBox n faulty k →
      get_or (start_run n t faulty rows).rows k 0 ≡ get_or rows k 0
  unfolding start_run start_row entry
  start_row_lem k h b =
      let l = b.below in
      get_or_build 13 (start_row n faulty rows) k 0 (omega arith)
      ∙ cond_true (get_or rows k 0) 0 (is_box b)

  pub start_unused : (k : ℕ) → k < 13 → (SoundBox n faulty k → ⊥) → get_or (start_run n t faulty rows).rows k 0 ≡ 0
  unfolding start_run start_row entry
  start_unused k l h =
      get_or_build 13 (start_row n faulty rows) k 0 l ∙ cond_false (get_or rows k 0) 0 (no_box_lem n faulty k h)

  pub start_list : (k : ℕ) → k < 13 → get_or (start_run n t faulty rows).lists k 0 ≡ 0
  unfolding start_run
  start_list k l = get_or-replicate 13 k 0 0 l

  -- nothing is kept at the start
  pub start_reason : (i k : ℕ) → i < 13 → k < 13 → reason_at (start_run n t faulty rows) i k ≡ no_reason
  unfolding start_run reason_at reason_in reason_from no_reasons no_reason
  start_reason i k li lk =
      let none = get_or-replicate {A = ℕ} 169 (13 * i + k) 0 0 (omega (arith, li, lk)) in
      λ d. record { iteration = none d; confidence = none d; support = none d }

module _ (s : Run) (table : List ℕ) where
  placed : (f : ℕ → ℕ) (k : ℕ) → s.n ≤ 13 → SoundBox s.n s.faulty k →
      get_or (build 13 (entry s.n s.faulty f)) k 0 ≡ f k
  unfolding entry
  placed f k h b =
      let l = b.below in
      get_or_build 13 (entry s.n s.faulty f) k 0 (omega arith)
      ∙ cond_true (f k) 0 (is_box b)

  pub next_row : (k : ℕ) → s.n ≤ 13 → SoundBox s.n s.faulty k →
      get_or (next_run s table).rows k 0 ≡ new_row s table k
  unfolding next_run
  next_row = placed (new_row s table)

  pub next_list : (k : ℕ) → s.n ≤ 13 → SoundBox s.n s.faulty k →
      get_or (next_run s table).lists k 0 ≡ new_list s table k
  unfolding next_run
  next_list = placed (new_list s table)

  -- a faulty box's entry, and a place at n or above: row 0 and an empty list
  pub next_unused : (k : ℕ) → k < 13 → (SoundBox s.n s.faulty k → ⊥) →
      (get_or (next_run s table).rows k 0 ≡ 0) × (get_or (next_run s table).lists k 0 ≡ 0)
  unfolding next_run entry
  next_unused k l h = (none (new_row s table), none (new_list s table))
    where
      none : (f : ℕ → ℕ) → get_or (build 13 (entry s.n s.faulty f)) k 0 ≡ 0
      none f = get_or_build 13 (entry s.n s.faulty f) k 0 l ∙ cond_false (f k) 0 (no_box_lem s.n s.faulty k h)

  -- the row that was chosen is the one found most often among the graded rows
  pub chosen_is : (i : ℕ) → chosen_row (graded_rows s table i) (confidences s table i) ≡ most (graded_rows s table i)
  unfolding graded_rows confidences
  chosen_is i =
      chosen_all (graded_rows s table i) (confidences s table i)
      (λ k l e.
      let b : k < s.n = omega (arith, length_build s.n row) in
      get_or_build s.n row k 0 b
      ∙ row_none s.n s.t s.faulty s.rows s.lists table i k (sym (get_or_build s.n sure k 0 b) ∙ e))
    where
      row : ℕ → ℕ
      row k = grade_row s.n s.t s.faulty s.rows s.lists table i k

      sure : ℕ → ℕ
      sure k = confidence s.n s.t s.faulty s.rows s.lists table i k

  pub new_row_not_zero : (k : ℕ) → (get_or s.rows k 0 ≡ 0 → ⊥) → new_row s table k ≡ 0 → ⊥
  unfolding new_row
  new_row_not_zero k z = go (eqb (chosen_row (graded_rows s table k) (confidences s table k)) 0) refl
    where
      go : (b : Bool) → eqb (chosen_row (graded_rows s table k) (confidences s table k)) 0 ≡ b →
          cond b (get_or s.rows k 0) (chosen_row (graded_rows s table k) (confidences s table k)) ≡ 0 → ⊥
      go true e = z
      go false e = eqb-false (chosen_row (graded_rows s table k) (confidences s table k)) 0 e

  -- who is on the new list
  pub new_list_member : (i k : ℕ) → k < s.n →
      member (new_list s table i) k ≡
      member (get_or s.lists i 0) k || ltb (confidence s.n s.t s.faulty s.rows s.lists table i k) 2
  unfolding new_list confidences
  new_list_member i k l =
      member_set_of s.n (λ j. member (get_or s.lists i 0) j || ltb (get_or (confidences s table i) j 0) 2) k l
      ∙ ap (λ (c : ℕ). member (get_or s.lists i 0) k || ltb c 2)
      (get_or_build s.n (λ j. confidence s.n s.t s.faulty s.rows s.lists table i j) k 0 l)

  -- nothing leaves a list
  pub list_kept : (i k : ℕ) → s.n ≤ 13 → SoundBox s.n s.faulty i → k < s.n →
      member (get_or s.lists i 0) k ≡ true →
      member (get_or (next_run s table).lists i 0) k ≡ true
  list_kept i k h b l m =
      ap (λ (list : ℕ). member list k) (next_list i h b)
      ∙ new_list_member i k l
      ∙ or_true_left (ltb (confidence s.n s.t s.faulty s.rows s.lists table i k) 2) m

  -- who is on the new list of a place
  pub next_listed : (i k : ℕ) → i < 13 → listed_by (next_run s table) i k ≡
      member (entry s.n s.faulty (new_list s table) i) k
  unfolding listed_by next_run
  next_listed i k l =
      ap (λ (list : ℕ). member list k) (get_or_build 13 (entry s.n s.faulty (new_list s table)) i 0 l)

  -- the reason at a place after the iteration
  pub next_reason : (i k : ℕ) → i < 13 → k < 13 → reason_at (next_run s table) i k ≡ new_reason s table i k
  unfolding reason_at next_run
  next_reason i k li lk = reason_of (new_reason s table) i k li lk

  -- nobody is on the list of a place without a sound box, and no box at n or above is on any
  off_list : (i k : ℕ) → (SoundBox s.n s.faulty i → ⊥) →
      member (entry s.n s.faulty (new_list s table) i) k ≡ false
  unfolding entry
  off_list i k h =
      ap (λ (list : ℕ). member list k) (cond_false (new_list s table i) 0 (no_box_lem s.n s.faulty i h))
      ∙ member_empty k

  above : (i k : ℕ) → s.n ≤ k → member (entry s.n s.faulty (new_list s table) i) k ≡ false
  unfolding entry new_list
  above i k h = go (ltb i s.n && sound s.faulty i)
    where
      go : (b : Bool) → member (cond b (new_list s table i) 0) k ≡ false
      go true =
          member_above s.n (new_list s table i) k
          (set_of_lt s.n (λ j. member (get_or s.lists i 0) j || ltb (get_or (confidences s table i) j 0) 2)) h
      go false = member_empty k

  -- and on that of a sound box those that were, and those with confidence 0 or 1
  pub entry_member : (i k : ℕ) → SoundBox s.n s.faulty i → k < s.n →
      member (entry s.n s.faulty (new_list s table) i) k ≡
      member (get_or s.lists i 0) k || ltb (confidence s.n s.t s.faulty s.rows s.lists table i k) 2
  unfolding entry
  entry_member i k b l =
      ap (λ (list : ℕ). member list k) (cond_true (new_list s table i) 0 (is_box b)) ∙ new_list_member i k l

  -- so a box that joins is one of the n, its list is that of a sound box, and it has confidence 0 or 1
  pub joins_by : (i k : ℕ) → SoundBox s.n s.faulty i → k < s.n →
      joins_now s table i k ≡
      (not (member (get_or s.lists i 0) k) &&
      ltb (confidence s.n s.t s.faulty s.rows s.lists table i k) 2)
  unfolding joins_now joined
  joins_by i k b l =
      ap (λ (new : Bool). new && not (member (get_or s.lists i 0) k)) (entry_member i k b l)
      ∙ go (member (get_or s.lists i 0) k)
      (ltb (confidence s.n s.t s.faulty s.rows s.lists table i k) 2)
    where
      go : (old low : Bool) → ((old || low) && not old) ≡ (not old && low)
      go true low = refl
      go false true = refl
      go false false = refl

  pub joins_none : (i k : ℕ) → (SoundBox s.n s.faulty i → ⊥) → joins_now s table i k ≡ false
  unfolding joins_now joined
  joins_none i k h = not_both (not (member (get_or s.lists i 0) k)) (off_list i k h)

  pub joins_above : (i k : ℕ) → s.n ≤ k → joins_now s table i k ≡ false
  unfolding joins_now joined
  joins_above i k h = not_both (not (member (get_or s.lists i 0) k)) (above i k h)

  pub reason_stays : (i k : ℕ) → i < 13 → k < 13 → joins_now s table i k ≡ false →
      reason_at (next_run s table) i k ≡ reason_at s i k
  unfolding new_reason
  reason_stays i k li lk h = next_reason i k li lk ∙ cond_false (reason_now s table i k) (reason_at s i k) h

  pub reason_joins : (i k : ℕ) → i < 13 → k < 13 → joins_now s table i k ≡ true →
      reason_at (next_run s table) i k ≡ reason_now s table i k
  unfolding new_reason
  reason_joins i k li lk h = next_reason i k li lk ∙ cond_true (reason_now s table i k) (reason_at s i k) h

  -- who joins is on the new list, and was not on the old one
  pub joins_listed : (i k : ℕ) → i < 13 → joins_now s table i k ≡
      (listed_by (next_run s table) i k && not (listed_by s i k))
  unfolding joins_now joined listed_by
  joins_listed i k li =
      ap (λ (new : Bool). new && not (member (get_or s.lists i 0) k)) (sym (next_listed i k li))

  -- a box that joins: whose list it is, and what was found
  pub record Joins (i k : ℕ) : Type 0 where
    pub of_box : SoundBox s.n s.faulty i
    pub is_one : k < s.n
    pub unsure : confidence s.n s.t s.faulty s.rows s.lists table i k < 2

  pub joins_is : (i k : ℕ) → joins_now s table i k ≡ true → Joins i k
  joins_is i k h =
      let b = its_box in
      let l = ltb-true k s.n (below (ltb k s.n) refl) in
      let both = sym (joins_by i k b l) ∙ h in
      let sure = confidence s.n s.t s.faulty s.rows s.lists table i k in
      let old = member (get_or s.lists i 0) k in
      record {
        of_box = b;
        is_one = l;
        unsure = ltb-true sure 2 (and_right (not old) (ltb sure 2) both);
      }
    where
      its_box : SoundBox s.n s.faulty i
      its_box = box_is s.n s.faulty i (⊎_elim (λ t. t)
          (λ f. never h (joins_none i k (λ b. never (is_box b) f))) (either (ltb i s.n && sound s.faulty i)))

      below : (b : Bool) → ltb k s.n ≡ b → ltb k s.n ≡ true
      below true e = e
      below false e = never h (joins_above i k (ltb-false k s.n e))

-- Rows stay as small as what they are made of: a row that is sent, heard, voted for, graded or chosen is one of the
-- state, one of the table, or 0. So a bound that those lie below holds of the next state, and of a whole run. And what
-- the other numbers of a legal state can be: a list is a set of boxes below n, and each iteration done kept
-- within its limit of messages.
-- Assumes nothing.
use mathlib.Core.Path.{◌∙◌}
use mathlib.Core.Bool.{Bool, true, false, cond, ◌&&◌}
use mathlib.Core.List.{List}
use mathlib.Core.Logic.{⊎_elim}
use Prim.Native.Nat.{ℕ, zero, suc, ◌*◌, ◌^◌, ◌≤◌, ◌<◌}
use native.Mathlib.Nat.{mul-le-mul_left}
use native.Mathlib.Omega.{arith}
use lib.Dec.{eqb, ltb}
use lib.ListN.{length, get_or, get_or-eq_default}
use borrow.Author.Tests.{ltb-true, ltb-false}
use Rattle.counting.specs.Count.{build, find}
use Rattle.counting.specs.Most.{before, best, most}
use Rattle.counting.specs.Sets.{member}
use Rattle.counting.proofs.Bools.{either}
use Rattle.counting.proofs.Build.{length_build, get_or_build}
use Rattle.counting.proofs.Count.{any_none}
use Rattle.sizes.specs.Sizes.{sound}
use Rattle.sizes.proofs.Laws.{inside_high, within_lt}
use Rattle.tally.specs.Tally.{vote_of, confidence_of, graded_row, counted, chosen_row}
use Rattle.gradecast.specs.Steps.{sends, hears, heard1, heard2, column2, voted, heard3, column3, grade_row}
use Rattle.gradecast.specs.Steps.{message_limit}
use Rattle.gradecast.specs.Fair.{SoundBox}
use Rattle.gradecast.proofs.Boxes.{is_box}
use Rattle.gradecast.proofs.Messages.{limit_le}
use Rattle.run.specs.declared.Run.{Run}
use Rattle.run.specs.declared.Next.{Next}
use Rattle.run.specs.Iteration.{graded_rows, confidences, new_row, entry, next_run}
use Rattle.run.specs.Legal.{Legal}
use Rattle.run.specs.State.{start_row, start_run, bad_place, too_many_sent, iterate_refusal, iterate_reply, after}
use Rattle.run.proofs.Entries.{bad_box_lem}

-- all numbers of a list lie below a bound
abbrev pub Below : ℕ → List ℕ → Type 0
Below bound xs = (k : ℕ) → get_or xs k 0 < bound

module _ (bound : ℕ) (some : 0 < bound) where
  -- what is picked, found, built or found most often
  pub cond_below : (b : Bool) {x y : ℕ} → x < bound → y < bound → cond b x y < bound
  cond_below true h l = h
  cond_below false h l = l

  find_below : (n : ℕ) (p : ℕ → Bool) (f : ℕ → ℕ) → ((k : ℕ) → f k < bound) → find n p f < bound
  unfolding find
  find_below zero p f h = some
  find_below (suc n) p f h = cond_below (p (f n)) (h n) (find_below n p f h)

  pub build_below : (n : ℕ) (f : ℕ → ℕ) → ((k : ℕ) → f k < bound) → Below bound (build n f)
  build_below n f h k =
      ⊎_elim
      (λ t. rw (get_or_build n f k 0 (ltb-true k n t)) (h k))
      (λ l. rw (get_or-eq_default (build n f) 0 {n = k} (omega (arith, length_build n f, ltb-false k n l))) some)
      (either (ltb k n))

  best_below : (xs : List ℕ) (k : ℕ) → Below bound xs → best xs k < bound
  unfolding best
  best_below xs zero h = some
  best_below xs (suc k) h = cond_below (before xs (best xs k) (get_or xs k 0)) (h k) (best_below xs k h)

  most_below : (xs : List ℕ) → Below bound xs → most xs < bound
  unfolding most
  most_below xs h = best_below xs (length xs) h

  -- what a sound box has in its place
  entry_below : (n faulty : ℕ) (f : ℕ → ℕ) → ((i : ℕ) → f i < bound) → Below bound (build 13 (entry n faulty f))
  unfolding entry
  entry_below n faulty f h = build_below 13 (entry n faulty f) (λ i. cond_below (ltb i n && sound faulty i) (h i) some)

  -- one iteration
  module _ (s : Run) (table : List ℕ) (held : Below bound s.rows) (lies : Below bound table) where
    heard_below : (list j place m : ℕ) → m < bound → hears list j (sends s.faulty table j place m) < bound
    unfolding hears sends
    heard_below list j place m h =
        cond_below (member list j) some (cond_below (member s.faulty j) (lies place) h)

    heard1_below : (i k : ℕ) → heard1 s.n s.faulty s.rows s.lists table i k < bound
    unfolding heard1
    heard1_below i k = heard_below _ k _ _ (held k)

    heard2_below : (i j k : ℕ) → heard2 s.n s.faulty s.rows s.lists table i j k < bound
    unfolding heard2
    heard2_below i j k = heard_below _ j _ _ (heard1_below j k)

    voted_below : (i k : ℕ) → voted s.n s.t s.faulty s.rows s.lists table i k < bound
    unfolding voted vote_of column2
    voted_below i k =
        find_below _ _ _
        (build_below s.n (λ j. heard2 s.n s.faulty s.rows s.lists table i j k)
        (λ j. heard2_below i j k))

    heard3_below : (i j k : ℕ) → heard3 s.n s.t s.faulty s.rows s.lists table i j k < bound
    unfolding heard3
    heard3_below i j k = heard_below _ j _ _ (voted_below j k)

    grade_below : (i k : ℕ) → grade_row s.n s.t s.faulty s.rows s.lists table i k < bound
    unfolding grade_row graded_row column3
    grade_below i k =
        let column = column3 s.n s.t s.faulty s.rows s.lists table i k in
        cond_below (eqb (confidence_of s.t column) 0) some
        (most_below column
        (build_below s.n (λ j. heard3 s.n s.t s.faulty s.rows s.lists table i j k)
        (λ j. heard3_below i j k)))

    chosen_below : (i : ℕ) → chosen_row (graded_rows s table i) (confidences s table i) < bound
    unfolding chosen_row counted graded_rows
    chosen_below i =
        let graded = grade_row s.n s.t s.faulty s.rows s.lists table i in
        let rows = build_below s.n graded (grade_below i) in
        most_below (counted (graded_rows s table i) (confidences s table i))
        (build_below (length (graded_rows s table i))
        (λ k. cond (eqb (get_or (confidences s table i) k 0) 0) 0 (get_or (graded_rows s table i) k 0))
        (λ k. cond_below (eqb (get_or (confidences s table i) k 0) 0) some (rows k)))

    new_row_below : (i : ℕ) → new_row s table i < bound
    unfolding new_row
    new_row_below i =
        cond_below (eqb (chosen_row (graded_rows s table i) (confidences s table i)) 0) (held i) (chosen_below i)

    next_below : Below bound (next_run s table).rows
    unfolding next_run
    next_below = entry_below s.n s.faulty (new_row s table) new_row_below

    iterate_below : Below bound (iterate_reply s table).run.rows
    unfolding iterate_reply
    iterate_below = go (eqb (iterate_refusal s table) 0)
      where
        go : (b : Bool) → Below bound (cond b (next_run s table) s).rows
        go true = next_below
        go false = held

  -- a start, and a run of several tables
  pub start_below : (n t faulty : ℕ) (rows : List ℕ) → Below bound rows → Below bound (start_run n t faulty rows).rows
  unfolding start_run start_row
  start_below n t faulty rows h = entry_below n faulty (λ k. get_or rows k 0) h

  pub after_below : (first : Next) (tables : ℕ → List ℕ) → Below bound first.run.rows →
      ((m : ℕ) → Below bound (tables m)) → (m : ℕ) → Below bound (after first tables m).run.rows
  unfolding after
  after_below first tables h l zero = h
  after_below first tables h l (suc m) =
      iterate_below (after first tables m).run (tables m) (after_below first tables h l m) (l m)

-- the other numbers of a legal state
module _ (s : Run) (legal : Legal s) where
  pub list_below : (k : ℕ) → SoundBox s.n s.faulty k → get_or s.lists k 0 < 2 ^ s.n
  unfolding bad_place
  list_below k b =
      let high = inside_high s.n legal.pass4 in
      let l = b.below in
      within_lt s.n (get_or s.lists k 0)
      (bad_box_lem s.n s.faulty k (get_or s.rows k 0) (get_or s.lists k 0) (is_box b)
      ∙ any_none 13 (bad_place s) legal.pass14_places k (omega arith))

  pub sent_within : s.sent ≤ s.done * message_limit s.n
  unfolding too_many_sent
  sent_within = ltb-false (s.done * message_limit s.n) s.sent legal.pass14_sent

  pub sent_at_most : s.sent ≤ s.done * 4212
  sent_at_most =
      let most = mul-le-mul_left s.done (limit_le (inside_high s.n legal.pass4)) in
      omega (arith, sent_within, most)

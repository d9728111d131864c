-- What a caller gets that keeps to the sizes: the vote, the grade and the choice themselves. A vote is never refused
-- by 7 then, since two rows that stand n − t times each are one row where 3t < n. Assumes nothing.
use mathlib.Core.Path.{◌≡◌, refl, sym, ap, ◌∙◌}
use mathlib.Core.Bool.{Bool, true, false, not, ◌&&◌}
use mathlib.Core.List.{List}
use Prim.Native.Nat.{ℕ, ◌*◌, ◌≤◌, ◌<◌}
use lib.Dec.{eqb, ltb}
use lib.ListN.{length, get_or}
use borrow.Author.Tests.{eq-eqb, le-ltb}
use Rattle.counting.specs.Refuse.{first_of}
use Rattle.counting.proofs.Bools.{not_of_true, cond_false}
use Rattle.counting.proofs.Count.{none_any}
use Rattle.sizes.specs.Sizes.{Sized}
use Rattle.sizes.proofs.Laws.{inside, sized_passes}
use Rattle.tally.specs.declared.Voted.{Voted}
use Rattle.tally.specs.declared.Graded.{Graded}
use Rattle.tally.specs.declared.Chosen.{Chosen}
use Rattle.tally.specs.Tally.{carried, vote_of, two_rows, support_of, confidence_of, graded_row, chosen_row, above2}
use Rattle.tally.specs.Reply.{choice_refusal, vote_reply, grade_reply, choice_reply}
use Rattle.tally.proofs.Laws.{carried_stands, carried_one}
use Rattle.tally.proofs.Replies.{vote_passes, vote_taken, grade_taken, choice_taken}

-- no two different rows stand n − t times each
pub never_two : (t : ℕ) (xs : List ℕ) → 3 * t < length xs → two_rows t xs ≡ false
unfolding two_rows
never_two t xs h = none_any (length xs) _ (λ i bi. none_any (length xs) _ (λ j bj. apart i j (is i) refl (is j) refl))
  where
    is : ℕ → Bool
    is k = carried t xs (get_or xs k 0)

    -- two carried rows are one row
    apart : (i j : ℕ) (a : Bool) → is i ≡ a → (b : Bool) → is j ≡ b →
        a && b && not (eqb (get_or xs i 0) (get_or xs j 0)) ≡ false
    apart i j false e b f = refl
    apart i j true e false f = refl
    apart i j true e true f =
        not_of_true
        (eq-eqb (get_or xs i 0) (get_or xs j 0)
        (carried_one t xs h (get_or xs i 0) (get_or xs j 0) (carried_stands t xs (get_or xs i 0) e)
        (carried_stands t xs (get_or xs j 0) f)))

module _ (xs : List ℕ) (t : ℕ) (s : Sized (length xs) t) where
  pub vote_row : (vote_reply xs t).row ≡ vote_of t xs
  vote_row =
      ap (λ (r : Voted). r.row)
      (sym
      (vote_taken xs t (vote_of t xs)
      (vote_passes xs t (sized_passes (length xs) t s) ∙ cond_false 7 0 (never_two t xs s.tolerated))
      refl))

  graded : ◌≡◌ {A = Graded}
      (record { refusal = 0; row = graded_row t xs; confidence = confidence_of t xs; support = support_of xs })
      (grade_reply xs t)
  graded = grade_taken xs t _ _ _ (sized_passes (length xs) t s) refl refl refl

  pub grade_row_lem : (grade_reply xs t).row ≡ graded_row t xs
  grade_row_lem = ap (λ (r : Graded). r.row) (sym graded)

  pub grade_confidence : (grade_reply xs t).confidence ≡ confidence_of t xs
  grade_confidence = ap (λ (r : Graded). r.confidence) (sym graded)

  pub grade_support : (grade_reply xs t).support ≡ support_of xs
  grade_support = ap (λ (r : Graded). r.support) (sym graded)

-- a choice over 1 to 13 rows and as many confidences, none above 2
pub choice_row : (rows confidences : List ℕ) → 1 ≤ length rows → length rows ≤ 13 → length rows ≡ length confidences →
    ((k : ℕ) → k < length confidences → get_or confidences k 0 ≤ 2) →
    (choice_reply rows confidences).row ≡ chosen_row rows confidences
unfolding choice_refusal first_of above2
choice_row rows confidences low high same small =
    ap (λ (r : Chosen). r.row)
    (sym
    (choice_taken rows confidences (chosen_row rows confidences) _
    (rw (
      inside (length rows) low high,
      eq-eqb (length rows) (length confidences) same,
      none_any (length confidences) (λ k. ltb 2 (get_or confidences k 0))
          (λ k l. le-ltb 2 (get_or confidences k 0) (small k l)),
    )
    refl)
    refl refl))

-- One iteration from a legal state in which no sound box is listed by a sound box and no sound row is 0. The state
-- stays so. A row that all sound boxes hold stays: more than half of the leaders are sound and come with it.
-- Otherwise look for a leader that one sound box counts and another does not. Where there is none, the sound boxes
-- have the same graded rows and choose alike; where there is one, it was not on every sound list before, and is
-- after. Assumes nothing.
use mathlib.Core.Path.{◌≡◌, sym, ap, ◌∙◌}
use mathlib.Core.Bool.{Bool, true, false, cond, not, ◌&&◌, ◌||◌}
use mathlib.Core.List.{List}
use mathlib.Core.Logic.{◌⊎◌, ⊎_elim}
use mathlib.Core.Logic.◌⊎◌.{inl, inr}
use Prim.Native.Nat.{ℕ, ◌≤◌, ◌<◌}
use native.Mathlib.Decide.{ℕ_discrete}
use native.Mathlib.Omega.{arith}
use lib.Dec.{eqb, ltb}
use lib.ListN.{get_or}
use borrow.Author.Tests.{eqb-true, eqb-false, eq-eqb, ne_eqb, le-ltb, lt-ltb}
use Rattle.counting.specs.Count.{any, count, build}
use Rattle.counting.specs.Most.{most}
use Rattle.counting.specs.Sets.{member}
use Rattle.counting.proofs.Bools.{
  either,
  never,
  both,
  and_left,
  and_right,
  not_true,
  not_of_false,
  or_none,
  or_true_right,
  cond_false,
}
use Rattle.counting.proofs.Build.{length_build, get_or_build, build_ext}
use Rattle.counting.proofs.Count.{Some, any_some, any_none, count_strict}
use Rattle.counting.proofs.Most.{most_zero}
use Rattle.counting.proofs.Places.{most_majority}
use Rattle.sizes.specs.Sizes.{sound}
use Rattle.sizes.proofs.Laws.{inside_high}
use Rattle.gradecast.specs.Steps.{confidence, grade_row}
use Rattle.gradecast.specs.Fair.{SoundBox, Fair, Gradecast}
use Rattle.gradecast.proofs.Grades.{row_none, positive}
use Rattle.gradecast.proofs.Boxes.{SoundWith, any_sound, sound_any}
use Rattle.gradecast.proofs.Near.{all_places, near}
use Rattle.gradecast.proofs.Properties.{gradecast}
use Rattle.run.specs.declared.Run.{Run}
use Rattle.run.specs.Iteration.{graded_rows, new_row, next_run}
use Rattle.run.specs.Legal.{Legal}
use Rattle.run.proofs.Closed.{next_not_zero}
use Rattle.run.proofs.Kept.{next_row, next_list, new_list_member, list_kept, chosen_is}
use Rattle.agreement.specs.Demand.{AllHold, SameRow}
use Rattle.agreement.proofs.Condemned.{condemned, condemned_is, is_condemned}

-- a leader k that a sound box i counts and a sound box j does not
pub record Split (n faulty : ℕ) (sure : ℕ → ℕ → ℕ) : Type 0 where
  pub k : ℕ
  pub i : ℕ
  pub j : ℕ
  pub leader : k < n
  pub counting : SoundBox n faulty i
  pub leaving : SoundBox n faulty j
  pub counted : 1 ≤ sure i k
  pub left : sure j k ≡ 0

module _ (s : Run) (table : List ℕ) (legal : Legal s)
    (fair : Fair s.n s.t s.faulty s.rows s.lists) where
  abbrev sure : ℕ → ℕ → ℕ
  sure i k = confidence s.n s.t s.faulty s.rows s.lists table i k

  abbrev graded : ℕ → ℕ → ℕ
  graded i k = grade_row s.n s.t s.faulty s.rows s.lists table i k

  promises : Gradecast s.n s.t s.faulty s.rows s.lists table
  promises = gradecast fair table

  few : s.n ≤ 13
  few = inside_high s.n legal.pass4

  -- who is on a sound box's next list
  next_member : (i k : ℕ) → SoundBox s.n s.faulty i → k < s.n →
      member (get_or (next_run s table).lists i 0) k ≡ member (get_or s.lists i 0) k || ltb (sure i k) 2
  next_member i k si l = ap (λ (list : ℕ). member list k) (next_list s table i few si) ∙ new_list_member s table i k l

  pub next_fair : Fair s.n s.t s.faulty (next_run s table).rows (next_run s table).lists
  next_fair =
      record {
        tolerated = fair.tolerated;
        few = fair.few;
        none_listed =
            λ i k si sk.
            next_member i k si sk.below
            ∙ or_none (fair.none_listed i k si sk)
            (le-ltb (sure i k) 2 (omega (arith, (promises.sound_leader i k si sk).0)));
        none_zero = next_not_zero s table legal;
      }

  -- a sound box counts itself, so it chooses a row
  next_most : (i : ℕ) → SoundBox s.n s.faulty i →
      get_or (next_run s table).rows i 0 ≡ most (build s.n (graded i))
  unfolding new_row graded_rows
  next_most i si =
      next_row s table i few si
      ∙ ap (λ (chosen : ℕ). cond (eqb chosen 0) (get_or s.rows i 0) chosen) (chosen_is s table i)
      ∙ cond_false (get_or s.rows i 0) (most (build s.n (graded i)))
      (ne_eqb (most (build s.n (graded i))) 0 chooses)
    where
      chooses : most (build s.n (graded i)) ≡ 0 → ⊥
      chooses e =
          let b = si.below in
          fair.none_zero i si
          (sym (promises.sound_leader i i si si).1
          ∙ sym (get_or_build s.n (graded i) i 0 si.below)
          ∙ most_zero (build s.n (graded i)) e i (omega (arith, length_build s.n (graded i))))

  -- a row that all sound boxes hold stays
  pub rows_stay : (v : ℕ) → AllHold s.n s.faulty s.rows v →
      AllHold s.n s.faulty (next_run s table).rows v
  rows_stay v h i si =
      next_most i si
      ∙ most_majority (build s.n (graded i)) v
      (λ e. fair.none_zero i si (h i si ∙ e))
      (omega (
        arith,
        fair.tolerated,
        fair.few,
        length_build s.n (graded i),
        all_places s.n v,
        near s.n s.faulty (λ k. v) (graded i) v (λ k sk. sym ((promises.sound_leader i k si sk).1 ∙ h k sk)),
      ))

  -- does box i count leader k, or leave it? Do some sound boxes count it and others leave it?
  abbrev counts : ℕ → ℕ → Bool
  counts k i = not (eqb (sure i k) 0)

  abbrev leaves : ℕ → ℕ → Bool
  leaves k j = eqb (sure j k) 0

  abbrev some_count : ℕ → Bool
  some_count k = any s.n (λ i. sound s.faulty i && counts k i)

  abbrev some_leave : ℕ → Bool
  some_leave k = any s.n (λ j. sound s.faulty j && leaves k j)

  abbrev parted : ℕ → Bool
  parted k = some_count k && some_leave k

  found : Some s.n parted → Split s.n s.faulty sure
  found w =
      record {
        k = w.at;
        i = a.at;
        j = b.at;
        leader = w.below;
        counting = a.box_sound;
        leaving = b.box_sound;
        counted = positive (eqb-false (sure a.at w.at) 0 (not_true (eqb (sure a.at w.at) 0) a.passes));
        left = eqb-true (sure b.at w.at) 0 b.passes;
      }
    where
      a : SoundWith s.n s.faulty (counts w.at)
      a = any_sound s.n s.faulty (counts w.at) (and_left (some_count w.at) (some_leave w.at) w.passes)

      b : SoundWith s.n s.faulty (leaves w.at)
      b = any_sound s.n s.faulty (leaves w.at) (and_right (some_count w.at) (some_leave w.at) w.passes)

  -- where no leader parts the sound boxes, their graded rows are the same
  same_graded : any s.n parted ≡ false → (i j : ℕ) → SoundBox s.n s.faulty i → SoundBox s.n s.faulty j →
      (k : ℕ) → k < s.n → graded i k ≡ graded j k
  same_graded none i j si sj k l = go (ℕ_discrete (sure i k) 0) (ℕ_discrete (sure j k) 0)
    where
      apart : (a b : ℕ) → SoundBox s.n s.faulty a → SoundBox s.n s.faulty b → (sure a k ≡ 0 → ⊥) →
          sure b k ≡ 0 → ⊥
      apart a b sa sb y z =
          never
          (both
          (sound_any s.n s.faulty (counts k) a sa (not_of_false (ne_eqb (sure a k) 0 y)))
          (sound_any s.n s.faulty (leaves k) b sb (eq-eqb (sure b k) 0 z)))
          (any_none s.n parted none k l)

      zero_row : (a : ℕ) → sure a k ≡ 0 → graded a k ≡ 0
      zero_row a = row_none s.n s.t s.faulty s.rows s.lists table a k

      go : Dec (sure i k ≡ 0) → Dec (sure j k ≡ 0) → graded i k ≡ graded j k
      go (yes y) (yes z) = zero_row i y ∙ sym (zero_row j z)
      go (yes y) (no z) = absurd (apart j i sj si z y)
      go (no y) (yes z) = absurd (apart i j si sj y z)
      go (no y) (no z) = promises.one_row i j k si sj y z

  -- the next sound rows are all equal, or a leader parts the sound boxes
  pub same_or_split : SameRow s.n s.faulty (next_run s table).rows ⊎ Split s.n s.faulty sure
  same_or_split =
      ⊎_elim
      (λ t. inr (found (any_some s.n parted t)))
      (λ f.
      inl
      (λ i j si sj.
      next_most i si
      ∙ ap most (build_ext s.n (graded i) (graded j) (same_graded f i j si sj))
      ∙ sym (next_most j sj)))
      (either (any s.n parted))

  -- a leader that one sound box does not count joins every sound list
  pub split_joins : (j k : ℕ) → SoundBox s.n s.faulty j → k < s.n → sure j k ≡ 0 →
      (l : ℕ) → SoundBox s.n s.faulty l → member (get_or (next_run s table).lists l 0) k ≡ true
  split_joins j k sj b none l sl =
      next_member l k sl b
      ∙ or_true_right (member (get_or s.lists l 0) k)
      (lt-ltb (sure l k) 2 (omega (arith, promises.split_weak j l k sj sl none)))

  -- so a leader that parts the sound boxes is one more on every sound list
  pub split_more : Split s.n s.faulty sure →
      count s.n (condemned s.n s.faulty s.lists) < count s.n
      (condemned s.n s.faulty (next_run s table).lists)
  split_more w =
      count_strict s.n (condemned s.n s.faulty s.lists)
      (condemned s.n s.faulty (next_run s table).lists)
      (λ k l c.
      is_condemned s.n s.faulty (next_run s table).lists k
      (λ i si. list_kept s table i k few si l (condemned_is s.n s.faulty s.lists k c i si)))
      w.k w.leader
      (⊎_elim
      (λ c.
      absurd
      (omega (
        arith,
        w.counted,
        promises.all_listed w.k (condemned_is s.n s.faulty s.lists w.k c) w.i w.counting,
      )))
      (λ f. f)
      (either (condemned s.n s.faulty s.lists w.k)))
      (is_condemned s.n s.faulty (next_run s table).lists w.k
      (split_joins w.j w.k w.leaving w.leader w.left))

-- What gradecast promises of one iteration, and when: for any rows and lists as they stand, not only those of a run.
-- Boxes and leaders count from 0.
use Rattle.std.specs.Prelude.{ℕ, ◌*◌, ◌≤◌, ◌<◌, ◌≡◌, true, false, List, get_or}
use Rattle.counting.specs.Count.{count}
use Rattle.counting.specs.Sets.{member}
use Rattle.sizes.specs.Sizes.{sound}
use Rattle.gradecast.specs.Steps.{voted, confidence, grade_row}

-- box i is one of the n boxes, and sound
pub record SoundBox (n faulty i : ℕ) : Type 0 where
  pub below : i < n
  pub is_sound : sound faulty i ≡ true

-- how many of the n boxes are named faulty
abbrev pub faulty_boxes : ℕ → ℕ → ℕ
faulty_boxes n faulty = count n (member faulty)

-- no sound box is on a sound box's list
abbrev pub NoSoundListed : ℕ → ℕ → List ℕ → Type 0
NoSoundListed n faulty lists =
    (i k : ℕ) → SoundBox n faulty i → SoundBox n faulty k → member (get_or lists i 0) k ≡ false

-- no sound box's row is 0
abbrev pub SoundRowsNotZero : ℕ → ℕ → List ℕ → Type 0
SoundRowsNotZero n faulty rows = (k : ℕ) → SoundBox n faulty k → get_or rows k 0 ≡ 0 → ⊥

-- 3t is less than n
abbrev pub Tolerated : ℕ → ℕ → Type 0
Tolerated n t = 3 * t < n

-- no more boxes are named faulty than are tolerated
abbrev pub FewFaulty : ℕ → ℕ → ℕ → Type 0
FewFaulty n t faulty = faulty_boxes n faulty ≤ t

-- the premises of one iteration
pub record Fair (n t faulty : ℕ) (rows lists : List ℕ) : Type 0 where
  pub tolerated : Tolerated n t
  pub few : FewFaulty n t faulty
  pub none_listed : NoSoundListed n faulty lists
  pub none_zero : SoundRowsNotZero n faulty rows

-- the promises of one iteration, whatever the table says
pub record Gradecast (n t faulty : ℕ) (rows lists table : List ℕ) : Type 0 where
  -- a sound leader has confidence 2, with its row, at every sound box
  pub sound_leader : (i k : ℕ) → SoundBox n faulty i → SoundBox n faulty k →
      (confidence n t faulty rows lists table i k ≡ 2) × (grade_row n t faulty rows lists table i k ≡ get_or rows k 0)
  -- two sound boxes that vote for a leader vote the same
  pub one_vote : (i j k : ℕ) → SoundBox n faulty i → SoundBox n faulty j →
      (voted n t faulty rows lists table i k ≡ 0 → ⊥) → (voted n t faulty rows lists table j k ≡ 0 → ⊥) →
      voted n t faulty rows lists table i k ≡ voted n t faulty rows lists table j k
  -- two sound boxes that count a leader give it the same row
  pub one_row : (i j k : ℕ) → SoundBox n faulty i → SoundBox n faulty j →
      (confidence n t faulty rows lists table i k ≡ 0 → ⊥) → (confidence n t faulty rows lists table j k ≡ 0 → ⊥) →
      grade_row n t faulty rows lists table i k ≡ grade_row n t faulty rows lists table j k
  -- a leader with confidence 2 at one sound box has confidence 1 or 2 at every other, with the same row
  pub firm_counts : (i j k : ℕ) → SoundBox n faulty i → SoundBox n faulty j →
      confidence n t faulty rows lists table i k ≡ 2 →
      (1 ≤ confidence n t faulty rows lists table j k) ×
      (grade_row n t faulty rows lists table j k ≡ grade_row n t faulty rows lists table i k)
  -- a leader that one sound box does not count has confidence 2 at none
  pub split_weak : (i j k : ℕ) → SoundBox n faulty i → SoundBox n faulty j →
      confidence n t faulty rows lists table i k ≡ 0 → confidence n t faulty rows lists table j k ≤ 1
  -- a leader on every sound box's list has confidence 0 at every sound box
  pub all_listed : (k : ℕ) → ((i : ℕ) → SoundBox n faulty i → member (get_or lists i 0) k ≡ true) →
      (i : ℕ) → SoundBox n faulty i → confidence n t faulty rows lists table i k ≡ 0

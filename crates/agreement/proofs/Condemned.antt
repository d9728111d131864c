-- Boxes that every sound box has on its list. Where no sound box is listed by a sound box they are faulty, so there
-- are at most as many of them as of faulty boxes. Assumes nothing.
use mathlib.Core.Path.{◌≡◌}
use mathlib.Core.Bool.{Bool, true, not, ◌&&◌}
use mathlib.Core.List.{List}
use mathlib.Core.Logic.{⊎_elim}
use Prim.Native.Nat.{ℕ, ◌≤◌}
use lib.ListN.{get_or}
use Rattle.counting.specs.Count.{any, count}
use Rattle.counting.specs.Sets.{member}
use Rattle.counting.proofs.Bools.{either, never, not_true, not_false, not_of_false, not_of_true}
use Rattle.counting.proofs.Count.{count_mono}
use Rattle.sizes.specs.Sizes.{sound}
use Rattle.gradecast.specs.Fair.{SoundBox, faulty_boxes, NoSoundListed}
use Rattle.gradecast.proofs.Boxes.{not_faulty_sound, no_sound, sound_none}

-- is box k on every sound box's list?
unfoldable pub condemned : ℕ → ℕ → List ℕ → ℕ → Bool
condemned n faulty lists k = not (any n (λ i. sound faulty i && not (member (get_or lists i 0) k)))

module _ (n faulty : ℕ) (lists : List ℕ) where
  abbrev spares : ℕ → ℕ → Bool
  spares k i = not (member (get_or lists i 0) k)

  pub condemned_is : (k : ℕ) → condemned n faulty lists k ≡ true → (i : ℕ) → SoundBox n faulty i →
      member (get_or lists i 0) k ≡ true
  unfolding condemned
  condemned_is k c i b =
      not_false (member (get_or lists i 0) k)
      (no_sound n faulty (spares k) (not_true (any n (λ j. sound faulty j && spares k j)) c) i b)

  pub is_condemned : (k : ℕ) → ((i : ℕ) → SoundBox n faulty i → member (get_or lists i 0) k ≡ true) →
      condemned n faulty lists k ≡ true
  unfolding condemned
  is_condemned k h = not_of_false (sound_none n faulty (spares k) (λ i b. not_of_true (h i b)))

  pub condemned_few : NoSoundListed n faulty lists → count n (condemned n faulty lists) ≤ faulty_boxes n faulty
  condemned_few h =
      count_mono n (condemned n faulty lists) (member faulty)
      (λ k l c.
      ⊎_elim
      (λ f. f)
      (λ f.
      let b : SoundBox n faulty k = record { below = l; is_sound = not_faulty_sound faulty k f } in
      never (condemned_is k c k b) (h k k b b))
      (either (member faulty k)))

-- What stands in a sound box's place and in a faulty one's. Assumes nothing.
use mathlib.Core.Path.{◌≡◌, refl}
use mathlib.Core.Bool.{Bool, true, false}
use mathlib.Core.List.{List}
use Prim.Native.Nat.{ℕ}
use Rattle.counting.specs.Sets.{member}
use Rattle.sizes.specs.Sizes.{sound}
use Rattle.gradecast.specs.Steps.{sends}
use Rattle.gradecast.specs.Cast.{of_sound}

module _ (faulty : ℕ) (f : ℕ → ℕ → ℕ) (i k : ℕ) where
  pub of_faulty : member faulty i ≡ true → of_sound faulty f i k ≡ 0
  unfolding of_sound sound
  of_faulty h = rw h refl

  pub of_sound_lem : member faulty i ≡ false → of_sound faulty f i k ≡ f i k
  unfolding of_sound sound
  of_sound_lem h = rw h refl

-- a sender's own row is heard only where it is sound, so it may be anything in a faulty box's place
pub sends_sound : (faulty : ℕ) (table : List ℕ) (f : ℕ → ℕ → ℕ) (j k place : ℕ) →
    sends faulty table j place (of_sound faulty f j k) ≡ sends faulty table j place (f j k)
unfolding sends
sends_sound faulty table f j k place = go (member faulty j) refl
  where
    go : (b : Bool) → member faulty j ≡ b →
        sends faulty table j place (of_sound faulty f j k) ≡ sends faulty table j place (f j k)
    go true h = rw h refl
    go false h = rw (of_sound_lem faulty f j k h) refl

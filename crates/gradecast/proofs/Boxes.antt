-- Sound boxes among the n: the tests that the definitions use, and what they say.
-- Assumes nothing.
use mathlib.Core.Path.{◌≡◌, refl}
use mathlib.Core.Bool.{Bool, true, false, ◌&&◌}
use mathlib.Core.Logic.{⊎_elim}
use Prim.Native.Nat.{ℕ, ◌<◌}
use lib.Dec.{ltb}
use borrow.Author.Tests.{ltb-true, lt-ltb}
use Rattle.counting.specs.Count.{any}
use Rattle.counting.specs.Sets.{member}
use Rattle.counting.proofs.Bools.{either, both, and_left, and_right, not_true, not_of_false}
use Rattle.counting.proofs.Count.{any_some, any_none, some_any, none_any}
use Rattle.sizes.specs.Sizes.{sound}
use Rattle.gradecast.specs.Fair.{SoundBox}

-- a box that is not sound is faulty
pub sound_not_faulty : (faulty j : ℕ) → sound faulty j ≡ true → member faulty j ≡ false
unfolding sound
sound_not_faulty faulty j h = not_true (member faulty j) h

pub not_faulty_sound : (faulty j : ℕ) → member faulty j ≡ false → sound faulty j ≡ true
unfolding sound
not_faulty_sound faulty j h = not_of_false h

-- is box k one of the n, and sound? Both ways
pub is_box : {n faulty k : ℕ} → SoundBox n faulty k → (ltb k n && sound faulty k) ≡ true
is_box {n} {k = k} b = both (lt-ltb k n b.below) b.is_sound

pub box_is : (n faulty k : ℕ) → (ltb k n && sound faulty k) ≡ true → SoundBox n faulty k
box_is n faulty k h =
    record {
      below = ltb-true k n (and_left (ltb k n) (sound faulty k) h);
      is_sound = and_right (ltb k n) (sound faulty k) h;
    }

pub no_box_lem : (n faulty k : ℕ) → (SoundBox n faulty k → ⊥) → (ltb k n && sound faulty k) ≡ false
no_box_lem n faulty k h = ⊎_elim (λ t. absurd (h (box_is n faulty k t))) (λ f. f) (either (ltb k n && sound faulty k))

-- a sound box that passes the test p
pub record SoundWith (n faulty : ℕ) (p : ℕ → Bool) : Type 0 where
  pub at : ℕ
  pub box_sound : SoundBox n faulty at
  pub passes : p at ≡ true

-- does some sound box pass the test p? Both ways, and both answers
module _ (n faulty : ℕ) (p : ℕ → Bool) where
  abbrev test : ℕ → Bool
  test i = sound faulty i && p i

  pub any_sound : any n (λ i. sound faulty i && p i) ≡ true → SoundWith n faulty p
  any_sound h =
      let w = any_some n test h in
      record {
        at = w.at;
        box_sound = record { below = w.below; is_sound = and_left (sound faulty w.at) (p w.at) w.passes };
        passes = and_right (sound faulty w.at) (p w.at) w.passes;
      }

  pub sound_any : (i : ℕ) → SoundBox n faulty i → p i ≡ true → any n (λ i. sound faulty i && p i) ≡ true
  sound_any i b h = some_any n test i b.below (both b.is_sound h)

  pub no_sound : any n (λ i. sound faulty i && p i) ≡ false → (i : ℕ) → SoundBox n faulty i → p i ≡ false
  no_sound h i b = rw b.is_sound at (any_none n test h i b.below)

  pub sound_none : ((i : ℕ) → SoundBox n faulty i → p i ≡ false) → any n (λ i. sound faulty i && p i) ≡ false
  sound_none h = none_any n test (λ i l. go i l (sound faulty i) refl)
    where
      go : (i : ℕ) → i < n → (b : Bool) → sound faulty i ≡ b → (b && p i) ≡ false
      go i l true e = h i (record { below = l; is_sound = e })
      go i l false e = refl

-- Columns that agree at the sound boxes differ in at most as many places as there are faulty boxes, so the places of a
-- row do. Where all sound boxes say the same, its places are theirs and those of the faulty boxes that say it too.
-- Assumes nothing.
use mathlib.Core.Path.{◌≡◌, refl, ◌∙◌, subst}
use mathlib.Core.Bool.{true, not, ◌&&◌, ◌||◌}
use mathlib.Core.Logic.{⊎_elim}
use Prim.Native.Nat.{ℕ, ◌+◌, ◌-◌, ◌≤◌, ◌<◌}
use native.Mathlib.Omega.{arith}
use lib.Dec.{eqb}
use borrow.Author.Tests.{eq-eqb, ne_eqb}
use Rattle.counting.specs.Count.{build, count}
use Rattle.counting.specs.Sets.{member}
use Rattle.counting.specs.Most.{places}
use Rattle.counting.proofs.Bools.{either, and_left, and_right, or_true_left, or_true_right, not_true}
use Rattle.counting.proofs.Count.{count_le, count_mono, count_either_both, count_parted, count_all, count_none}
use Rattle.counting.proofs.Places.{places_build}
use Rattle.gradecast.specs.Fair.{SoundBox, faulty_boxes}
use Rattle.gradecast.proofs.Boxes.{not_faulty_sound}

-- a column in which every place is c
pub all_places : (n c : ℕ) → places (build n (λ j. c)) c ≡ n
all_places n c = places_build n (λ j. c) c ∙ count_all n (λ j. eqb c c) (λ j l. eq-eqb c c refl)

pub no_places : (n c v : ℕ) → (c ≡ v → ⊥) → places (build n (λ j. c)) v ≡ 0
no_places n c v z = places_build n (λ j. c) v ∙ count_none n (λ j. eqb c v) (λ j l. ne_eqb c v z)

-- columns that agree at the sound boxes: the places of a row differ by at most the number of faulty boxes
pub near : (n faulty : ℕ) (f g : ℕ → ℕ) (v : ℕ) → ((j : ℕ) → SoundBox n faulty j → f j ≡ g j) →
    places (build n f) v ≤ places (build n g) v + faulty_boxes n faulty
near n faulty f g v h =
    omega (
      arith,
      places_build n f v,
      places_build n g v,
      count_parted n (λ j. eqb (f j) v) (member faulty),
      count_mono n (λ j. eqb (f j) v && member faulty j) (member faulty)
          (λ j l t. and_right (eqb (f j) v) (member faulty j) t),
      count_mono n (λ j. eqb (f j) v && not (member faulty j)) (λ j. eqb (g j) v)
          (λ j l t.
          let not-faulty = not_true (member faulty j) (and_right (eqb (f j) v) (not (member faulty j)) t) in
          subst (λ (m : ℕ). eqb m v ≡ true)
          (h j (record { below = l; is_sound = not_faulty_sound faulty j not-faulty }))
          (and_left (eqb (f j) v) (not (member faulty j)) t)),
    )

-- a column in which every sound box says v: the places of v
pub sound_places : (n faulty : ℕ) (f : ℕ → ℕ) (v : ℕ) → ((j : ℕ) → SoundBox n faulty j → f j ≡ v) →
    places (build n f) v ≡ n - faulty_boxes n faulty + count n (λ j. member faulty j && eqb (f j) v)
sound_places n faulty f v h =
    omega (
      arith,
      places_build n f v,
      count_either_both n (member faulty) (λ j. eqb (f j) v),
      count_all n (λ j. member faulty j || eqb (f j) v) all,
      count_le n (member faulty),
    )
  where
    all : (j : ℕ) → j < n → (member faulty j || eqb (f j) v) ≡ true
    all j l =
        ⊎_elim
        (λ e. or_true_left (eqb (f j) v) e)
        (λ e.
        or_true_right (member faulty j)
        (eq-eqb (f j) v (h j (record { below = l; is_sound = not_faulty_sound faulty j e }))))
        (either (member faulty j))

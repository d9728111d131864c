-- Gradecast keeps its promises. Two columns that agree at the sound boxes differ in at most t places, so the places of
-- a row differ by at most t. All else is counting with 3t < n: what every sound box says stands n − t times, which is
-- more than half and more than 2t; what no sound box says stands at most t times, too few for a vote or a grade; two
-- votes of n − t places at two sound boxes are n − 2t and n − t places in one column, more than there are; and a
-- support of 2t + 1 at one sound box is t + 1 at another. All sound boxes say a sound leader's row in step 3, so its
-- support is their number and that of the faulty boxes that say it too. Assumes nothing.
use mathlib.Core.Path.{◌≡◌, refl, sym, ap, ◌∙◌}
use mathlib.Core.Bool.{true, ◌&&◌}
use mathlib.Core.List.{List}
use Prim.Native.Nat.{ℕ, ◌+◌, ◌-◌, ◌≤◌}
use native.Mathlib.Decide.{ℕ_discrete}
use native.Mathlib.Omega.{arith}
use lib.Dec.{eqb}
use lib.ListN.{get_or}
use borrow.Author.Tests.{eqb-true}
use Rattle.counting.specs.Count.{build, count}
use Rattle.counting.specs.Sets.{member}
use Rattle.counting.specs.Most.{places}
use Rattle.counting.proofs.Build.{length_build}
use Rattle.counting.proofs.Count.{Between, count_more}
use Rattle.counting.proofs.Places.{places_build, places_one}
use Rattle.tally.specs.Tally.{vote_of, confidence_of, graded_row, support_of}
use Rattle.tally.proofs.Laws.{vote_carried, vote_none, vote_is, confidence_fits, places_support}
use Rattle.tally.proofs.Laws.{graded_counts, graded_firm}
use Rattle.gradecast.specs.Steps.{place1, place2, place3, sends, hears, heard1, heard2, column2, voted}
use Rattle.gradecast.specs.Steps.{heard3, column3, confidence, grade_row, support_for}
use Rattle.gradecast.specs.Fair.{SoundBox, faulty_boxes, Tolerated, FewFaulty, Fair, Gradecast}
use Rattle.gradecast.specs.Inside.{Calm}
use Rattle.gradecast.proofs.Boxes.{sound_not_faulty, not_faulty_sound}
use Rattle.gradecast.proofs.Grades.{positive, at_most_2, row_not_zero}
use Rattle.gradecast.proofs.Listed.{listed_heard1}
use Rattle.gradecast.proofs.Near.{all_places, no_places, near, sound_places}

-- a sound box whose row in the column is v
record Witness (n faulty : ℕ) (f : ℕ → ℕ) (v : ℕ) : Type 0 where
  at : ℕ
  box_sound : SoundBox n faulty at
  here : f at ≡ v

-- columns f and g, with at most t faulty boxes
module _ {n t faulty : ℕ} (tolerated : Tolerated n t) (few : FewFaulty n t faulty) where
  -- what every sound box says is the vote, and has confidence 2
  vote_all : (f : ℕ → ℕ) (v : ℕ) → (v ≡ 0 → ⊥) → ((j : ℕ) → SoundBox n faulty j → f j ≡ v) →
      vote_of t (build n f) ≡ v
  vote_all f v z h =
      vote_is t (build n f) (omega (arith, length_build n f)) v
      (record {
        not_zero = z;
        enough = omega (arith, length_build n f, all_places n v, near n faulty (λ j. v) f v (λ j s. sym (h j s)));
      })

  grade_all : (f : ℕ → ℕ) (v : ℕ) → (v ≡ 0 → ⊥) → ((j : ℕ) → SoundBox n faulty j → f j ≡ v) →
      (confidence_of t (build n f) ≡ 2) × (graded_row t (build n f) ≡ v)
  grade_all f v z h =
      let l = near n faulty (λ j. v) f v (λ j s. sym (h j s)) in
      graded_firm t (build n f) v z
      (omega (arith, length_build n f, all_places n v))
      (omega (arith, all_places n v))

  -- what no sound box says is no vote, and has confidence 0
  vote_silent : (f : ℕ → ℕ) → ((j : ℕ) → SoundBox n faulty j → f j ≡ 0) → vote_of t (build n f) ≡ 0
  vote_silent f h =
      vote_none t (build n f)
      (λ v c.
      absurd
      (omega (
        arith,
        c.enough,
        length_build n f,
        no_places n 0 v (λ e. c.not_zero (sym e)),
        near n faulty f (λ j. 0) v h,
      )))

  grade_silent : (f : ℕ → ℕ) → ((j : ℕ) → SoundBox n faulty j → f j ≡ 0) →
      confidence_of t (build n f) ≡ 0
  grade_silent f h = go (ℕ_discrete (confidence_of t (build n f)) 0)
    where
      go : Dec (confidence_of t (build n f) ≡ 0) → confidence_of t (build n f) ≡ 0
      go (yes e) = e
      go (no z) =
          let v : ℕ = graded_row t (build n f) in
          let c = graded_counts t (build n f) z in
          (confidence_fits t (build n f)).none.1
          (omega (arith, c.1, no_places n 0 v (λ e. c.0 (sym e)), near n faulty f (λ j. 0) v h))

  -- where the sound boxes say the same in both columns, there are no two votes
  vote_one : (f g : ℕ → ℕ) → ((j : ℕ) → SoundBox n faulty j → f j ≡ g j) →
      (vote_of t (build n f) ≡ 0 → ⊥) → (vote_of t (build n g) ≡ 0 → ⊥) →
      vote_of t (build n f) ≡ vote_of t (build n g)
  vote_one f g h y z =
      places_one (build n g) (vote_of t (build n f)) (vote_of t (build n g))
      (omega (
        arith,
        length_build n f,
        length_build n g,
        (vote_carried t (build n f) y).enough,
        (vote_carried t (build n g) z).enough,
        near n faulty f g (vote_of t (build n f)) h,
      ))

  -- and a row with confidence 2 in one counts in the other
  grade_near : (f g : ℕ → ℕ) → ((j : ℕ) → SoundBox n faulty j → f j ≡ g j) →
      confidence_of t (build n f) ≡ 2 → confidence_of t (build n g) ≡ 0 → ⊥
  grade_near f g h two none =
      let c = graded_counts t (build n f) (λ e. absurd (omega arith)) in
      absurd
      (omega (
        arith,
        c.1,
        (confidence_fits t (build n f)).two.0 two,
        (confidence_fits t (build n g)).none.0 none,
        places_support (build n g) (graded_row t (build n f)) c.0,
        near n faulty f g (graded_row t (build n f)) h,
      ))

  -- a row that counts was said by a sound box
  grade_witness : (f : ℕ → ℕ) → (confidence_of t (build n f) ≡ 0 → ⊥) →
      Witness n faulty f (graded_row t (build n f))
  grade_witness f z =
      record {
        at = b.at;
        box_sound = record { below = b.below; is_sound = not_faulty_sound faulty b.at b.fails };
        here = eqb-true (f b.at) v b.passes;
      }
    where
      v : ℕ
      v = graded_row t (build n f)

      above : support_of (build n f) ≤ t → ⊥
      above h = z ((confidence_fits t (build n f)).none.1 h)

      b : Between n (member faulty) (λ j. eqb (f j) v)
      b =
          count_more n (member faulty) (λ j. eqb (f j) v)
          (omega (arith, above, (graded_counts t (build n f) z).1, places_build n f v))

-- where all is calm, for any rows
module _ {n t faulty : ℕ} {lists : List ℕ} (calm : Calm n t faulty lists) (rows table : List ℕ) where
  -- V, X, Y, Z and the grades
  abbrev Vof : ℕ → ℕ → ℕ
  Vof = heard1 n faulty rows lists table

  abbrev Xof : ℕ → ℕ → ℕ → ℕ
  Xof = heard2 n faulty rows lists table

  abbrev Yof : ℕ → ℕ → ℕ
  Yof = voted n t faulty rows lists table

  abbrev Zof : ℕ → ℕ → ℕ → ℕ
  Zof = heard3 n t faulty rows lists table

  abbrev sure : ℕ → ℕ → ℕ
  sure = confidence n t faulty rows lists table

  abbrev graded : ℕ → ℕ → ℕ
  graded = grade_row n t faulty rows lists table

  -- a sound box hears what a sound box sends
  hears_sound : (i j place m : ℕ) → SoundBox n faulty i → SoundBox n faulty j →
      hears (get_or lists i 0) j (sends faulty table j place m) ≡ m
  unfolding hears sends
  hears_sound i j place m si sj =
      rw (calm.none_listed i j si sj, sound_not_faulty faulty j sj.is_sound) refl

  pub heard1_is : (i k : ℕ) → SoundBox n faulty i → SoundBox n faulty k → Vof i k ≡ get_or rows k 0
  unfolding heard1
  heard1_is i k si sk = hears_sound i k (place1 n k i) (get_or rows k 0) si sk

  heard2_is : (i j k : ℕ) → SoundBox n faulty i → SoundBox n faulty j → Xof i j k ≡ Vof j k
  unfolding heard2
  heard2_is i j k si sj = hears_sound i j (place2 n j i k) (Vof j k) si sj

  heard3_is : (i j k : ℕ) → SoundBox n faulty i → SoundBox n faulty j → Zof i j k ≡ Yof j k
  unfolding heard3
  heard3_is i j k si sj = hears_sound i j (place3 n j i k) (Yof j k) si sj

  -- a sound leader's row is every sound box's vote
  pub sound_voted : (i k : ℕ) → SoundBox n faulty i → SoundBox n faulty k → Yof i k ≡ get_or rows k 0
  unfolding voted column2
  sound_voted i k si sk = go (ℕ_discrete (get_or rows k 0) 0)
    where
      all_say : (j : ℕ) → SoundBox n faulty j → Xof i j k ≡ get_or rows k 0
      all_say j sj = heard2_is i j k si sj ∙ heard1_is j k sj sk

      go : Dec (get_or rows k 0 ≡ 0) → vote_of t (build n (λ j. Xof i j k)) ≡ get_or rows k 0
      go (yes e) = vote_silent calm.tolerated calm.few (λ j. Xof i j k) (λ j sj. all_say j sj ∙ e) ∙ sym e
      go (no z) = vote_all calm.tolerated calm.few (λ j. Xof i j k) (get_or rows k 0) z all_say

  -- so every sound box says it in step 3
  all_say : (i k : ℕ) → SoundBox n faulty i → SoundBox n faulty k → (j : ℕ) → SoundBox n faulty j →
      Zof i j k ≡ get_or rows k 0
  all_say i k si sk j sj = heard3_is i j k si sj ∙ sound_voted j k sj sk

  -- and where it is a row, every sound box grades the leader with confidence 2 and that row
  pub sound_firm : (i k : ℕ) → SoundBox n faulty i → SoundBox n faulty k → (get_or rows k 0 ≡ 0 → ⊥) →
      (sure i k ≡ 2) × (graded i k ≡ get_or rows k 0)
  unfolding confidence grade_row column3
  sound_firm i k si sk z =
      grade_all calm.tolerated calm.few (λ j. Zof i j k) (get_or rows k 0) z (all_say i k si sk)

  -- its support is the sound boxes, and the faulty ones that say it too
  pub sound_support : (i k : ℕ) → SoundBox n faulty i → SoundBox n faulty k → (get_or rows k 0 ≡ 0 → ⊥) →
      support_for n t faulty rows lists table i k ≡
      n - faulty_boxes n faulty + count n (λ j. member faulty j && eqb (Zof i j k) (get_or rows k 0))
  unfolding support_for confidence grade_row column3
  sound_support i k si sk z =
      let firm = sound_firm i k si sk z in
      let column : List ℕ = build n (λ j. Zof i j k) in
      sym (graded_counts t column (λ e. absurd (omega (arith, firm.0, e)))).1
      ∙ ap (places column) firm.1
      ∙ sound_places n faulty (λ j. Zof i j k) (get_or rows k 0) (all_say i k si sk)

  -- two sound boxes see the same at the sound boxes, in step 3 and in step 4
  same_heard2 : (i j k : ℕ) → SoundBox n faulty i → SoundBox n faulty j → (l : ℕ) → SoundBox n faulty l →
      Xof i l k ≡ Xof j l k
  same_heard2 i j k si sj l sl = heard2_is i l k si sl ∙ sym (heard2_is j l k sj sl)

  same_heard3 : (i j k : ℕ) → SoundBox n faulty i → SoundBox n faulty j → (l : ℕ) → SoundBox n faulty l →
      Zof i l k ≡ Zof j l k
  same_heard3 i j k si sj l sl = heard3_is i l k si sl ∙ sym (heard3_is j l k sj sl)

  votes_once : (i j k : ℕ) → SoundBox n faulty i → SoundBox n faulty j →
      (Yof i k ≡ 0 → ⊥) → (Yof j k ≡ 0 → ⊥) → Yof i k ≡ Yof j k
  unfolding voted column2
  votes_once i j k si sj y z =
      vote_one calm.tolerated calm.few (λ l. Xof i l k) (λ l. Xof j l k) (same_heard2 i j k si sj) y z

  -- a row that counts at a sound box is a sound box's vote
  voter : (i k : ℕ) → SoundBox n faulty i → (sure i k ≡ 0 → ⊥) →
      Witness n faulty (λ l. Yof l k) (graded i k)
  unfolding confidence grade_row column3
  voter i k si z =
      let w = grade_witness calm.tolerated calm.few (λ l. Zof i l k) z in
      record { at = w.at; box_sound = w.box_sound; here = sym (heard3_is i w.at k si w.box_sound) ∙ w.here }

  -- two sound boxes that count a leader each count a sound box's vote
  counts_once : (i j k : ℕ) → SoundBox n faulty i → SoundBox n faulty j →
      (sure i k ≡ 0 → ⊥) → (sure j k ≡ 0 → ⊥) → graded i k ≡ graded j k
  counts_once i j k si sj y z =
      let a = voter i k si y in
      let b = voter j k sj z in
      sym a.here
      ∙ votes_once a.at b.at k a.box_sound b.box_sound
      (λ e. row_not_zero n t faulty rows lists table i k y (sym a.here ∙ e))
      (λ e. row_not_zero n t faulty rows lists table j k z (sym b.here ∙ e))
      ∙ b.here

  never_none : (i j k : ℕ) → SoundBox n faulty i → SoundBox n faulty j → sure i k ≡ 2 → sure j k ≡ 0 → ⊥
  unfolding confidence column3
  never_none i j k si sj =
      grade_near calm.tolerated calm.few (λ l. Zof i l k) (λ l. Zof j l k)
      (same_heard3 i j k si sj)

  -- a leader on every sound list: nothing of it is heard, so nothing is sent on
  all_silent : (k : ℕ) → ((i : ℕ) → SoundBox n faulty i → member (get_or lists i 0) k ≡ true) →
      (i : ℕ) → SoundBox n faulty i → sure i k ≡ 0
  unfolding confidence column3 voted column2
  all_silent k h i si =
      grade_silent calm.tolerated calm.few (λ j. Zof i j k)
      (λ j sj.
      heard3_is i j k si sj
      ∙ vote_silent calm.tolerated calm.few (λ l. Xof j l k)
      (λ l sl. heard2_is j l k sj sl ∙ listed_heard1 n t faulty rows lists table l k (h l sl)))

-- the promises
pub gradecast : {n t faulty : ℕ} {rows lists : List ℕ} → Fair n t faulty rows lists → (table : List ℕ) →
    Gradecast n t faulty rows lists table
gradecast {n} {t} {faulty} {rows} {lists} fair table =
    record {
      sound_leader =
          λ i k si sk.
          sound_firm calm rows table i k si sk (λ e. absurd (omega (arith, e, fair.none_zero k sk)));
      one_vote = votes_once calm rows table;
      one_row = counts_once calm rows table;
      firm_counts =
          λ i j k si sj two.
          let z = never_none calm rows table i j k si sj two in
          (positive z, counts_once calm rows table j i k sj si z (λ e. absurd (omega arith)));
      split_weak =
          λ i j k si sj none.
          let low = at_most_2 n t faulty rows lists table j k in
          let z : confidence n t faulty rows lists table j k ≡ 2 → ⊥ =
          λ two. never_none calm rows table j i k sj si two none
          in
          omega (arith, z);
      all_listed = all_silent calm rows table;
    }
  where
    calm : Calm n t faulty lists
    calm = record { tolerated = fair.tolerated; few = fair.few; none_listed = fair.none_listed }

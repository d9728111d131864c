-- The bounds of demand 3 are needed. Three small runs, each computed from the definitions: boxes count from 0, sets
-- in bits.
use Rattle.std.specs.Prelude.{ℕ, ◌+◌, ◌*◌, ◌≤◌, ◌≡◌, List, [], ◌∷◌, get_or, set, replicate}
use Rattle.gradecast.specs.Steps.{place1, place2, place3, voted}
use Rattle.gradecast.specs.Lies.{silent}
use Rattle.gradecast.specs.Fair.{faulty_boxes, NoSoundListed, SoundRowsNotZero}
use Rattle.agreement.specs.Demand.{Premises, replies, rows_after, confidence_in}

-- box 3 of 4 sends, all for itself as leader: in step 1 20 to boxes 0 and 1, in step 2 20 to box 0, in step 3 20 to
-- box 1
abbrev pub splitting : ℕ → List ℕ
splitting m =
    set (set (set (set (silent 4) (place1 4 3 0) 20) (place1 4 3 1) 20) (place2 4 3 0 3) 20) (place3 4 3 1 3) 20

-- rows 10, 20, 30; box 3 is faulty
abbrev pub three : List ℕ
three = 10 ∷ 20 ∷ 30 ∷ 0 ∷ []

-- t iterations are too few: the premises hold, a faulty leader is counted by box 1 and not by box 0, and after t
-- iterations boxes 0 and 1 hold different rows
pub record TooFewIterations : Type 0 where
  pub setting : Premises 4 1 8 three splitting
  pub counts : confidence_in 4 1 8 splitting (replies 4 1 8 three splitting) 0 1 3 ≡ 1
  pub leaves : confidence_in 4 1 8 splitting (replies 4 1 8 three splitting) 0 0 3 ≡ 0
  pub box0 : get_or (rows_after (replies 4 1 8 three splitting) 1) 0 0 ≡ 10
  pub box1 : get_or (rows_after (replies 4 1 8 three splitting) 1) 1 0 ≡ 20

-- box 2 of 3 sends in step 3, for itself as leader, 5 to box 0 and 7 to box 1
abbrev pub two_faced : ℕ → List ℕ
two_faced m = set (set (silent 3) (place3 3 2 0 2) 5) (place3 3 2 1 2) 7

-- rows 10, 20; box 2 is faulty
abbrev pub two : List ℕ
two = 10 ∷ 20 ∷ 0 ∷ []

-- t + 1 faulty boxes are too many: with t = 0 and one faulty box no call is refused, and boxes 0 and 1 end with
-- different rows
pub record TooManyFaulty : Type 0 where
  pub faulty_count : faulty_boxes 3 4 ≡ 0 + 1
  pub start : (replies 3 0 4 two two_faced 0).refusal ≡ 0
  pub iteration : (replies 3 0 4 two two_faced (0 + 1)).refusal ≡ 0
  pub box0 : get_or (rows_after (replies 3 0 4 two two_faced) (0 + 1)) 0 0 ≡ 5
  pub box1 : get_or (rows_after (replies 3 0 4 two two_faced) (0 + 1)) 1 0 ≡ 7

-- box 2 of 3 sends, for itself as leader, 5 to box 0 and 7 to box 1, in step 1 and in step 2
abbrev pub wavering : List ℕ
wavering =
    set (set (set (set (silent 3) (place1 3 2 0) 5) (place1 3 2 1) 7) (place2 3 2 0 2) 5) (place2 3 2 1 2) 7

-- n = 3t is too small: the other premises of gradecast hold, and two sound boxes vote differently for one leader
pub record TooSmall : Type 0 where
  pub boxes : ◌≡◌ {A = ℕ} 3 (3 * 1)
  pub faulty_count : faulty_boxes 3 4 ≤ 1
  pub none_listed : NoSoundListed 3 4 (replicate 3 0)
  pub none_zero : SoundRowsNotZero 3 4 two
  pub vote0 : voted 3 1 4 two (replicate 3 0) wavering 0 2 ≡ 5
  pub vote1 : voted 3 1 4 two (replicate 3 0) wavering 1 2 ≡ 7

-- each of the three bounds is needed
pub record BoundsNeeded : Type 0 where
  pub too_few_iterations : TooFewIterations
  pub too_many_faulty : TooManyFaulty
  pub too_small : TooSmall

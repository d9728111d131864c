-- What the tests of a line `say` say: a number within a limit, the numbers that fit a step, and the line that is
-- understood, both ways. Assumes nothing.
use mathlib.Core.Path.{◌≡◌, sym, ◌∙◌}
use mathlib.Core.Bool.{Bool, true, false, ◌&&◌}
use mathlib.Core.List.{List}
use mathlib.Core.Logic.{⊎_elim}
use Prim.Native.Nat.{ℕ, ◌+◌, ◌<◌}
use native.Mathlib.Omega.{arith}
use lib.Dec.{eqb, leb}
use lib.ListN.{length}
use borrow.Author.Tests.{le-leb, leb-true, eqb-true, eqb-false, eq-eqb, ne_eqb}
use Rattle.counting.proofs.Bools.{either, both, not_both, and_left, and_right, and_false_right, cond_true, cond_false}
use Rattle.says.specs.Say.{within, iteration_in, step_in, sender_in, receiver_in, leader_in, fits_step, is_meant}
use Rattle.says.specs.Inside.{Among, Meant}

-- a number within 1 to a limit, both ways
module _ (limit number : ℕ) where
  pub within_among : within limit number ≡ true → Among limit number
  unfolding within
  within_among e =
      record {
        low = leb-true 1 number (and_left (leb 1 number) (leb number limit) e);
        high = leb-true number limit (and_right (leb 1 number) (leb number limit) e);
      }

  pub among_within : Among limit number → within limit number ≡ true
  unfolding within
  among_within a = both (le-leb 1 number a.low) (le-leb number limit a.high)

-- the numbers that fit a step
module _ (n : ℕ) (numbers : List ℕ) where
  -- six of them, where the step is not 1
  abbrev pub six : Bool
  six = within 3 (step_in numbers) && (eqb (length numbers) 6 && within n (leader_in numbers))

  pub fits_first : step_in numbers ≡ 1 → fits_step n numbers ≡ eqb (length numbers) 5
  unfolding fits_step
  fits_first e = cond_true (eqb (length numbers) 5) six (eq-eqb (step_in numbers) 1 e)

  pub fits_later : (step_in numbers ≡ 1 → ⊥) → fits_step n numbers ≡ six
  unfolding fits_step
  fits_later d = cond_false (eqb (length numbers) 5) six (ne_eqb (step_in numbers) 1 d)

  -- fewer than five fit none
  pub fits_none : length numbers < 5 → fits_step n numbers ≡ false
  fits_none h =
      ⊎_elim
      (λ t. fits_first (eqb-true (step_in numbers) 1 t) ∙ ne_eqb (length numbers) 5 (λ e. omega (arith, e)))
      (λ f.
      fits_later (eqb-false (step_in numbers) 1 f)
      ∙ and_false_right (within 3 (step_in numbers))
      (not_both (within n (leader_in numbers)) (ne_eqb (length numbers) 6 (λ e. omega (arith, e)))))
      (either (eqb (step_in numbers) 1))

  -- as many numbers as the step asks, and in steps 2 and 3 a leader
  module _ (fits : fits_step n numbers ≡ true) where
    pub fits_five : step_in numbers ≡ 1 → length numbers ≡ 5
    fits_five one = eqb-true (length numbers) 5 (sym (fits_first one) ∙ fits)

    abbrev leading : Bool
    leading = eqb (length numbers) 6 && within n (leader_in numbers)

    module _ (d : step_in numbers ≡ 1 → ⊥) where
      all_six : six ≡ true
      all_six = sym (fits_later d) ∙ fits

      pub fits_among : Among 3 (step_in numbers)
      fits_among = within_among _ _ (and_left (within 3 (step_in numbers)) leading all_six)

      pub fits_six : length numbers ≡ 6
      fits_six =
          eqb-true (length numbers) 6
          (and_left (eqb (length numbers) 6) (within n (leader_in numbers))
          (and_right (within 3 (step_in numbers)) leading all_six))

      pub fits_leader : Among n (leader_in numbers)
      fits_leader =
          within_among _ _
          (and_right (eqb (length numbers) 6) (within n (leader_in numbers))
          (and_right (within 3 (step_in numbers)) leading all_six))

-- a line that is understood, both ways
module _ (n t : ℕ) (numbers : List ℕ) where
  pub all_meant : fits_step n numbers ≡ true → Among (t + 1) (iteration_in numbers) → Among n (sender_in numbers) →
      Among n (receiver_in numbers) → is_meant n t numbers ≡ true
  unfolding is_meant
  all_meant fits iteration sender receiver =
      both fits
      (both (among_within _ _ iteration) (both (among_within _ _ sender) (among_within _ _ receiver)))

  module _ (e : is_meant n t numbers ≡ true) where
    abbrev ranges : Bool
    ranges = within (t + 1) (iteration_in numbers) && (within n (sender_in numbers) && within n (receiver_in numbers))

    pub fitting : fits_step n numbers ≡ true
    unfolding is_meant
    fitting = and_left (fits_step n numbers) ranges e

    pub meant_five : step_in numbers ≡ 1 → length numbers ≡ 5
    meant_five = fits_five n numbers fitting

    pub meant_six : (step_in numbers ≡ 1 → ⊥) → length numbers ≡ 6
    meant_six = fits_six n numbers fitting

    pub meant_of : Meant n t numbers
    unfolding is_meant
    meant_of =
        let sender = within n (sender_in numbers) in
        let receiver = within n (receiver_in numbers) in
        let iteration = within (t + 1) (iteration_in numbers) in
        let all = and_right (fits_step n numbers) ranges e in
        let boxes = and_right iteration (sender && receiver) all in
        let first = either (eqb (step_in numbers) 1) in
        record {
          five =
              ⊎_elim
              (λ yes. omega (arith, meant_five (eqb-true (step_in numbers) 1 yes)))
              (λ no. omega (arith, meant_six (eqb-false (step_in numbers) 1 no)))
              first;
          iteration = within_among _ _ (and_left iteration (sender && receiver) all);
          step =
              ⊎_elim
              (λ yes.
              let one = eqb-true (step_in numbers) 1 yes in
              record { low = omega (arith, one); high = omega (arith, one) })
              (λ no. fits_among n numbers fitting (eqb-false (step_in numbers) 1 no))
              first;
          sender = within_among _ _ (and_left sender receiver boxes);
          receiver = within_among _ _ (and_right sender receiver boxes);
          leader = fits_leader n numbers fitting;
        }

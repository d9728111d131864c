-- The place that a line names, from what its numbers give one by one: a sender and a receiver, and in steps 2 and 3 a
-- leader; and the line that is understood, which names an iteration besides. Assumes nothing.
use mathlib.Core.Path.{◌≡◌, sym, ◌∙◌}
use mathlib.Core.Bool.{true, false}
use mathlib.Core.List.{List}
use mathlib.Core.Logic.{⊎_elim}
use Prim.Native.Nat.{ℕ, ◌+◌, ◌-◌, ◌*◌, ◌≤◌, ◌<◌}
use native.Mathlib.Omega.{arith}
use lib.Dec.{eqb}
use lib.ListN.{length}
use borrow.Author.Tests.{eq-eqb, eqb-true, eqb-false}
use Rattle.std.proofs.Common.{Option, Some, None, MatchOption}
use Rattle.counting.proofs.Bools.{either, both, not_both}
use Rattle.gradecast.specs.Steps.{place1, place_from}
use Rattle.says.specs.Say.{iteration_in, step_in, sender_in, receiver_in, leader_in, is_meant, place_said}
use Rattle.says.specs.Inside.{Among, Placed}
use Rattle.says.proofs.Laws.{
  among_within,
  fits_first,
  fits_later,
  fits_none,
  fits_five,
  fits_among,
  fits_six,
  fits_leader,
  all_meant,
  fitting,
  meant_of,
}
use Rattle.says.proofs.Places.{said_first, said_second, said_third}

-- a line that is understood, or not
module _ (n t : ℕ) (numbers : List ℕ) where
  pub not_meant : (is_meant n t numbers ≡ true → ⊥) → is_meant n t numbers ≡ false
  not_meant d = ⊎_elim (λ yes. absurd (d yes)) (λ no. no) (either (is_meant n t numbers))

  pub no_meaning : (reply : Option ℕ) (at : ℕ) → reply ≡ None → (is_meant n t numbers ≡ true → ⊥) →
      MatchOption reply (is_meant n t numbers ≡ false) (λ k. (is_meant n t numbers ≡ true) × (k ≡ at))
  no_meaning reply at e d = rw e (not_meant d)

  pub few_meant : length numbers < 5 → is_meant n t numbers ≡ false
  unfolding is_meant
  few_meant h = not_both _ (fits_none n numbers h)

  pub meant_placed : is_meant n t numbers ≡ true → Placed n numbers
  meant_placed e =
      let m = meant_of n t numbers e in
      record { fits = fitting n t numbers e; sender = m.sender; receiver = m.receiver }

  pub placed_meant : Placed n numbers → Among (t + 1) (iteration_in numbers) → is_meant n t numbers ≡ true
  placed_meant p iteration = all_meant n t numbers p.fits iteration p.sender p.receiver

module _ (n : ℕ) (numbers : List ℕ) where
  -- what a reply says of the place
  abbrev pub IsPlace : Option ℕ → Type 0
  IsPlace reply =
      MatchOption reply (Placed n numbers → ⊥) (λ place. Placed n numbers × (place ≡ place_said n numbers))

  pub no_place : (reply : Option ℕ) → reply ≡ None → (Placed n numbers → ⊥) → IsPlace reply
  no_place reply e h = rw e h

  -- step 1
  module _ (one : step_in numbers ≡ 1) (five : length numbers ≡ 5) where
    pub first_place : (reply : Option ℕ) →
        MatchOption reply (Among n (sender_in numbers) × Among n (receiver_in numbers) → ⊥)
        (λ place.
        Among n (sender_in numbers) × Among n (receiver_in numbers) ×
        (place ≡ place1 n (sender_in numbers - 1) (receiver_in numbers - 1)) × (place < n * n)) →
        IsPlace reply
    unfolding place1
    first_place None h = λ p. h (p.sender, p.receiver)
    first_place (Some place) (sender, receiver, is, _) = (
      record { fits = fits_first n numbers one ∙ eq-eqb _ 5 five; sender = sender; receiver = receiver },
      is ∙ sym (said_first n numbers one),
    )

  -- steps 2 and 3
  abbrev pub Boxes : Type 0
  Boxes = Among n (sender_in numbers) × Among n (receiver_in numbers) × Among n (leader_in numbers)

  module _ (low : 2 ≤ step_in numbers) where
    abbrev later : step_in numbers ≡ 1 → ⊥
    later e = omega (arith, e, low)

    pub not_placed : (Boxes → ⊥) → Placed n numbers → ⊥
    not_placed h p = h (p.sender, p.receiver, fits_leader n numbers p.fits later)

    pub later_placed : step_in numbers ≤ 3 → length numbers ≡ 6 → Boxes → Placed n numbers
    later_placed high six (sender, receiver, leader) =
        record {
          fits =
              fits_later n numbers later
              ∙ both (among_within 3 _ (record { low = omega (arith, low); high = high }))
              (both (eq-eqb _ 6 six) (among_within n _ leader));
          sender = sender;
          receiver = receiver;
        }

  pub second_is : (place : ℕ) → step_in numbers ≡ 2 →
      place ≡ place_from 0 n (sender_in numbers - 1) (receiver_in numbers - 1) (leader_in numbers - 1) →
      n * n + place ≡ place_said n numbers
  unfolding place_from
  second_is place two e = omega (arith, e, said_second n numbers two)

  pub third_is : (place : ℕ) → step_in numbers ≡ 3 →
      place ≡ place_from 0 n (sender_in numbers - 1) (receiver_in numbers - 1) (leader_in numbers - 1) →
      n * n + n * n * n + place ≡ place_said n numbers
  unfolding place_from
  third_is place three e =
      omega (arith, e, said_third n numbers (λ x. omega (arith, x, three)) (λ x. omega (arith, x, three)))

  -- no step has other numbers
  pub other_numbers : (length numbers ≡ 5 → step_in numbers ≡ 1 → ⊥) →
      (length numbers ≡ 6 → step_in numbers ≡ 2 → ⊥) → (length numbers ≡ 6 → step_in numbers ≡ 3 → ⊥) →
      Placed n numbers → ⊥
  other_numbers not_one not_two not_three p =
      ⊎_elim
      (λ one. let e = eqb-true (step_in numbers) 1 one in not_one (fits_five n numbers p.fits e) e)
      (λ other.
      let d = eqb-false (step_in numbers) 1 other in
      let six = fits_six n numbers p.fits d in
      let a = fits_among n numbers p.fits d in
      ⊎_elim
      (λ two. not_two six (eqb-true (step_in numbers) 2 two))
      (λ three. not_three six (omega (arith, a.low, a.high, d, eqb-false (step_in numbers) 2 three)))
      (either (eqb (step_in numbers) 2)))
      (either (eqb (step_in numbers) 1))

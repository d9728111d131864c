-- Lines `say` and places of a table: the place that a line names, by its step, lies within the table; the line of a
-- place names that place; and the line of the place that a line names is that line again. Assumes nothing.
use mathlib.Core.Path.{◌≡◌, refl, sym, ap, ap₂, ◌∙◌}
use mathlib.Core.Bool.{true}
use mathlib.Core.List.{List, [], ◌∷◌}
use mathlib.Core.Logic.{⊎_elim}
use Prim.Native.Nat.{ℕ, zero, suc, ◌+◌, ◌-◌, ◌*◌, ◌/◌, ◌%◌, ◌≤◌, ◌<◌}
use native.Mathlib.Nat.{
  zero-mul,
  one-mul,
  suc-mul,
  mul-pos,
  mul-le-mul_right,
  div-add-mod',
  div-lt_iff_lt-mul,
  mod-lt,
}
use native.Mathlib.Omega.{arith}
use lib.Arith.{digits_div, digits_mod}
use lib.Dec.{eqb, ltb}
use lib.ListN.{length, get_or}
use borrow.Author.Tests.{lt-ltb, le-ltb, ltb-true, ltb-false, eqb-true, eqb-false, eq-eqb, ne_eqb}
use Rattle.counting.specs.Count.{build}
use Rattle.counting.proofs.Bools.{either, both, cond_true, cond_false}
use Rattle.counting.proofs.Build.{built}
use Rattle.sizes.specs.Sizes.{table_rows}
use Rattle.gradecast.specs.Steps.{place1, place_from, place2, place3}
use Rattle.gradecast.proofs.Places.{two_digits, three_digits, first_fits, second_fits, third_fits}
use Rattle.listing.specs.File.{table_bytes, table_begins}
use Rattle.says.specs.Say.{
  iteration_in,
  step_in,
  sender_in,
  receiver_in,
  leader_in,
  row_in,
  is_meant,
  place_of,
  place_said,
  say_at,
  later_numbers,
  say_numbers,
}
use Rattle.says.specs.Inside.{Among, Meant}
use Rattle.says.proofs.Laws.{among_within, fits_first, fits_later, all_meant, meant_five, meant_six, meant_of}
use Rattle.says.proofs.Digits.{
  four,
  four_make,
  four_sum,
  first_digit,
  second_digit,
  third_digit,
  fourth_digit,
}

-- a box of a line, counted from 0
pub box_fits : {n k : ℕ} → Among n k → k - 1 < n
box_fits a = omega (arith, a.low, a.high)

module _ (n : ℕ) (numbers : List ℕ) where
  -- sender and receiver as a number in base n, and with the leader
  abbrev pub pair : ℕ
  pair = (sender_in numbers - 1) * n + (receiver_in numbers - 1)

  abbrev pub triple : ℕ
  triple = pair * n + (leader_in numbers - 1)

  -- the place by the step
  pub said_first : step_in numbers ≡ 1 → place_said n numbers ≡ pair
  unfolding place_said place_of place1
  said_first e = rw (eq-eqb (step_in numbers) 1 e) refl

  pub said_second : step_in numbers ≡ 2 → place_said n numbers ≡ n * n + triple
  unfolding place_said place_of place2 place_from
  said_second e = rw e refl

  pub said_third : (step_in numbers ≡ 1 → ⊥) → (step_in numbers ≡ 2 → ⊥) →
      place_said n numbers ≡ n * n + n * n * n + triple
  unfolding place_said place_of place3 place_from
  said_third d1 d2 = rw (ne_eqb (step_in numbers) 1 d1, ne_eqb (step_in numbers) 2 d2) refl

  -- steps 2 and 3 at once
  said_later : (k : ℕ) → k < 2 → step_in numbers ≡ 2 + k →
      place_said n numbers ≡ n * n + (k * (n * n * n) + triple)
  said_later zero h e = said_second e ∙ omega (arith, zero-mul (n * n * n))
  said_later (suc zero) h e =
      said_third (λ x. omega (arith, e, x)) (λ x. omega (arith, e, x)) ∙ omega (arith, one-mul (n * n * n))
  said_later (suc (suc k)) h e = absurd (omega arith)

  module _ {t : ℕ} (m : Meant n t numbers) where
    pub pair_fits : pair < n * n
    pair_fits = two_digits (box_fits m.sender) (box_fits m.receiver)

    pub triple_fits : (step_in numbers ≡ 1 → ⊥) → triple < n * n * n
    triple_fits d = three_digits (box_fits m.sender) (box_fits m.receiver) (box_fits (m.leader d))

    -- which lies within the table
    pub said_inside : place_said n numbers < table_rows n
    said_inside =
        ⊎_elim
        (λ one. omega (arith, said_first (eqb-true _ 1 one), pair_fits, first_fits n))
        (λ other.
        let d = eqb-false (step_in numbers) 1 other in
        ⊎_elim
        (λ two. omega (arith, said_second (eqb-true _ 2 two), triple_fits d, second_fits n))
        (λ three. omega (arith, said_third d (eqb-false _ 2 three), triple_fits d, third_fits n))
        (either (eqb (step_in numbers) 2)))
        (either (eqb (step_in numbers) 1))

-- a line that is understood names a place within its table, whose eight bytes lie within the file of t + 1 tables
module _ (n t : ℕ) (numbers : List ℕ) (meant : is_meant n t numbers ≡ true) where
  pub place_inside : place_said n numbers < table_rows n
  place_inside = said_inside n numbers (meant_of n t numbers meant)

  pub at_inside : say_at n numbers + 8 ≤ table_begins n (t + 1)
  unfolding say_at table_begins table_bytes
  at_inside =
      let m = meant_of n t numbers meant in
      let before = iteration_in numbers - 1 in
      let within : suc before ≤ t + 1 = omega (arith, m.iteration.low, m.iteration.high) in
      omega (
        arith,
        place_inside,
        suc-mul before (8 * table_rows n),
        mul-le-mul_right (8 * table_rows n) within,
      )

-- numbers that name a place of a table, with a row
pub record Names (n t table place row : ℕ) (numbers : List ℕ) : Type 0 where
  pub meant : is_meant n t numbers ≡ true
  pub place_is : place_said n numbers ≡ place
  pub at_is : say_at n numbers ≡ table_begins n table + 8 * place
  pub row_is : row_in numbers ≡ row

less_one : (k : ℕ) → 1 + k - 1 ≡ k
less_one k = omega arith

at_place : (n table place : ℕ) (numbers : List ℕ) → iteration_in numbers ≡ table + 1 →
    place_said n numbers ≡ place →
    say_at n numbers ≡ table_begins n table + 8 * place
unfolding say_at
at_place n table place numbers i p =
    let before : iteration_in numbers - 1 ≡ table = omega (arith, i) in
    ap₂ (λ (m k : ℕ). table_begins n m + 8 * k) before p

module _ (n t table place row : ℕ) (low : 1 ≤ n) (few : table ≤ t) where
  abbrev five_numbers : List ℕ
  five_numbers = (table + 1) ∷ 1 ∷ (1 + place / n) ∷ (1 + place % n) ∷ row ∷ []

  first_names : place < n * n → Names n t table place row five_numbers
  first_names h =
      let sender : place / n < n = (div-lt_iff_lt-mul low).1 h in
      let receiver : place % n < n = mod-lt place low in
      let said : place_said n five_numbers ≡ place =
      said_first n five_numbers refl
      ∙ ap₂ (λ (a b : ℕ). a * n + b) (less_one (place / n)) (less_one (place % n))
      ∙ div-add-mod' place n in
      record {
        meant =
            all_meant n t five_numbers (fits_first n five_numbers refl ∙ eq-eqb 5 5 refl)
            (record { low = omega arith; high = omega arith })
            (record { low = omega arith; high = omega arith })
            (record { low = omega arith; high = omega arith });
        place_is = said;
        at_is = at_place n table place five_numbers refl said;
        row_is = refl;
      }

  later_names : (q : ℕ) → q < 2 * (n * n * n) → place ≡ n * n + q →
      Names n t table place row (later_numbers n table q row)
  unfolding later_numbers
  later_names q h e =
      let numbers = later_numbers n table q row in
      let cube : 0 < n * n * n = mul-pos (mul-pos low low) low in
      let step : q / (n * n * n) < 2 = (div-lt_iff_lt-mul cube).1 h in
      let sender : q / (n * n) % n < n = mod-lt (q / (n * n)) low in
      let receiver : q / n % n < n = mod-lt (q / n) low in
      let leader : q % n < n = mod-lt q low in
      let digits : triple n numbers ≡ (q / (n * n) % n * n + q / n % n) * n + q % n =
      ap₂ (λ (a b : ℕ). a * n + b)
      (ap₂ (λ (a b : ℕ). a * n + b) (less_one (q / (n * n) % n)) (less_one (q / n % n)))
      (less_one (q % n)) in
      let whole =
      four_make n q ∙ four_sum n (q / (n * n * n)) (q / (n * n) % n) (q / n % n) (q % n) in
      let said : place_said n numbers ≡ place =
      said_later n numbers (q / (n * n * n)) step refl ∙ omega (arith, e, digits, whole) in
      record {
        meant =
            all_meant n t numbers
            (fits_later n numbers (λ x. omega (arith, x))
            ∙ both (among_within 3 _ (record { low = omega arith; high = omega arith }))
            (both (eq-eqb 6 6 refl) (among_within n _ (record { low = omega arith; high = omega arith }))))
            (record { low = omega arith; high = omega arith })
            (record { low = omega arith; high = omega arith })
            (record { low = omega arith; high = omega arith });
        place_is = said;
        at_is = at_place n table place numbers refl said;
        row_is = refl;
      }

-- the line of a place names it
pub line_of_place : (n t table place row : ℕ) → 1 ≤ n → table ≤ t → place < table_rows n →
    Names n t table place row (say_numbers n table place row)
unfolding say_numbers table_rows
line_of_place n t table place row low few inside =
    ⊎_elim
    (λ yes. rw yes (first_names n t table place row low few (ltb-true place (n * n) yes)))
    (λ no.
    let behind = ltb-false place (n * n) no in
    rw no (later_names n t table place row low few (place - n * n) (omega arith) (omega arith)))
    (either (ltb place (n * n)))

-- the numbers of a line, one by one
listed5 : (numbers : List ℕ) → length numbers ≡ 5 →
    numbers ≡ iteration_in numbers ∷ step_in numbers ∷ sender_in numbers ∷ receiver_in numbers
    ∷ row_in numbers ∷ []
unfolding build
listed5 numbers five =
    built 5 (λ k. get_or numbers k 0) numbers five (λ k l. refl)
    ∙ ap
    (λ (row : ℕ).
    iteration_in numbers ∷ step_in numbers ∷ sender_in numbers ∷ receiver_in numbers ∷ row ∷ [])
    (ap (λ (k : ℕ). get_or numbers (k - 1) 0) (sym five))

listed6 : (numbers : List ℕ) → length numbers ≡ 6 →
    numbers ≡ iteration_in numbers ∷ step_in numbers ∷ sender_in numbers ∷ receiver_in numbers
    ∷ leader_in numbers ∷ row_in numbers ∷ []
unfolding build
listed6 numbers six =
    built 6 (λ k. get_or numbers k 0) numbers six (λ k l. refl)
    ∙ ap
    (λ (row : ℕ).
    iteration_in numbers ∷ step_in numbers ∷ sender_in numbers ∷ receiver_in numbers
    ∷ leader_in numbers ∷ row ∷ [])
    (ap (λ (k : ℕ). get_or numbers (k - 1) 0) (sym six))

-- the other way: the line of the place that a line names
one_more : {limit k x : ℕ} → Among limit k → x ≡ k - 1 → 1 + x ≡ k
one_more a e = omega (arith, a.low, e)

module _ (n t : ℕ) (numbers : List ℕ) (m : Meant n t numbers) where
  abbrev again : List ℕ
  again = say_numbers n (iteration_in numbers - 1) (place_said n numbers) (row_in numbers)

  iteration_again : iteration_in numbers - 1 + 1 ≡ iteration_in numbers
  iteration_again = omega (arith, m.iteration.low)

  first_again : step_in numbers ≡ 1 → length numbers ≡ 5 → again ≡ numbers
  unfolding say_numbers
  first_again one five =
      let place = said_first n numbers one in
      let lower : place_said n numbers < n * n = omega (arith, place, pair_fits n numbers m) in
      let high : 1 + place_said n numbers / n ≡ sender_in numbers =
      one_more m.sender
      (ap (λ (x : ℕ). x / n) place ∙ digits_div (sender_in numbers - 1) (box_fits m.receiver)) in
      let last : 1 + place_said n numbers % n ≡ receiver_in numbers =
      one_more m.receiver
      (ap (λ (x : ℕ). x % n) place ∙ digits_mod (sender_in numbers - 1) (box_fits m.receiver)) in
      cond_true _ _ (lt-ltb (place_said n numbers) (n * n) lower)
      ∙ cc (iteration_again, one, high, last, listed5 numbers five)

  later_again : (k : ℕ) → k < 2 → step_in numbers ≡ 2 + k → length numbers ≡ 6 → again ≡ numbers
  unfolding say_numbers later_numbers
  later_again k h step six =
      let hs = box_fits m.sender in
      let hr = box_fits m.receiver in
      let leading = m.leader (λ e. omega (arith, e, step)) in
      let hl = box_fits leading in
      let place = said_later n numbers k h step in
      let q = place_said n numbers - n * n in
      let sum = four_sum n k (sender_in numbers - 1) (receiver_in numbers - 1) (leader_in numbers - 1) in
      let digits : q ≡ four n k (sender_in numbers - 1) (receiver_in numbers - 1) (leader_in numbers - 1) =
      omega (arith, place, sum) in
      let behind : n * n ≤ place_said n numbers = omega (arith, place) in
      let first : 2 + q / (n * n * n) ≡ step_in numbers =
      ap (λ (x : ℕ). 2 + x / (n * n * n)) digits
      ∙ ap (λ (x : ℕ). 2 + x) (first_digit k hs hr hl)
      ∙ sym step in
      let second : 1 + q / (n * n) % n ≡ sender_in numbers =
      one_more m.sender (ap (λ (x : ℕ). x / (n * n) % n) digits ∙ second_digit k hs hr hl) in
      let third : 1 + q / n % n ≡ receiver_in numbers =
      one_more m.receiver (ap (λ (x : ℕ). x / n % n) digits ∙ third_digit k hs hr hl) in
      let fourth : 1 + q % n ≡ leader_in numbers =
      one_more leading (ap (λ (x : ℕ). x % n) digits ∙ fourth_digit k hs hr hl) in
      cond_false _ _ (le-ltb (place_said n numbers) (n * n) behind)
      ∙ cc (iteration_again, first, second, third, fourth, listed6 numbers six)

pub place_of_line : (n t : ℕ) (numbers : List ℕ) → is_meant n t numbers ≡ true →
    say_numbers n (iteration_in numbers - 1) (place_said n numbers) (row_in numbers) ≡ numbers
place_of_line n t numbers meant =
    let m = meant_of n t numbers meant in
    ⊎_elim
    (λ yes.
    let one = eqb-true (step_in numbers) 1 yes in
    first_again n t numbers m one (meant_five n t numbers meant one))
    (λ no.
    let d = eqb-false (step_in numbers) 1 no in
    let above : 2 ≤ step_in numbers = omega (arith, d, m.step.low) in
    later_again n t numbers m (step_in numbers - 2) (omega (arith, m.step.high)) (omega arith)
    (meant_six n t numbers meant d))
    (either (eqb (step_in numbers) 1))

-- The lines `say` of a text, as docs/TEXT.md has them: where in the file the row of a line goes, and the line of a
-- place of a table. Boxes and iterations count from 1 in the text and from 0 in a place.
use Rattle.std.specs.Prelude.{
  ℕ,
  ◌+◌,
  ◌-◌,
  ◌*◌,
  ◌/◌,
  ◌%◌,
  Bool,
  true,
  false,
  cond,
  ◌&&◌,
  List,
  [],
  ◌∷◌,
  eqb,
  leb,
  ltb,
  length,
  get_or,
}
use Rattle.sizes.specs.Sizes.{outside, size_refusal}
use Rattle.gradecast.specs.Steps.{place1, place2, place3}
use Rattle.lines.specs.declared.Written.{Written}
use Rattle.lines.specs.Line.{line_of, line_reply, line_writes}
use Rattle.listing.specs.File.{table_begins}
use Rattle.says.specs.declared.Place.{Place}

-- the words of a text that a listing has not: rows, say
abbrev pub rows_word : List ℕ
rows_word = 114 ∷ 111 ∷ 119 ∷ 115 ∷ []

abbrev pub say_word : List ℕ
say_word = 115 ∷ 97 ∷ 121 ∷ []

-- is a number 1 to a limit?
unfoldable pub within : ℕ → ℕ → Bool
within limit number = leb 1 number && leb number limit

-- the numbers of a line `say`, in order: iteration, step, sender, receiver, in steps 2 and 3 the leader, and the row
abbrev pub iteration_in : List ℕ → ℕ
iteration_in numbers = get_or numbers 0 0

abbrev pub step_in : List ℕ → ℕ
step_in numbers = get_or numbers 1 0

abbrev pub sender_in : List ℕ → ℕ
sender_in numbers = get_or numbers 2 0

abbrev pub receiver_in : List ℕ → ℕ
receiver_in numbers = get_or numbers 3 0

abbrev pub leader_in : List ℕ → ℕ
leader_in numbers = get_or numbers 4 0

abbrev pub row_in : List ℕ → ℕ
row_in numbers = get_or numbers (length numbers - 1) 0

-- five numbers in step 1, six in steps 2 and 3, where the fifth is a box, and no other step
unfoldable pub fits_step : ℕ → List ℕ → Bool
fits_step n numbers =
    cond (eqb (step_in numbers) 1) (eqb (length numbers) 5)
    (within 3 (step_in numbers) && (eqb (length numbers) 6 && within n (leader_in numbers)))

-- is it understood, with n boxes and t tolerated? The iteration is 1 to t + 1, and sender and receiver are boxes
unfoldable pub is_meant : ℕ → ℕ → List ℕ → Bool
is_meant n t numbers =
    fits_step n numbers &&
    (within (t + 1) (iteration_in numbers) && (within n (sender_in numbers) && within n (receiver_in numbers)))

-- the place of a table for a step, 1 to 3, and boxes from 0
unfoldable pub place_of : ℕ → ℕ → ℕ → ℕ → ℕ → ℕ
place_of n step sender receiver leader =
    cond (eqb step 1) (place1 n sender receiver)
    (cond (eqb step 2) (place2 n sender receiver leader) (place3 n sender receiver leader))

-- the place that a line names
unfoldable pub place_said : ℕ → List ℕ → ℕ
place_said n numbers =
    place_of n (step_in numbers) (sender_in numbers - 1) (receiver_in numbers - 1) (leader_in numbers - 1)

-- where in the file its eight bytes go
unfoldable pub say_at : ℕ → List ℕ → ℕ
say_at n numbers = table_begins n (iteration_in numbers - 1) + 8 * place_said n numbers

-- the reply of the place of a line: refusals 4 and 5; whether it is understood; and where its row goes, 0 where it is
-- not
unfoldable pub place_reply : ℕ → ℕ → List ℕ → Place
place_reply n t numbers =
    cond (eqb (size_refusal n t) 0)
    (cond (is_meant n t numbers)
    (record { refusal = 0; meant = true; at = say_at n numbers })
    (record { refusal = 0; meant = false; at = 0 }))
    (record { refusal = size_refusal n t; meant = false; at = 0 })

-- the numbers of the line of a place of step 2 or 3, q places behind those of step 1
unfoldable pub later_numbers : ℕ → ℕ → ℕ → ℕ → List ℕ
later_numbers n table q row =
    (table + 1) ∷
    (2 + q / (n * n * n)) ∷
    (1 + q / (n * n) % n) ∷
    (1 + q / n % n) ∷
    (1 + q % n) ∷
    row ∷
    []

-- the numbers of the line of a place of a table, both from 0, with a row
unfoldable pub say_numbers : ℕ → ℕ → ℕ → ℕ → List ℕ
say_numbers n table place row =
    cond (ltb place (n * n)) ((table + 1) ∷ 1 ∷ (1 + place / n) ∷ (1 + place % n) ∷ row ∷ [])
    (later_numbers n table (place - n * n) row)

-- the line of a place
unfoldable pub say_line : ℕ → ℕ → ℕ → ℕ → List ℕ
say_line n table place row = line_of say_word (say_numbers n table place row)

-- the reply of the line of a place: refusals 4, 10; `room` is the length of the slice
unfoldable pub say_reply : ℕ → ℕ → ℕ → ℕ → ℕ → Written
say_reply n table place row room =
    cond (outside n) (record { refusal = 4; size = 0 }) (line_reply say_word (say_numbers n table place row) room)

-- the slice afterwards
unfoldable pub say_writes : ℕ → ℕ → ℕ → ℕ → List ℕ → List ℕ
say_writes n table place row slice =
    cond (outside n) slice (line_writes say_word (say_numbers n table place row) slice)

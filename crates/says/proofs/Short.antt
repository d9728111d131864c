-- How long what is written can be: a line `say` has at most 38 bytes, and what is told at most 110.
-- Assumes nothing.
use mathlib.Core.Path.{◌≡◌, ap, ◌∙◌}
use mathlib.Core.Bool.{Bool, true, false, cond}
use mathlib.Core.List.{List}
use mathlib.Core.Logic.{⊎_elim}
use Prim.Native.Nat.{ℕ, zero, suc, ◌+◌, ◌-◌, ◌^◌, ◌≤◌, ◌<◌}
use native.Mathlib.Omega.{arith}
use lib.Dec.{eqb}
use lib.ListN.{length, get_or, length-append}
use borrow.Author.Tests.{eqb-true, eqb-false}
use Rattle.counting.specs.Count.{sum}
use Rattle.counting.proofs.Bools.{either}
use Rattle.sizes.specs.Sizes.{table_rows}
use Rattle.lines.specs.Line.{decimal, line_of}
use Rattle.lines.proofs.Decimal.{decimal_most, decimal_20}
use Rattle.lines.proofs.Lines.{line_size}
use Rattle.listing.proofs.Text.{refused_most}
use Rattle.says.specs.Say.{say_word, iteration_in, step_in, row_in, is_meant, say_numbers, say_line}
use Rattle.says.specs.Told.{
  too_long,
  no_numbers,
  run_due,
  rows_due,
  say_due,
  not_understood_line,
  sentence,
  fault_line,
  told_text,
}
use Rattle.says.specs.Inside.{Among}
use Rattle.says.proofs.Laws.{meant_five, meant_six, meant_of}
use Rattle.says.proofs.Places.{line_of_place}
use Rattle.says.proofs.Faults.{line_start, front_short}

-- a line that is understood, where the largest t is 4
module _ (n t : ℕ) (numbers : List ℕ) (meant : is_meant n t numbers ≡ true) (few : n ≤ 13) (largest : t ≤ 4)
    (fits : row_in numbers < 2 ^ 64) where
  -- what a number takes: a space and its digits
  abbrev bytes : ℕ → ℕ
  bytes i = 1 + length (decimal (get_or numbers i 0))

  -- a box has two digits at most, a step and an iteration one, and a row 20
  box : {k : ℕ} → Among n k → length (decimal k) ≤ 2
  box {k} a = decimal_most 1 k (omega (arith, a.high))

  first_four : sum 4 bytes ≤ 10
  unfolding sum
  first_four =
      let m = meant_of n t numbers meant in
      omega (
        arith,
        decimal_most 0 (iteration_in numbers) (omega (arith, m.iteration.high)),
        decimal_most 0 (step_in numbers) (omega (arith, m.step.high)),
        box m.sender,
        box m.receiver,
      )

  row_short : (k : ℕ) → length numbers ≡ k + 1 → bytes k ≤ 21
  row_short k e =
      let last : length numbers - 1 ≡ k = omega arith in
      omega (arith, decimal_20 (get_or numbers k 0) (rw last at fits))

  sized : (k : ℕ) → length numbers ≡ k → length (line_of say_word numbers) ≡ 3 + sum k bytes + 1
  sized k e = line_size say_word numbers ∙ ap (λ (j : ℕ). 3 + sum j bytes + 1) e

  pub meant_short : length (line_of say_word numbers) ≤ 38
  unfolding sum
  meant_short =
      ⊎_elim
      (λ yes.
      let five = meant_five n t numbers meant (eqb-true (step_in numbers) 1 yes) in
      omega (arith, sized 5 five, first_four, row_short 4 five))
      (λ no.
      let d = eqb-false (step_in numbers) 1 no in
      let six = meant_six n t numbers meant d in
      omega (arith, sized 6 six, first_four, box ((meant_of n t numbers meant).leader d), row_short 5 six))
      (either (eqb (step_in numbers) 1))

-- a table with a place has a box
some_box : (n place : ℕ) → place < table_rows n → 1 ≤ n
unfolding table_rows
some_box zero place h = absurd (omega arith)
some_box (suc n) place h = omega arith

-- the line of a place
pub say_short : (n table place row : ℕ) → n ≤ 13 → table ≤ 4 → place < table_rows n → row < 2 ^ 64 →
    length (say_line n table place row) ≤ 40
unfolding say_line
say_short n table place row few largest inside fits =
    let names = line_of_place n 4 table place row (some_box n place inside) largest inside in
    let short = meant_short n 4 (say_numbers n table place row) names.meant few (omega arith) in
    omega (arith, short (omega (arith, names.row_is)))

-- a sentence, and what is told
sentence_short : (fault : ℕ) → length (sentence fault) ≤ 85
unfolding sentence
sentence_short fault = go (eqb fault 1) (eqb fault 2) (eqb fault 3) (eqb fault 4) (eqb fault 5)
  where
    go : (a b c d e : Bool) →
        length
        (cond a too_long (cond b no_numbers (cond c run_due (cond d rows_due (cond e say_due not_understood_line)))))
        ≤ 85
    go true b c d e = omega arith
    go false true c d e = omega arith
    go false false true d e = omega arith
    go false false false true e = omega arith
    go false false false false true = omega arith
    go false false false false false = omega arith

pub told_short : (refusal line fault : ℕ) → refusal < 2 ^ 8 → line < 2 ^ 64 →
    length (told_text refusal line fault) ≤ 110
unfolding told_text fault_line
told_short refusal line fault hr hl =
    ⊎_elim
    (λ (none : eqb refusal 0 ≡ true).
    ⊎_elim
    (λ (nothing : eqb fault 0 ≡ true). rw (none, nothing) (omega arith))
    (λ (some : eqb fault 0 ≡ false).
    rw (none, some)
    (omega (
      arith,
      length-append (line_start line) (sentence fault),
      front_short line hl,
      sentence_short fault,
    )))
    (either (eqb fault 0)))
    (λ (refused : eqb refusal 0 ≡ false). rw refused (omega (arith, refused_most refusal hr)))
    (either (eqb refusal 0))

-- The vote of step 3, the grade of step 4 and the choice of step 5, over lists of rows. 0 means nothing.
use Rattle.std.specs.Prelude.{ℕ, ◌+◌, ◌-◌, ◌*◌, Bool, cond, not, ◌&&◌, List, eqb, leb, ltb, length, get_or}
use Rattle.counting.specs.Count.{count, any, build, find}
use Rattle.counting.specs.Most.{support, most, places}

-- step 3: is v a non-zero row that stands at least n − t times?
unfoldable pub carried : ℕ → List ℕ → ℕ → Bool
carried t xs v = not (eqb v 0) && leb (length xs - t) (places xs v)

-- step 3: the non-zero row that stands at least n − t times, or 0
unfoldable pub vote_of : ℕ → List ℕ → ℕ
vote_of t xs = find (length xs) (carried t xs) (λ k. get_or xs k 0)

-- refusal 7: two different rows each stand n − t times or more
unfoldable pub two_rows : ℕ → List ℕ → Bool
two_rows t xs =
    any (length xs) (λ i.
    any (length xs) (λ j.
    carried t xs (get_or xs i 0) && carried t xs (get_or xs j 0) && not (eqb (get_or xs i 0) (get_or xs j 0))))

-- step 4: the number of places of the row found most often
unfoldable pub support_of : List ℕ → ℕ
support_of xs = support xs (most xs)

-- step 4: support of 2t + 1 or more gives confidence 2; more than t and less than 2t + 1 gives 1; otherwise 0
unfoldable pub confidence_at : ℕ → ℕ → ℕ
confidence_at t support = cond (leb (2 * t + 1) support) 2 (cond (ltb t support) 1 0)

-- step 4: the confidence in the row found most often
unfoldable pub confidence_of : ℕ → List ℕ → ℕ
confidence_of t xs = confidence_at t (support_of xs)

-- step 4: confidence 1 and 2 come with the row found most often, confidence 0 with row 0
unfoldable pub graded_row : ℕ → List ℕ → ℕ
graded_row t xs = cond (eqb (confidence_of t xs) 0) 0 (most xs)

-- step 5: the rows of the leaders with confidence 1 or 2, and 0 in the place of any other
unfoldable pub counted : List ℕ → List ℕ → List ℕ
counted rows confidences = build (length rows) (λ k. cond (eqb (get_or confidences k 0) 0) 0 (get_or rows k 0))

-- step 5: the row held by the most leaders with confidence 1 or 2, the lowest on a tie; 0 where there is none
unfoldable pub chosen_row : List ℕ → List ℕ → ℕ
chosen_row rows confidences = most (counted rows confidences)

-- the number of leaders with confidence 2 that hold the given row
unfoldable pub firm_for : List ℕ → List ℕ → ℕ → ℕ
firm_for rows confidences row = count (length rows) (λ k. eqb (get_or confidences k 0) 2 && eqb (get_or rows k 0) row)

-- the number of leaders with confidence 2 that hold the chosen row; 0 if none was chosen
unfoldable pub firm_leaders : List ℕ → List ℕ → ℕ
firm_leaders rows confidences =
    cond (eqb (chosen_row rows confidences) 0) 0 (firm_for rows confidences (chosen_row rows confidences))

-- refusal 13: a confidence above 2
unfoldable pub above2 : List ℕ → Bool
above2 confidences = any (length confidences) (λ k. ltb 2 (get_or confidences k 0))

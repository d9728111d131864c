-- The listing of a run file and its outcome, as docs/SCOPE.md has them under the program and its listing. A text is a
-- list of bytes; boxes count from 0 here, and from 1 in the text.
use Rattle.std.specs.Prelude.{ℕ, zero, suc, ◌+◌, cond, ◌&&◌, List, [], ◌∷◌, ◌++◌, eqb, ltb, length, get_or}
use Rattle.sizes.specs.Sizes.{sound}
use Rattle.run.specs.declared.Run.{Run}
use Rattle.run.specs.declared.Next.{Next}
use Rattle.run.specs.State.{zeros}
use Rattle.lines.specs.Line.{line_of, placed}
use Rattle.listing.specs.declared.Listed.{Listed}
use Rattle.listing.specs.File.{or_else, state_after, refused_start, refused_at, due, goes_on}

-- the words of the lines, in bytes: run, at, sent, refused
abbrev pub run_word : List ℕ
run_word = 114 ∷ 117 ∷ 110 ∷ []

abbrev pub at_word : List ℕ
at_word = 97 ∷ 116 ∷ []

abbrev pub sent_word : List ℕ
sent_word = 115 ∷ 101 ∷ 110 ∷ 116 ∷ []

abbrev pub refused_word : List ℕ
refused_word = 114 ∷ 101 ∷ 102 ∷ 117 ∷ 115 ∷ 101 ∷ 100 ∷ []

-- line `run`: n, t and the faulty set
unfoldable pub run_line : ℕ → ℕ → ℕ → List ℕ
run_line n t faulty = line_of run_word (n ∷ t ∷ faulty ∷ [])

-- line `at`: iteration, box, row and list
unfoldable pub at_line : ℕ → ℕ → ℕ → ℕ → List ℕ
at_line iteration i row list = line_of at_word (iteration ∷ (i + 1) ∷ row ∷ list ∷ [])

-- the last line: `sent` with the messages, or `refused` and the number in place of the next line due
unfoldable pub last_line : ℕ → ℕ → List ℕ
last_line refusal sent = cond (eqb refusal 0) (line_of sent_word (sent ∷ [])) (line_of refused_word (refusal ∷ []))

-- the line of box i after an iteration; a faulty box has none
unfoldable pub box_line : Run → ℕ → List ℕ
box_line s i = cond (sound s.faulty i) (at_line s.done i (get_or s.rows i 0) (get_or s.lists i 0)) []

-- the lines of the first k boxes, in order
unfoldable pub box_lines : Run → ℕ → List ℕ
box_lines s zero = []
box_lines s (suc k) = box_lines s k ++ box_line s k

-- a run that ends by a refusal, or by 0 where there is none: the last state, and zeros where the file is refused
unfoldable pub ended_by : ℕ → Run → Next
ended_by refusal s = record { refusal = refusal; run = cond (eqb refusal 0) s zeros }

-- how many of the first k are not refused before one is
unfoldable pub passed : (ℕ → ℕ) → ℕ → ℕ
passed refused zero = 0
passed refused (suc k) = passed refused k + cond (eqb (passed refused k) k && eqb (refused k) 0) 1 0

module _ (bytes : List ℕ) where
  -- the iterations that are done: all that are due, or those before the first that is refused
  unfoldable pub done_of : ℕ
  done_of = passed (refused_at bytes) (due bytes)

  -- the lines after each of the first m iterations, for each sound box in order
  unfoldable pub iteration_lines : ℕ → List ℕ
  iteration_lines zero = []
  iteration_lines (suc m) = iteration_lines m ++ box_lines (state_after bytes (suc m)) (state_after bytes (suc m)).n

  -- the refusal behind the line `run`: of the first iteration that is refused, or 8 where the file goes on past the
  -- last table
  unfoldable pub refused_later : ℕ
  refused_later = cond (ltb done_of (due bytes)) (refused_at bytes done_of) (cond (goes_on bytes) 8 0)

  -- the refusal with which the listing ends, or 0 where it ends with `sent`
  unfoldable pub ends_with : ℕ
  ends_with = or_else (refused_start bytes) refused_later

  -- the line of the start
  unfoldable pub start_line : List ℕ
  start_line = let s = state_after bytes 0 in run_line s.n s.t s.faulty

  -- the lines before the last: none where the heading or the start is refused
  unfoldable pub first_lines : List ℕ
  first_lines = cond (eqb (refused_start bytes) 0) (start_line ++ iteration_lines done_of) []

  -- the outcome of a file: the refusal with which its listing ends, and the last state
  unfoldable pub outcome_of : Next
  outcome_of = ended_by ends_with (state_after bytes done_of)

  -- the listing of a file
  unfoldable pub listing_of : List ℕ
  listing_of = first_lines ++ last_line outcome_of.refusal outcome_of.run.sent

  -- the reply of a listing to a slice of so many bytes: refusal 10 where the text does not fit, else its size and how
  -- it ends
  unfoldable pub list_reply : ℕ → Listed
  list_reply room =
      cond (ltb room (length listing_of))
      (record { refusal = 10; size = 0; ends = 0 })
      (record { refusal = 0; size = length listing_of; ends = ends_with })

  -- the slice afterwards: the listing at its front, or as it was where the call is refused
  unfoldable pub list_writes : List ℕ → List ℕ
  list_writes slice = cond (ltb (length slice) (length listing_of)) slice (placed slice 0 listing_of)

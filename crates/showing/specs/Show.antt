-- The text that is shown of a run file, as docs/TEXT.md has it, part by part: part 0 is the lines `run` and `rows`,
-- and part m the lines of table m, counted from 1. A text is a list of bytes.
use Rattle.std.specs.Prelude.{ℕ, zero, suc, ◌+◌, ◌-◌, ◌*◌, cond, List, [], ◌++◌, eqb, leb, ltb, length}
use Rattle.sizes.specs.Sizes.{table_rows}
use Rattle.runfile.specs.File.{table_row}
use Rattle.lines.specs.Line.{line_of, placed}
use Rattle.listing.specs.File.{or_else, heading, rows_of, due, bytes_of}
use Rattle.listing.specs.Listing.{run_line, ends_with}
use Rattle.says.specs.Say.{rows_word, say_line}
use Rattle.showing.specs.declared.Shown.{Shown}

-- the line of a place of a table; one that holds 0 has none
unfoldable pub place_text : ℕ → ℕ → ℕ → ℕ → List ℕ
place_text n table place row = cond (eqb row 0) [] (say_line n table place row)

-- the lines of the first k places of a table with these rows, in order
unfoldable pub places_text : ℕ → ℕ → (ℕ → ℕ) → ℕ → List ℕ
places_text n table rows zero = []
places_text n table rows (suc k) = places_text n table rows k ++ place_text n table k (rows k)

module _ (bytes : List ℕ) where
  -- the lines `run` and `rows`
  unfoldable pub heading_text : List ℕ
  heading_text =
      let h = heading bytes in run_line h.n h.t h.faulty ++ line_of rows_word (rows_of bytes)

  -- the lines of table m, from 0
  unfoldable pub table_text : ℕ → List ℕ
  table_text m =
      let n = (heading bytes).n in places_text n m (table_row (bytes_of n bytes m)) (table_rows n)

  -- a part; one behind the last is empty
  unfoldable pub part_text : ℕ → List ℕ
  part_text part = cond (eqb part 0) heading_text (cond (leb part (due bytes)) (table_text (part - 1)) [])

  -- the first k parts, one behind the other
  unfoldable pub first_parts : ℕ → List ℕ
  first_parts zero = []
  first_parts (suc k) = first_parts k ++ part_text k

  -- how many parts there are: the heading and t + 1 tables
  unfoldable pub parts_of : ℕ
  parts_of = due bytes + 1

  -- the whole text
  unfoldable pub shown_text : List ℕ
  shown_text = first_parts parts_of

  -- the room that a part may need at most: 300 bytes for the heading, and 40 for each row of a table
  unfoldable pub part_room : ℕ → ℕ
  part_room part = cond (eqb part 0) 300 (40 * table_rows (heading bytes).n)

  -- the refusals: the number with which the listing ends, and 10; `room` is the length of the lent slice
  unfoldable pub show_refusal : ℕ → ℕ → ℕ
  show_refusal part room = or_else (ends_with bytes) (cond (ltb room (part_room part)) 10 0)

  -- the reply
  unfoldable pub show_reply : ℕ → ℕ → Shown
  show_reply part room =
      cond (eqb (show_refusal part room) 0)
      (record { refusal = 0; size = length (part_text part); parts = parts_of })
      (record { refusal = show_refusal part room; size = 0; parts = 0 })

  -- the slice afterwards: the part at its front, or as it was where the call is refused
  unfoldable pub show_writes : ℕ → List ℕ → List ℕ
  show_writes part slice = cond (eqb (show_refusal part (length slice)) 0) (placed slice 0 (part_text part)) slice

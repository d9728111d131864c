-- The whole replies of the readers, and the last contents of the lent slice. A refused read writes nothing and gives
-- 0 for all but the refusal's number.
use Rattle.std.specs.Prelude.{ℕ, ◌+◌, ◌*◌, cond, not, ◌&&◌, List, [], ◌∷◌, ◌++◌, eqb, ltb, length, take, drop}
use Rattle.counting.specs.Count.{build, front}
use Rattle.counting.specs.Refuse.{Refusal, first_of}
use Rattle.counting.specs.Refuse.Refusal.{refuse}
use Rattle.sizes.specs.Sizes.{outside, too_many, stray, sound_zero, table_rows}
use Rattle.runfile.specs.declared.Heading.{Heading}
use Rattle.runfile.specs.File.{
  the_version,
  has_mark,
  version_of,
  n_of,
  t_byte,
  faulty_of,
  t_of,
  heading_bytes,
  row_from,
  heading_row,
  table_row,
}

-- the heading reader's refusals: 1, 2, 3, 4, 5 (255 passes), 6, 8, 9, 10; `room` is the length of the lent slice
unfoldable pub heading_tests : List ℕ → ℕ → List Refusal
heading_tests bytes room =
    refuse 1 (ltb (length bytes) 9) ∷
    refuse 2 (not (has_mark bytes)) ∷
    refuse 3 (not (eqb (version_of bytes) the_version)) ∷
    refuse 4 (outside (n_of bytes)) ∷
    refuse 5 (not (eqb (t_byte bytes) 255) && too_many (n_of bytes) (t_byte bytes)) ∷
    refuse 6 (stray (n_of bytes) (faulty_of bytes)) ∷
    refuse 8 (ltb (length bytes) (heading_bytes (n_of bytes))) ∷
    refuse 9 (sound_zero (n_of bytes) (faulty_of bytes) (build (n_of bytes) (heading_row bytes))) ∷
    refuse 10 (ltb room (n_of bytes)) ∷
    []

-- the heading reader's refusal, or 0
unfoldable pub heading_refusal : List ℕ → ℕ → ℕ
heading_refusal bytes room = first_of (heading_tests bytes room)

-- the table reader's refusals: 4, 8, 10
unfoldable pub table_tests : ℕ → List ℕ → ℕ → List Refusal
table_tests n bytes room =
    refuse 4 (outside n) ∷
    refuse 8 (not (eqb (length bytes) (8 * table_rows n))) ∷
    refuse 10 (ltb room (table_rows n)) ∷
    []

-- the table reader's refusal, or 0
unfoldable pub table_refusal : ℕ → List ℕ → ℕ → ℕ
table_refusal n bytes room = first_of (table_tests n bytes room)

-- what a heading says: version, n, t (the number that 255 stands for) and the faulty set
unfoldable pub heading_of : List ℕ → Heading
heading_of bytes =
    record {
      refusal = 0;
      version = version_of bytes;
      n = n_of bytes;
      t = t_of (n_of bytes) (t_byte bytes);
      faulty = faulty_of bytes;
    }

-- a refused heading gives 0 for all but the refusal's number
unfoldable pub nothing_read : ℕ → Heading
nothing_read refusal = record { refusal = refusal; version = 0; n = 0; t = 0; faulty = 0 }

-- the heading reader's reply
unfoldable pub heading_reply : List ℕ → ℕ → Heading
heading_reply bytes room =
    cond (eqb (heading_refusal bytes room) 0) (heading_of bytes) (nothing_read (heading_refusal bytes room))

-- the slice after the heading reader: the n rows at the front, faulty boxes' rows as they stand
unfoldable pub heading_writes : List ℕ → List ℕ → List ℕ
heading_writes bytes slice =
    cond (eqb (heading_refusal bytes (length slice)) 0) (front (n_of bytes) (heading_row bytes) slice) slice

-- the slice after the table reader
unfoldable pub table_writes : ℕ → List ℕ → List ℕ → List ℕ
table_writes n bytes slice =
    cond (eqb (table_refusal n bytes (length slice)) 0) (front (table_rows n) (table_row bytes) slice) slice

-- the refusals of a part of a table, so many rows from a place on: 8 where the bytes end before it does, 10
unfoldable pub part_tests : ℕ → ℕ → List ℕ → ℕ → List Refusal
part_tests from count bytes room =
    refuse 8 (ltb (length bytes) (8 * (from + count))) ∷ refuse 10 (ltb room (from + count)) ∷ []

-- the part reader's refusal, or 0
unfoldable pub part_refusal : ℕ → ℕ → List ℕ → ℕ → ℕ
part_refusal from count bytes room = first_of (part_tests from count bytes room)

-- a slice with so many rows from a place on, each at the place that it has in the table, the rest of which stays
unfoldable pub part_of : ℕ → ℕ → List ℕ → List ℕ → List ℕ
part_of from count bytes slice =
    take from slice ++ (build count (row_from (8 * from) bytes) ++ drop (from + count) slice)

-- the slice after the part reader
unfoldable pub part_writes : ℕ → ℕ → List ℕ → List ℕ → List ℕ
part_writes from count bytes slice =
    cond (eqb (part_refusal from count bytes (length slice)) 0) (part_of from count bytes slice) slice

-- The writer of run files: the bytes of a heading and of a table, the writer's refusals in their order, its replies,
-- and the last contents of the lent slice. The bytes stand at the front of the slice and the rest stays. A refused
-- call writes nothing and gives size 0. The t that is written is a real one: 255 is too large for every n.
use Rattle.std.specs.Prelude.{ℕ, ◌+◌, ◌*◌, cond, not, List, [], ◌∷◌, ◌++◌, eqb, ltb, length, take, drop}
use Rattle.counting.specs.Refuse.{Refusal, first_of}
use Rattle.counting.specs.Refuse.Refusal.{refuse}
use Rattle.sizes.specs.Sizes.{outside, too_many, stray, sound_zero, table_rows}
use Rattle.runfile.specs.declared.write.Wrote.{Wrote}
use Rattle.runfile.specs.File.{in_bytes, rows_in_bytes, mark, the_version, heading_bytes}

-- the bytes of a heading: the mark, the version, n, t, the faulty set and the n rows
unfoldable pub heading_file : ℕ → ℕ → ℕ → List ℕ → List ℕ
heading_file n t faulty rows =
    mark ++ (in_bytes 2 the_version ++ (n ∷ t ∷ (in_bytes 2 faulty ++ rows_in_bytes rows n)))

-- the bytes of a table: its rows
unfoldable pub table_file : ℕ → List ℕ → List ℕ
table_file n rows = rows_in_bytes rows (table_rows n)

-- a slice with a text at its front, the rest of which stays
unfoldable pub at_front : List ℕ → List ℕ → List ℕ
at_front text slice = text ++ drop (length text) slice

-- a slice with a text written from a place on, the rest of which stays
unfoldable pub put_from : ℕ → List ℕ → List ℕ → List ℕ
put_from at text slice = at_front (take at slice ++ text) slice

-- the heading writer's refusals: 4, 5, 6, 11, 9, 10; `room` is the length of the lent slice
unfoldable pub write_heading_tests : ℕ → ℕ → ℕ → List ℕ → ℕ → List Refusal
write_heading_tests n t faulty rows room =
    refuse 4 (outside n) ∷
    refuse 5 (too_many n t) ∷
    refuse 6 (stray n faulty) ∷
    refuse 11 (not (eqb (length rows) n)) ∷
    refuse 9 (sound_zero n faulty rows) ∷
    refuse 10 (ltb room (heading_bytes n)) ∷
    []

-- the heading writer's refusal, or 0
unfoldable pub write_heading_refusal : ℕ → ℕ → ℕ → List ℕ → ℕ → ℕ
write_heading_refusal n t faulty rows room = first_of (write_heading_tests n t faulty rows room)

-- the table writer's refusals: 4, 11, 10
unfoldable pub write_table_tests : ℕ → List ℕ → ℕ → List Refusal
write_table_tests n rows room =
    refuse 4 (outside n) ∷
    refuse 11 (not (eqb (length rows) (table_rows n))) ∷
    refuse 10 (ltb room (8 * table_rows n)) ∷
    []

-- the table writer's refusal, or 0
unfoldable pub write_table_refusal : ℕ → List ℕ → ℕ → ℕ
write_table_refusal n rows room = first_of (write_table_tests n rows room)

-- a writer's reply: the number of bytes written, and 0 where the call is refused
unfoldable pub wrote_reply : ℕ → ℕ → Wrote
wrote_reply refusal size =
    cond (eqb refusal 0) (record { refusal = 0; size = size }) (record { refusal = refusal; size = 0 })

-- the slice afterwards: the text at its front, or as it was where the call is refused
unfoldable pub wrote_slice : ℕ → List ℕ → List ℕ → List ℕ
wrote_slice refusal text slice = cond (eqb refusal 0) (at_front text slice) slice

-- the heading writer's reply
unfoldable pub write_heading_reply : ℕ → ℕ → ℕ → List ℕ → ℕ → Wrote
write_heading_reply n t faulty rows room = wrote_reply (write_heading_refusal n t faulty rows room) (heading_bytes n)

-- the slice after the heading writer
unfoldable pub write_heading_writes : ℕ → ℕ → ℕ → List ℕ → List ℕ → List ℕ
write_heading_writes n t faulty rows slice =
    wrote_slice (write_heading_refusal n t faulty rows (length slice)) (heading_file n t faulty rows) slice

-- the table writer's reply
unfoldable pub write_table_reply : ℕ → List ℕ → ℕ → Wrote
write_table_reply n rows room = wrote_reply (write_table_refusal n rows room) (8 * table_rows n)

-- the slice after the table writer
unfoldable pub write_table_writes : ℕ → List ℕ → List ℕ → List ℕ
write_table_writes n rows slice = wrote_slice (write_table_refusal n rows (length slice)) (table_file n rows) slice

-- the refusal of one row that is written at a place: 10 where the slice ends before its 8 bytes do
unfoldable pub row_refusal : ℕ → ℕ → ℕ
row_refusal at room = cond (ltb room (at + 8)) 10 0

-- the slice after that row
unfoldable pub row_writes : ℕ → ℕ → List ℕ → List ℕ
row_writes row at slice = cond (ltb (length slice) (at + 8)) slice (put_from at (in_bytes 8 row) slice)

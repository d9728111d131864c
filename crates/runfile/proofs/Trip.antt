-- There and back, over the definitions. A heading that was written is read as it was given, whatever follows it, and
-- so is a table. A heading that was read is written as it stood, but for the t byte, which becomes the t that it
-- stands for: where it is not 255 nothing changes. A table that was read is written as it stood. Assumes nothing.
use mathlib.Core.Path.{◌≡◌, refl, sym, ap, ap₂, ◌∙◌}
use mathlib.Core.Bool.{true, false, not, ◌&&◌}
use mathlib.Core.List.{List, ◌++◌}
use Prim.Native.Nat.{ℕ, ◌+◌, ◌*◌, ◌/◌, ◌%◌, ◌≤◌, ◌<◌}
use native.Mathlib.Nat.{lt_of_lt_of_le}
use native.Mathlib.Omega.{arith}
use lib.Dec.{eqb}
use lib.ListN.{length, get_or, take, drop, set, length-take}
use lib.Seq.{get_or-take, get_or-append-add, take-add, take_all, length-take-le, set-append_left, set-get_or}
use lib.Pow.{pow_mono}
use borrow.Author.Tests.{eqb-true, ne_eqb}
use Rattle.counting.specs.Count.{build, front}
use Rattle.counting.proofs.Bools.{and_left, and_right, and_false_right, cond_false}
use Rattle.counting.proofs.Build.{get_or_build, built, front_take}
use Rattle.sizes.specs.Sizes.{Startable, outside, table_rows}
use Rattle.sizes.proofs.Laws.{inside_high, tolerated_lt, within_lt}
use Rattle.runfile.specs.declared.Heading.{Heading}
use Rattle.runfile.specs.File.{
  number,
  in_bytes,
  rows_in_bytes,
  has_mark,
  version_of,
  n_of,
  t_byte,
  faulty_of,
  t_of,
  heading_bytes,
  heading_row,
  table_row,
  AllBytes,
  AllRows,
}
use Rattle.runfile.specs.Reply.{
  heading_refusal,
  heading_of,
  heading_reply,
  heading_writes,
  table_refusal,
  table_writes,
}
use Rattle.runfile.specs.Inside.{first_nine}
use Rattle.runfile.specs.Write.{heading_file, table_file}
use Rattle.runfile.proofs.Laws.{
  Readable,
  readable_passes,
  heading_given,
  heading_written,
  table_passes,
  table_written,
}
use Rattle.runfile.proofs.Put.{length_nine, nine_then_rows}
use Rattle.runfile.proofs.Written.{length_heading_file, length_table_file}
use Rattle.runfile.proofs.Follows.{SameHeading, heading_alike, writes_alike}
use Rattle.runfile.proofs.Bytes.{rows_in_bytes_number, rows_read}

-- what a heading says that was written with these numbers
abbrev pub said : ℕ → ℕ → ℕ → Heading
said n t faulty = record { refusal = 0; version = 1; n = n; t = t; faulty = faulty }

-- a heading that is written and then read
module _ (n t faulty : ℕ) (rows : List ℕ) (s : Startable n t faulty rows) (small : AllRows rows) where
  abbrev text : List ℕ
  text = heading_file n t faulty rows

  few : t ≤ 4
  few = omega (arith, tolerated_lt n t s.pass5, inside_high n s.pass4)

  set_small : faulty < 8192
  set_small = lt_of_lt_of_le (within_lt n faulty s.pass6) (pow_mono (inside_high n s.pass4))

  mark_read : has_mark text ≡ true
  unfolding has_mark heading_file
  mark_read = refl

  version_read : version_of text ≡ 1
  unfolding version_of number heading_file in_bytes
  version_read = refl

  n_read : n_of text ≡ n
  unfolding n_of heading_file in_bytes
  n_read = refl

  t_read : t_byte text ≡ t
  unfolding t_byte heading_file in_bytes
  t_read = refl

  faulty_read : faulty_of text ≡ faulty
  unfolding faulty_of number heading_file in_bytes
  faulty_read = omega (arith, set_small)

  row_read : (k : ℕ) → k < n → heading_row text k ≡ get_or rows k 0
  unfolding heading_row
  row_read k l =
      let first = first_nine n t faulty in
      let long = length_nine n t faulty in
      rows_read rows small n (omega (arith, s.pass11)) text 9
      (λ i b.
      ap (λ (xs : List ℕ). get_or xs (9 + i) 0) (sym (nine_then_rows n t faulty rows))
      ∙ ap (λ (m : ℕ). get_or (first ++ rows_in_bytes rows n) (m + i) 0) (sym long)
      ∙ get_or-append-add first (rows_in_bytes rows n) i 0)
      k l

  built_read : build n (heading_row text) ≡ rows
  built_read = sym (built n (heading_row text) rows s.pass11 (λ k l. sym (row_read k l)))

  not_255 : eqb t 255 ≡ false
  not_255 = ne_eqb t 255 (λ e. absurd (omega (arith, e, few)))

  t_of_read : t_of n t ≡ t
  unfolding t_of
  t_of_read = cond_false _ _ not_255

  text_passes : (room : ℕ) → n ≤ room → heading_refusal text room ≡ 0
  unfolding heading_bytes
  text_passes room l =
      let long = length_heading_file n t faulty rows in
      let number = not (eqb t 255) in
      readable_passes text room
      (record {
        long = omega (arith, long);
        mark = mark_read;
        version = version_read;
        inside = rw n_read s.pass4;
        few = rw (n_read, t_read) (and_false_right number s.pass5);
        within = rw (n_read, faulty_read) s.pass6;
        whole = omega (arith, long, n_read);
        nonzero = rw (n_read, faulty_read, built_read) s.pass9;
        enough = omega (arith, n_read);
      })

  text_says : heading_of text ≡ said n t faulty
  unfolding heading_of
  text_says = rw (version_read, n_read, t_read, faulty_read, t_of_read) refl

  -- of any bytes that begin with the heading
  module _ (bytes : List ℕ) (begins : take (heading_bytes n) bytes ≡ heading_file n t faulty rows) where
    alike : SameHeading (heading_bytes n) text bytes
    unfolding heading_bytes
    alike =
        let long = length_heading_file n t faulty rows in
        let cut : length (take (9 + 8 * n) bytes) ≡ length text = ap length begins in
        record {
          reaches_a = omega (arith, long);
          reaches_b = omega (arith, long, cut, length-take (9 + 8 * n) bytes);
          same = λ i l. ap (λ (xs : List ℕ). get_or xs i 0) (sym begins) ∙ get_or-take (9 + 8 * n) bytes i 0 l;
          fixed = omega arith;
          whole = λ o. omega (arith, n_read);
        }

    module _ (slice : List ℕ) (enough : n ≤ length slice) where
      pub heading_back : heading_reply bytes (length slice) ≡ said n t faulty
      heading_back =
          sym (heading_alike (heading_bytes n) text bytes alike (length slice))
          ∙ heading_given text slice (text_passes (length slice) enough)
          ∙ text_says

      pub heading_rows_back : take n (heading_writes bytes slice) ≡ rows
      heading_rows_back =
          ap (take n)
          (sym (writes_alike (heading_bytes n) text bytes alike slice)
          ∙ heading_written text slice (text_passes (length slice) enough)
          ∙ ap (λ (k : ℕ). front k (heading_row text) slice) n_read)
          ∙ front_take n (heading_row text) slice
          ∙ built_read

-- a heading that is read and then written
module _ (bytes : List ℕ) (room : ℕ) (r : Readable bytes room) (all : AllBytes bytes) where
  byte_small : (k : ℕ) → k < 9 → get_or bytes k 0 < 256
  byte_small k l = all k (omega (arith, r.long))

  mark_bytes : (get_or bytes 0 0 ≡ 72) × (get_or bytes 1 0 ≡ 78) × (get_or bytes 2 0 ≡ 66)
  unfolding has_mark
  mark_bytes =
      let a = eqb (get_or bytes 0 0) 72 in
      let b = eqb (get_or bytes 1 0) 78 in
      let c = eqb (get_or bytes 2 0) 66 in
      let two : (a && b) ≡ true = and_left (a && b) c r.mark in (
        eqb-true (get_or bytes 0 0) 72 (and_left a b two),
        eqb-true (get_or bytes 1 0) 78 (and_right a b two),
        eqb-true (get_or bytes 2 0) 66 (and_right (a && b) c r.mark),
      )

  version_bytes : (get_or bytes 3 0 ≡ 0) × (get_or bytes 4 0 ≡ 1)
  unfolding version_of number
  version_bytes =
      let v = r.version in
      let high = byte_small 3 (omega arith) in
      let low = byte_small 4 (omega arith) in
      (omega (arith, v, high, low), omega (arith, v, high, low))

  faulty_bytes : (faulty_of bytes / 256 % 256 ≡ get_or bytes 7 0) × (faulty_of bytes % 256 ≡ get_or bytes 8 0)
  unfolding faulty_of number
  faulty_bytes =
      let high = byte_small 7 (omega arith) in
      let low = byte_small 8 (omega arith) in
      (omega (arith, high, low), omega (arith, high, low))

  nine_back : (t : ℕ) → first_nine (n_of bytes) t (faulty_of bytes) ≡ set (take 9 bytes) 6 t
  unfolding first_nine in_bytes n_of build
  nine_back t =
      let nine : take 9 bytes ≡ build 9 (λ k. get_or bytes k 0) =
      built 9 (λ k. get_or bytes k 0) (take 9 bytes) (length-take-le 9 bytes r.long)
      (λ k l. get_or-take 9 bytes k 0 l) in
      rw (
        nine,
        mark_bytes.0,
        mark_bytes.1,
        mark_bytes.2,
        version_bytes.0,
        version_bytes.1,
        faulty_bytes.0,
        faulty_bytes.1,
      ) refl

  -- the bytes of what a heading says are its own, with t in the place of its t byte
  pub heading_again : (t : ℕ) (rows : List ℕ) → rows ≡ build (n_of bytes) (heading_row bytes) →
      heading_file (n_of bytes) t (faulty_of bytes) rows ≡ set (take (heading_bytes (n_of bytes)) bytes) 6 t
  unfolding heading_bytes heading_row
  heading_again t rows e =
      let n = n_of bytes in
      let first = take 9 bytes in
      let rest = take (8 * n) (drop 9 bytes) in
      let long : length first ≡ 9 = length-take-le 9 bytes r.long in
      let body : rows_in_bytes rows n ≡ rest =
      rows_in_bytes_number bytes all 9 rows n r.whole
      (λ k l. ap (λ (xs : List ℕ). get_or xs k 0) e ∙ get_or_build n (heading_row bytes) k 0 l) in
      sym (nine_then_rows n t (faulty_of bytes) rows)
      ∙ ap₂ (λ (xs ys : List ℕ). xs ++ ys) (nine_back t) body
      ∙ sym (set-append_left first rest 6 t (omega (arith, long)))
      ∙ ap (λ (xs : List ℕ). set xs 6 t) (sym (take-add 9 (8 * n) bytes))

  -- where the t byte is not 255 nothing changes
  pub heading_same_again : (t_byte bytes ≡ 255 → ⊥) →
      set (take (heading_bytes (n_of bytes)) bytes) 6 (t_of (n_of bytes) (t_byte bytes))
      ≡ take (heading_bytes (n_of bytes)) bytes
  unfolding t_of t_byte heading_bytes
  heading_same_again d =
      let m = 9 + 8 * n_of bytes in
      let own : t_of (n_of bytes) (t_byte bytes) ≡ get_or (take m bytes) 6 0 =
      cond_false _ _ (ne_eqb (t_byte bytes) 255 d) ∙ sym (get_or-take m bytes 6 0 (omega arith)) in
      ap (set (take m bytes) 6) own ∙ set-get_or (take m bytes) 6 0

-- a table that is written and then read
module _ (n : ℕ) (rows : List ℕ) (inside : outside n ≡ false) (exact : length rows ≡ table_rows n)
    (small : AllRows rows) (slice : List ℕ) (enough : table_rows n ≤ length slice) where
  pub table_back : table_refusal n (table_file n rows) (length slice) ≡ 0
  table_back =
      table_passes n (table_file n rows) (length slice)
      (record { inside = inside; exact = length_table_file n rows; enough = enough })

  pub table_rows_back : take (table_rows n) (table_writes n (table_file n rows) slice) ≡ rows
  unfolding table_row table_file
  table_rows_back =
      let text = table_file n rows in
      let row = rows_read rows small (table_rows n) (omega (arith, exact)) text 0
      (λ i l. let none : 0 + i ≡ i = omega arith in ap (λ (p : ℕ). get_or text p 0) none) in
      ap (take (table_rows n)) (table_written n text slice table_back)
      ∙ front_take (table_rows n) (table_row text) slice
      ∙ sym (built (table_rows n) (table_row text) rows exact (λ k l. sym (row k l)))

-- a table that is read and then written
pub table_again : (n : ℕ) (bytes rows : List ℕ) → AllBytes bytes → length bytes ≡ 8 * table_rows n →
    rows ≡ build (table_rows n) (table_row bytes) → table_file n rows ≡ bytes
unfolding table_file table_row
table_again n bytes rows all exact e =
    rows_in_bytes_number bytes all 0 rows (table_rows n) (omega arith)
    (λ k l. ap (λ (xs : List ℕ). get_or xs k 0) e ∙ get_or_build (table_rows n) (table_row bytes) k 0 l)
    ∙ take_all (8 * table_rows n) bytes (omega arith)

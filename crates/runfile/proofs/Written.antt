-- What the writer's replies say: a call that is not refused passed every test, and every call that passes them is not
-- refused; a refused call leaves the slice and gives size 0; another gives the number of bytes and writes them at the
-- front; the slice keeps its length, and the bytes past those written stay. Assumes nothing.
use mathlib.Core.Path.{◌≡◌, sym, ap, ◌∙◌}
use mathlib.Core.Bool.{false}
use mathlib.Core.List.{List, []}
use Prim.Native.Nat.{ℕ, ◌*◌, ◌≤◌}
use native.Mathlib.Decide.{ℕ_discrete}
use native.Mathlib.Omega.{arith}
use lib.ListN.{length, take, drop, length-append, length-drop}
use lib.Seq.{take_at, drop_at}
use borrow.Author.Tests.{ltb-false, le-ltb, eqb-true, eq-eqb, ne_eqb}
use Rattle.counting.proofs.Bools.{not_false, not_of_true, cond_true, cond_false}
use Rattle.counting.proofs.Refuse.{accepted, passed, none_left}
use Rattle.sizes.specs.Sizes.{Startable, outside, table_rows}
use Rattle.runfile.specs.declared.write.Wrote.{Wrote}
use Rattle.runfile.specs.File.{heading_bytes, rows_in_bytes}
use Rattle.runfile.specs.Inside.{first_nine}
use Rattle.runfile.specs.Write.{
  heading_file,
  table_file,
  at_front,
  write_heading_tests,
  write_heading_refusal,
  write_table_tests,
  write_table_refusal,
  wrote_reply,
  wrote_slice,
  write_heading_reply,
  write_heading_writes,
  write_table_reply,
  write_table_writes,
}
use Rattle.runfile.proofs.Put.{length_rows_in_bytes, length_nine, nine_then_rows}

-- how long the bytes are
pub length_heading_file : (n t faulty : ℕ) (rows : List ℕ) → length (heading_file n t faulty rows) ≡ heading_bytes n
unfolding heading_bytes
length_heading_file n t faulty rows =
    ap length (sym (nine_then_rows n t faulty rows))
    ∙ length-append (first_nine n t faulty) (rows_in_bytes rows n)
    ∙ omega (arith, length_nine n t faulty, length_rows_in_bytes rows n)

pub length_table_file : (n : ℕ) (rows : List ℕ) → length (table_file n rows) ≡ 8 * table_rows n
unfolding table_file
length_table_file n rows = length_rows_in_bytes rows (table_rows n)

-- the tests that a heading passed: what a start takes, and room in the slice
pub record HeadingWritten (n t faulty : ℕ) (rows : List ℕ) (room : ℕ) : Type 0 where
  pub starts : Startable n t faulty rows
  pub enough : heading_bytes n ≤ room

module _ (n t faulty : ℕ) (rows : List ℕ) (room : ℕ) where
  pub write_heading_accepted : write_heading_refusal n t faulty rows room ≡ 0 → HeadingWritten n t faulty rows room
  unfolding write_heading_refusal write_heading_tests
  write_heading_accepted h =
      let a4 = accepted 3 _ _ h in
      let a5 = accepted 4 _ _ a4.1 in
      let a6 = accepted 5 _ _ a5.1 in
      let a11 = accepted 10 _ _ a6.1 in
      let a9 = accepted 8 _ _ a11.1 in
      let a10 = accepted 9 _ _ a9.1 in
      let all : Startable n t faulty rows =
      record {
        pass4 = a4.0;
        pass5 = a5.0;
        pass6 = a6.0;
        pass11 = eqb-true _ _ (not_false _ a11.0);
        pass9 = a9.0;
      } in
      record { starts = all; enough = ltb-false _ _ a10.0 }

  pub write_heading_passes : Startable n t faulty rows → heading_bytes n ≤ room →
      write_heading_refusal n t faulty rows room ≡ 0
  unfolding write_heading_refusal write_heading_tests
  write_heading_passes s l =
      passed 4 _ s.pass4
      ∙ passed 5 _ s.pass5
      ∙ passed 6 _ s.pass6
      ∙ passed 11 _ (not_of_true (eq-eqb _ _ s.pass11))
      ∙ passed 9 _ s.pass9
      ∙ passed 10 [] (le-ltb _ _ l)
      ∙ none_left

-- the tests that a table passed
pub record TableWritten (n : ℕ) (rows : List ℕ) (room : ℕ) : Type 0 where
  pub inside : outside n ≡ false
  pub exact : length rows ≡ table_rows n
  pub enough : 8 * table_rows n ≤ room

module _ (n : ℕ) (rows : List ℕ) (room : ℕ) where
  pub write_table_accepted : write_table_refusal n rows room ≡ 0 → TableWritten n rows room
  unfolding write_table_refusal write_table_tests
  write_table_accepted h =
      let a4 = accepted 3 _ _ h in
      let a11 = accepted 10 _ _ a4.1 in
      let a10 = accepted 9 _ _ a11.1 in
      record { inside = a4.0; exact = eqb-true _ _ (not_false _ a11.0); enough = ltb-false _ _ a10.0 }

  pub write_table_passes : outside n ≡ false → length rows ≡ table_rows n → 8 * table_rows n ≤ room →
      write_table_refusal n rows room ≡ 0
  unfolding write_table_refusal write_table_tests
  write_table_passes i e l =
      passed 4 _ i ∙ passed 11 _ (not_of_true (eq-eqb _ _ e)) ∙ passed 10 [] (le-ltb _ _ l) ∙ none_left

-- both writers' replies and slices go by the refusal, the text and its size
module _ (refusal size : ℕ) (text slice : List ℕ) where
  pub wrote_refused : (refusal ≡ 0 → ⊥) → wrote_reply refusal size ≡ record { refusal = refusal; size = 0 }
  unfolding wrote_reply
  wrote_refused h = cond_false _ _ (ne_eqb _ _ h)

  pub wrote_leaves : (refusal ≡ 0 → ⊥) → wrote_slice refusal text slice ≡ slice
  unfolding wrote_slice
  wrote_leaves h = cond_false _ _ (ne_eqb _ _ h)

  pub wrote_given : refusal ≡ 0 → wrote_reply refusal size ≡ record { refusal = 0; size = size }
  unfolding wrote_reply
  wrote_given h = cond_true _ _ (eq-eqb _ _ h)

  pub wrote_written : refusal ≡ 0 → wrote_slice refusal text slice ≡ at_front text slice
  unfolding wrote_slice
  wrote_written h = cond_true _ _ (eq-eqb _ _ h)

  -- the reply carries the refusal's number
  wrote_number : (wrote_reply refusal size).refusal ≡ refusal
  wrote_number = go (ℕ_discrete refusal 0)
    where
      go : Dec (refusal ≡ 0) → (wrote_reply refusal size).refusal ≡ refusal
      go (yes e) = ap (λ (r : Wrote). r.refusal) (wrote_given e) ∙ sym e
      go (no d) = ap (λ (r : Wrote). r.refusal) (wrote_refused d)

  module _ (long : length text ≡ size) where
    wrote_front : refusal ≡ 0 → take size (wrote_slice refusal text slice) ≡ text
    unfolding at_front
    wrote_front e = ap (take size) (wrote_written e) ∙ take_at text (drop (length text) slice) size long

    wrote_past : drop (wrote_reply refusal size).size (wrote_slice refusal text slice)
        ≡ drop (wrote_reply refusal size).size slice
    unfolding at_front
    wrote_past = go (ℕ_discrete refusal 0)
      where
        go : Dec (refusal ≡ 0) →
            drop (wrote_reply refusal size).size (wrote_slice refusal text slice)
            ≡ drop (wrote_reply refusal size).size slice
        go (yes e) =
            rw (wrote_given e, wrote_written e)
            (drop_at text (drop (length text) slice) size long ∙ ap (λ (m : ℕ). drop m slice) long)
        go (no d) = ap (drop (wrote_reply refusal size).size) (wrote_leaves d)

    wrote_length : (refusal ≡ 0 → size ≤ length slice) → length (wrote_slice refusal text slice) ≡ length slice
    unfolding at_front
    wrote_length enough = go (ℕ_discrete refusal 0)
      where
        go : Dec (refusal ≡ 0) → length (wrote_slice refusal text slice) ≡ length slice
        go (yes e) =
            ap length (wrote_written e)
            ∙ length-append text (drop (length text) slice)
            ∙ omega (arith, enough e, length-drop (length text) slice, long)
        go (no d) = ap length (wrote_leaves d)

-- the heading writer
module _ (n t faulty : ℕ) (rows slice : List ℕ) where
  pub write_heading_number : (write_heading_reply n t faulty rows (length slice)).refusal
      ≡ write_heading_refusal n t faulty rows (length slice)
  unfolding write_heading_reply
  write_heading_number = wrote_number _ _ [] []

  -- a refused call leaves the slice and gives size 0
  pub write_heading_leaves : (write_heading_refusal n t faulty rows (length slice) ≡ 0 → ⊥) →
      ((write_heading_reply n t faulty rows (length slice)).size ≡ 0) ×
      (write_heading_writes n t faulty rows slice ≡ slice)
  unfolding write_heading_reply write_heading_writes
  write_heading_leaves h = (ap (λ (r : Wrote). r.size) (wrote_refused _ _ [] [] h), wrote_leaves _ 0 _ slice h)

  -- the size of an accepted call is the heading's, and so many bytes at the front are the heading
  pub write_heading_size : write_heading_refusal n t faulty rows (length slice) ≡ 0 →
      (write_heading_reply n t faulty rows (length slice)).size ≡ heading_bytes n
  unfolding write_heading_reply
  write_heading_size e = ap (λ (r : Wrote). r.size) (wrote_given _ _ [] [] e)

  pub write_heading_front : write_heading_refusal n t faulty rows (length slice) ≡ 0 →
      take (heading_bytes n) (write_heading_writes n t faulty rows slice) ≡ heading_file n t faulty rows
  unfolding write_heading_writes
  write_heading_front e = wrote_front _ _ _ slice (length_heading_file n t faulty rows) e

  -- the slice keeps its length, and the bytes past those written stay
  pub write_heading_length : length (write_heading_writes n t faulty rows slice) ≡ length slice
  unfolding write_heading_writes
  write_heading_length =
      wrote_length _ _ _ slice (length_heading_file n t faulty rows)
      (λ e. (write_heading_accepted n t faulty rows (length slice) e).enough)

  pub write_heading_past : drop (write_heading_reply n t faulty rows (length slice)).size
      (write_heading_writes n t faulty rows slice)
      ≡ drop (write_heading_reply n t faulty rows (length slice)).size slice
  unfolding write_heading_reply write_heading_writes
  write_heading_past = wrote_past _ _ _ slice (length_heading_file n t faulty rows)

-- the table writer, the same
module _ (n : ℕ) (rows slice : List ℕ) where
  pub write_table_number : (write_table_reply n rows (length slice)).refusal ≡ write_table_refusal n rows
      (length slice)
  unfolding write_table_reply
  write_table_number = wrote_number _ _ [] []

  pub write_table_leaves : (write_table_refusal n rows (length slice) ≡ 0 → ⊥) →
      ((write_table_reply n rows (length slice)).size ≡ 0) × (write_table_writes n rows slice ≡ slice)
  unfolding write_table_reply write_table_writes
  write_table_leaves h = (ap (λ (r : Wrote). r.size) (wrote_refused _ _ [] [] h), wrote_leaves _ 0 _ slice h)

  pub write_table_size : write_table_refusal n rows (length slice) ≡ 0 →
      (write_table_reply n rows (length slice)).size ≡ 8 * table_rows n
  unfolding write_table_reply
  write_table_size e = ap (λ (r : Wrote). r.size) (wrote_given _ _ [] [] e)

  pub write_table_front : write_table_refusal n rows (length slice) ≡ 0 →
      take (8 * table_rows n) (write_table_writes n rows slice) ≡ table_file n rows
  unfolding write_table_writes
  write_table_front e = wrote_front _ _ _ slice (length_table_file n rows) e

  pub write_table_length : length (write_table_writes n rows slice) ≡ length slice
  unfolding write_table_writes
  write_table_length =
      wrote_length _ _ _ slice (length_table_file n rows) (λ e. (write_table_accepted n rows (length slice) e).enough)

  pub write_table_past : drop (write_table_reply n rows (length slice)).size (write_table_writes n rows slice)
      ≡ drop (write_table_reply n rows (length slice)).size slice
  unfolding write_table_reply write_table_writes
  write_table_past = wrote_past _ _ _ slice (length_table_file n rows)

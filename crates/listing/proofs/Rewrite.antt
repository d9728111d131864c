-- A file that is taken, taken apart and put together again: the same bytes but for the t byte, which becomes the t
-- that it stands for, and exactly the same bytes where it is not 255. First over the definitions, then of calls: of
-- every reply of the readers and the writers that meets its contract. The file is as long as its heading and its
-- tables, so that no byte is left out; each table is written as it stood. Assumes nothing.
use mathlib.Core.Path.{◌≡◌, refl, sym, ap, ap₂, subst, ◌∙◌}
use mathlib.Core.Bool.{false}
use mathlib.Core.List.{List, ◌++◌}
use Prim.Native.Nat.{ℕ, zero, suc, ◌+◌, ◌*◌, ◌≤◌, ◌<◌}
use native.Mathlib.Nat.{le_refl, zero-mul, suc-mul}
use native.Mathlib.Omega.{arith}
use lib.ListN.{length, get_or, take, drop, set, replicate, length-take, length-drop, length-replicate}
use lib.Seq.{get_or-take, get_or-drop, take-add, take_all, drop-drop, length-take-le, set-append_left, set-get_or}
use borrow.Author.Tests.{ne_eqb}
use Rattle.counting.specs.Count.{build}
use Rattle.counting.proofs.Bools.{cond_false}
use Rattle.sizes.specs.Sizes.{outside, table_rows}
use Rattle.runfile.specs.declared.Heading.{Heading}
use Rattle.runfile.specs.declared.write.Wrote.{Wrote}
use Rattle.runfile.specs.File.{n_of, t_byte, t_of, faulty_of, heading_bytes, heading_row, AllBytes}
use Rattle.runfile.specs.Reply.{heading_of, heading_reply, heading_writes, table_refusal, table_writes}
use Rattle.runfile.specs.Write.{
  heading_file,
  table_file,
  write_heading_reply,
  write_heading_writes,
  write_table_reply,
  write_table_writes,
}
use Rattle.runfile.proofs.Laws.{Readable, readable_passes, heading_given, table_passes}
use Rattle.runfile.proofs.Trip.{heading_again, table_again}
use Rattle.runfile.proofs.Calls.{
  ReadHeadingCall,
  ReadTableCall,
  WriteHeadingCall,
  WriteTableCall,
  read_heading_call_is,
  read_table_call_is,
  read_heading_call,
  read_table_call,
  write_heading_call,
  write_table_call,
  read_heading_writes,
  read_table_writes,
}
use Rattle.listing.specs.File.{table_bytes, table_begins, bytes_of, table_of, heading, rows_of, due}
use Rattle.listing.specs.Listing.{ends_with}
use Rattle.listing.specs.Rewrite.{joined, file_from}
use Rattle.listing.proofs.Heading.{
  thirteen,
  heading_says,
  heading_reads,
  heading_low,
  heading_high,
  heading_starts,
}
use Rattle.listing.proofs.Table.{table_long}
use Rattle.listing.proofs.Ends.{taken_exact, begins_next, begins_mono}

-- texts that are the same make one text
joined_ext : (a b : ℕ → List ℕ) (m : ℕ) → ((k : ℕ) → k < m → a k ≡ b k) → joined a m ≡ joined b m
unfolding joined
joined_ext a b zero h = refl
joined_ext a b (suc m) h =
    ap₂ (λ (xs ys : List ℕ). xs ++ ys) (joined_ext a b m (λ k l. h k (omega arith))) (h m (le_refl _))

-- the bytes of the tables, one behind the other, are what lies behind the heading
joined_tables : (n : ℕ) (bytes : List ℕ) (m : ℕ) →
    joined (bytes_of n bytes) m ≡ take (m * table_bytes n) (drop (heading_bytes n) bytes)
unfolding joined bytes_of table_begins
joined_tables n bytes zero = ap (λ (k : ℕ). take k (drop (heading_bytes n) bytes)) (sym (zero-mul (table_bytes n)))
joined_tables n bytes (suc m) =
    let size = table_bytes n in
    let left = drop (heading_bytes n) bytes in
    let more : m * size + size ≡ suc m * size = sym (suc-mul m size) in
    ap₂ (λ (xs ys : List ℕ). xs ++ ys) (joined_tables n bytes m)
    (ap (take size) (sym (drop-drop (m * size) (heading_bytes n) bytes)))
    ∙ sym (take-add (m * size) size left)
    ∙ ap (λ (k : ℕ). take k left) more

-- a part of a file is bytes
part_bytes : (n : ℕ) (bytes : List ℕ) (m : ℕ) → AllBytes bytes → AllBytes (bytes_of n bytes m)
unfolding bytes_of
part_bytes n bytes m all k l =
    let from = table_begins n m in
    let left = drop from bytes in
    let cut = length-take (table_bytes n) left in
    let rest = length-drop from bytes in
    let same : get_or (take (table_bytes n) left) k 0 ≡ get_or bytes (from + k) 0 =
    get_or-take (table_bytes n) left k 0 (omega (arith, cut, l)) ∙ get_or-drop from bytes k 0 in
    subst (λ (b : ℕ). b < 256) (sym same) (all (from + k) (omega (arith, cut, rest, l)))

module _ (bytes : List ℕ) (all : AllBytes bytes) (taken : ends_with bytes ≡ 0) where
  abbrev n_here : ℕ
  n_here = (heading bytes).n

  ok : (heading bytes).refusal ≡ 0
  ok = (taken_exact bytes taken).0

  exact : length bytes ≡ heading_bytes n_here + due bytes * table_bytes n_here
  unfolding table_begins
  exact = (taken_exact bytes taken).1

  -- the heading, with a number in the place of the t byte, and the tables are the file with that number
  whole : (t : ℕ) →
      set (take (heading_bytes n_here) bytes) 6 t ++ joined (bytes_of n_here bytes) (due bytes) ≡ set bytes 6 t
  unfolding heading_bytes
  whole t =
      let first = heading_bytes n_here in
      let size = due bytes * table_bytes n_here in
      let left = drop first bytes in
      let long : length (take first bytes) ≡ first = length-take-le first bytes (omega (arith, exact)) in
      ap (λ (ys : List ℕ). set (take first bytes) 6 t ++ ys) (joined_tables n_here bytes (due bytes))
      ∙ sym (set-append_left (take first bytes) (take size left) 6 t (omega (arith, long)))
      ∙ ap (λ (xs : List ℕ). set xs 6 t)
      (sym (take-add first size bytes) ∙ take_all (first + size) bytes (omega (arith, exact)))

  -- a table that is due is whole
  table_whole : (m : ℕ) → m < due bytes → length (bytes_of n_here bytes m) ≡ 8 * table_rows n_here
  table_whole m l =
      let far = begins_mono n_here (suc m) (due bytes) l in
      table_long n_here bytes m (heading_low bytes ok) (heading_high bytes ok)
      (omega (arith, far, begins_next n_here m, (taken_exact bytes taken).1))

  n_is : n_here ≡ n_of bytes
  unfolding heading_of
  n_is = ap (λ (h : Heading). h.n) (heading_says bytes ok)

  faulty_is : (heading bytes).faulty ≡ faulty_of bytes
  unfolding heading_of
  faulty_is = ap (λ (h : Heading). h.faulty) (heading_says bytes ok)

  -- what is written in the place of the t byte
  t_is : (t_byte bytes ≡ 255 → ⊥) → (heading bytes).t ≡ t_byte bytes
  unfolding heading_of t_of
  t_is other = ap (λ (h : Heading). h.t) (heading_says bytes ok) ∙ cond_false _ _ (ne_eqb (t_byte bytes) 255 other)

  same_t : (t_byte bytes ≡ 255 → ⊥) → set bytes 6 (heading bytes).t ≡ bytes
  unfolding t_byte
  same_t other = ap (set bytes 6) (t_is other) ∙ set-get_or bytes 6 0

  head_again : (t : ℕ) →
      heading_file n_here t (heading bytes).faulty (rows_of bytes) ≡ set (take (heading_bytes n_here) bytes) 6 t
  unfolding rows_of
  head_again t =
      ap₂ (λ (n faulty : ℕ). heading_file n t faulty (rows_of bytes)) n_is faulty_is
      ∙ heading_again bytes (length thirteen) (heading_reads bytes ok) all t (rows_of bytes)
      (ap (λ (n : ℕ). build n (heading_row bytes)) n_is)
      ∙ ap (λ (n : ℕ). set (take (heading_bytes n) bytes) 6 t) (sym n_is)

  -- taken apart and put together, by the definitions
  pub file_again : file_from (heading bytes).n (heading bytes).t (heading bytes).faulty (rows_of bytes)
      (table_of (heading bytes).n bytes)
      ≡ set bytes 6 (heading bytes).t
  unfolding file_from table_of due
  file_again =
      ap₂ (λ (xs ys : List ℕ). xs ++ ys) (head_again (heading bytes).t)
      (joined_ext (λ m. table_file n_here (table_of n_here bytes m)) (bytes_of n_here bytes) (due bytes)
      (λ m l.
      table_again n_here (bytes_of n_here bytes m) (table_of n_here bytes m) (part_bytes n_here bytes m all)
      (table_whole m l)
      refl))
      ∙ whole (heading bytes).t

  pub file_same_again : (t_byte bytes ≡ 255 → ⊥) →
      file_from (heading bytes).n (heading bytes).t (heading bytes).faulty (rows_of bytes)
      (table_of (heading bytes).n bytes)
      ≡ bytes
  file_same_again other = file_again ∙ same_t other

-- a file that is taken apart by calls of the readers and put together by calls of the writers, each with room in its
-- slice: the heading is read and written, then each of tables 0 to t, and the texts stand one behind the other
pub record Rewritten (bytes : List ℕ) : Type 1 where
  -- the heading is read
  pub head : Heading
  pub rows_slice : List ℕ
  pub rows_last : List ℕ
  pub head_read : ReadHeadingCall bytes rows_slice head rows_last
  pub rows_room : 13 ≤ length rows_slice
  -- and written
  pub head_wrote : Wrote
  pub head_slice : List ℕ
  pub head_last : List ℕ
  pub head_written : WriteHeadingCall head.n head.t head.faulty (take head.n rows_last) head_slice
      head_wrote head_last
  pub head_room : heading_bytes head.n ≤ length head_slice
  -- each table is read
  pub refusals : ℕ → ℕ
  pub table_slices : ℕ → List ℕ
  pub table_lasts : ℕ → List ℕ
  pub tables_read : (m : ℕ) → m < head.t + 1 →
      ReadTableCall head.n (bytes_of head.n bytes m) (table_slices m) (refusals m) (table_lasts m)
  pub table_room : (m : ℕ) → m < head.t + 1 → table_rows head.n ≤ length (table_slices m)
  -- and written
  pub wrotes : ℕ → Wrote
  pub out_slices : ℕ → List ℕ
  pub out_lasts : ℕ → List ℕ
  pub tables_written : (m : ℕ) → m < head.t + 1 →
      WriteTableCall head.n (take (table_rows head.n) (table_lasts m)) (out_slices m) (wrotes m) (out_lasts m)
  pub out_room : (m : ℕ) → m < head.t + 1 → 8 * table_rows head.n ≤ length (out_slices m)

-- the bytes that were written, put together
abbrev pub written_text : {bytes : List ℕ} → Rewritten bytes → List ℕ
written_text r =
    take r.head_wrote.size r.head_last ++
    joined (λ m. take (r.wrotes m).size (r.out_lasts m)) (r.head.t + 1)

module _ (bytes : List ℕ) (all : AllBytes bytes) (taken : ends_with bytes ≡ 0) (r : Rewritten bytes) where
  -- the heading's reply does not depend on the room, where there is enough
  head_is : r.head ≡ heading bytes
  head_is =
      let good = ok bytes all taken in
      let a = heading_reads bytes good in
      let room = length r.rows_slice in
      let b : Readable bytes room =
      record {
        long = a.long;
        mark = a.mark;
        version = a.version;
        inside = a.inside;
        few = a.few;
        within = a.within;
        whole = a.whole;
        nonzero = a.nonzero;
        enough = omega (arith, a.enough, r.rows_room);
      } in
      (read_heading_call_is r.head_read).0
      ∙ heading_given bytes r.rows_slice (readable_passes bytes room b)
      ∙ sym (heading_says bytes good)

  head_good : r.head.refusal ≡ 0
  head_good = ap (λ (h : Heading). h.refusal) head_is ∙ ok bytes all taken

  head_text : (r.head_wrote.refusal ≡ 0)
      × (take r.head_wrote.size r.head_last ≡ set (take (heading_bytes r.head.n) bytes) 6 r.head.t)
  head_text =
      let w = read_heading_writes r.head_read head_good all r.head_written r.head_room in
      (w.0, w.2 ∙ ap (λ (m : ℕ). set (take m bytes) 6 r.head.t) w.1)

  -- each table is whole, so that it is read
  parts_whole : (m : ℕ) → m < r.head.t + 1 → length (bytes_of r.head.n bytes m) ≡ 8 * table_rows r.head.n
  unfolding due
  parts_whole =
      subst
      (λ (h : Heading). (m : ℕ) → m < h.t + 1 → length (bytes_of h.n bytes m) ≡ 8 * table_rows h.n)
      (sym head_is) (table_whole bytes all taken)

  table_good : (m : ℕ) → m < r.head.t + 1 → r.refusals m ≡ 0
  table_good m l =
      let n = r.head.n in
      let starts = heading_starts bytes (ok bytes all taken) in
      let inside = subst (λ (h : Heading). outside h.n ≡ false) (sym head_is) starts.pass4 in
      (read_table_call_is (r.tables_read m l)).0
      ∙ table_passes n (bytes_of n bytes m) (length (r.table_slices m))
      (record { inside = inside; exact = parts_whole m l; enough = r.table_room m l })

  table_text_lem : (m : ℕ) → m < r.head.t + 1 →
      ((r.wrotes m).refusal ≡ 0) × (take (r.wrotes m).size (r.out_lasts m) ≡ bytes_of r.head.n bytes m)
  table_text_lem m l =
      let w =
      read_table_writes (r.tables_read m l) (table_good m l) (part_bytes r.head.n bytes m all)
      (r.tables_written m l) (r.out_room m l) in
      (w.0, w.2)

  -- no call is refused
  pub rewritten_accepted : (r.head.refusal ≡ 0) × (r.head_wrote.refusal ≡ 0)
      × ((m : ℕ) → m < r.head.t + 1 → (r.refusals m ≡ 0) × ((r.wrotes m).refusal ≡ 0))
  rewritten_accepted = (head_good, head_text.0, λ m l. (table_good m l, (table_text_lem m l).0))

  -- and the text is the file with t in the place of the t byte
  pub rewritten_is : written_text r ≡ set bytes 6 (heading bytes).t
  unfolding due
  rewritten_is =
      ap₂ (λ (xs ys : List ℕ). xs ++ ys) head_text.1
      (joined_ext (λ m. take (r.wrotes m).size (r.out_lasts m)) (bytes_of r.head.n bytes) (r.head.t + 1)
      (λ m l. (table_text_lem m l).1))
      ∙ ap
      (λ (h : Heading).
      set (take (heading_bytes h.n) bytes) 6 h.t ++ joined (bytes_of h.n bytes) (h.t + 1))
      head_is
      ∙ whole bytes all taken (heading bytes).t

  -- where the t byte is not 255 it is exactly the file
  pub rewritten_same : (t_byte bytes ≡ 255 → ⊥) → written_text r ≡ bytes
  rewritten_same other = rewritten_is ∙ same_t bytes all taken other

-- a slice of so many zeros
abbrev blank : ℕ → List ℕ
blank size = replicate size 0

blank_room : (size : ℕ) → size ≤ length (blank size)
blank_room size = omega (arith, length-replicate {A = ℕ} size 0)

-- there are such calls for every file
pub rewritten_exists : (bytes : List ℕ) → Rewritten bytes
rewritten_exists bytes =
    let head : Heading = heading_reply bytes (length (blank 13)) in
    let last : List ℕ = heading_writes bytes (blank 13) in
    let rows : List ℕ = take head.n last in
    let room : List ℕ = blank (heading_bytes head.n) in
    let count : ℕ = table_rows head.n in
    let given : ℕ → List ℕ = λ m. table_writes head.n (bytes_of head.n bytes m) (blank count) in
    record {
      head = head;
      rows_slice = blank 13;
      rows_last = last;
      head_read = read_heading_call bytes (blank 13);
      rows_room = blank_room 13;
      head_wrote = write_heading_reply head.n head.t head.faulty rows (length room);
      head_slice = room;
      head_last = write_heading_writes head.n head.t head.faulty rows room;
      head_written = write_heading_call head.n head.t head.faulty rows room;
      head_room = blank_room (heading_bytes head.n);
      refusals = λ m. table_refusal head.n (bytes_of head.n bytes m) (length (blank count));
      table_slices = λ m. blank count;
      table_lasts = given;
      tables_read = λ m l. read_table_call head.n (bytes_of head.n bytes m) (blank count);
      table_room = λ m l. blank_room count;
      wrotes = λ m. write_table_reply head.n (take count (given m)) (length (blank (8 * count)));
      out_slices = λ m. blank (8 * count);
      out_lasts = λ m. write_table_writes head.n (take count (given m)) (blank (8 * count));
      tables_written = λ m l. write_table_call head.n (take count (given m)) (blank (8 * count));
      out_room = λ m l. blank_room (8 * count);
    }

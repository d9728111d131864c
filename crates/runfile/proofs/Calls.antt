-- There and back, said of calls: of every reply of the readers and the writers, with the last contents of the slice,
-- that meets the function's contract as the toolchain states it. What was written is read as it was given, and what
-- was read is written as it stood, but for a t byte of 255. Assumes nothing.
use mathlib.Core.Path.{◌≡◌, refl, sym, ap, ap₂, subst, ◌∙◌}
use mathlib.Core.List.{List, []}
use Prim.Native.Nat.{ℕ, ◌*◌, ◌≤◌}
use lib.ListN.{length, take, set}
use denote.Ref.{Bor}
use denote.MutBor.{MutBor}
use Rattle.counting.specs.Count.{build}
use Rattle.counting.proofs.Build.{length_build, front_take}
use Rattle.sizes.specs.Sizes.{Startable, table_rows}
use Rattle.runfile.specs.declared.Heading.{Heading}
use Rattle.runfile.specs.declared.write.Wrote.{Wrote}
use Rattle.runfile.specs.File.{n_of, t_byte, t_of, faulty_of, heading_bytes, heading_row, table_row, AllBytes, AllRows}
use Rattle.runfile.specs.Reply.{
  heading_of,
  heading_refusal,
  heading_reply,
  heading_writes,
  table_refusal,
  table_writes,
}
use Rattle.runfile.specs.Write.{
  heading_file,
  table_file,
  write_heading_refusal,
  write_heading_reply,
  write_heading_writes,
  write_table_refusal,
  write_table_reply,
  write_table_writes,
}
use Rattle.runfile.proofs.Laws.{
  heading_readable,
  heading_given,
  heading_written,
  heading_number,
  heading_startable,
  table_accepted,
  table_written,
}
use Rattle.runfile.proofs.Written.{
  write_heading_accepted,
  write_heading_passes,
  write_heading_number,
  write_heading_size,
  write_heading_front,
  write_table_accepted,
  write_table_passes,
  write_table_number,
  write_table_size,
  write_table_front,
}
use Rattle.runfile.proofs.Trip.{
  heading_back,
  heading_rows_back,
  heading_again,
  heading_same_again,
  table_back,
  table_rows_back,
  table_again,
}
use Rattle.runfile.proofs.read_heading.Reads as ReadHeadingReads
use Rattle.runfile.proofs.read_table.Reads as ReadTableReads
use Rattle.runfile.proofs.write.write_heading.Reads as WriteHeadingReads
use Rattle.runfile.proofs.write.write_table.Reads as WriteTableReads

-- r is a reply of `read_heading` to these bytes and a slice, which holds last after the call
pub data ReadHeadingCall : List ℕ → List ℕ → Heading → List ℕ → Type 1 where
  call : (κs : _) (a : _) (r : _) (x : _) → ReadHeadingReads.Post κs a r x →
      ReadHeadingCall a.0.now a.1.0.now r x.1.0.now

-- r is a reply of `read_table` to n, these bytes and a slice
pub data ReadTableCall : ℕ → List ℕ → List ℕ → ℕ → List ℕ → Type 1 where
  call : (κs : _) (a : _) (r : _) (x : _) → ReadTableReads.Post κs a r x →
      ReadTableCall a.0 a.1.0.now a.1.1.0.now r x.1.1.0.now

-- r is a reply of `write_heading` to n, t, the faulty set, these rows and a slice
pub data WriteHeadingCall : ℕ → ℕ → ℕ → List ℕ → List ℕ → Wrote → List ℕ → Type 1 where
  call : (κs : _) (a : _) (r : _) (x : _) → WriteHeadingReads.Post κs a r x →
      WriteHeadingCall a.0 a.1.0 a.1.1.0 a.1.1.1.0.now a.1.1.1.1.0.now r
      x.1.1.1.1.0.now

-- r is a reply of `write_table` to n, these rows and a slice
pub data WriteTableCall : ℕ → List ℕ → List ℕ → Wrote → List ℕ → Type 1 where
  call : (κs : _) (a : _) (r : _) (x : _) → WriteTableReads.Post κs a r x →
      WriteTableCall a.0 a.1.0.now a.1.1.0.now r x.1.1.0.now

pub read_heading_call_is : {bytes slice last : List ℕ} {r : Heading} → ReadHeadingCall bytes slice r last →
    (r ≡ heading_reply bytes (length slice)) × (last ≡ heading_writes bytes slice)
read_heading_call_is (ReadHeadingCall.call κs a r x p) = p

pub read_table_call_is : {n r : ℕ} {bytes slice last : List ℕ} → ReadTableCall n bytes slice r last →
    (r ≡ table_refusal n bytes (length slice)) × (last ≡ table_writes n bytes slice)
read_table_call_is (ReadTableCall.call κs a r x p) = p

pub write_heading_call_is : {n t faulty : ℕ} {rows slice last : List ℕ} {r : Wrote} →
    WriteHeadingCall n t faulty rows slice r last →
    (r ≡ write_heading_reply n t faulty rows (length slice)) × (last ≡ write_heading_writes n t faulty rows slice)
write_heading_call_is (WriteHeadingCall.call κs a r x p) = p

pub write_table_call_is : {n : ℕ} {rows slice last : List ℕ} {r : Wrote} → WriteTableCall n rows slice r last →
    (r ≡ write_table_reply n rows (length slice)) × (last ≡ write_table_writes n rows slice)
write_table_call_is (WriteTableCall.call κs a r x p) = p

-- there are such calls, with every argument: what the definitions give meets the contracts
abbrev lent : List ℕ → Bor (List ℕ)
lent numbers = record { ref_ptr = (0, 0); now = numbers }

abbrev lent_mut : List ℕ → MutBor (List ℕ)
lent_mut numbers = record { ref_ptr = (0, 0); ghost_name = 0; now = numbers }

pub read_heading_call : (bytes slice : List ℕ) →
    ReadHeadingCall bytes slice (heading_reply bytes (length slice)) (heading_writes bytes slice)
read_heading_call bytes slice =
    ReadHeadingCall.call ([], ([], tt)) (lent bytes, (lent_mut slice, tt)) (heading_reply bytes (length slice))
    (lent bytes, (lent_mut (heading_writes bytes slice), tt)) (refl, refl)

pub read_table_call : (n : ℕ) (bytes slice : List ℕ) →
    ReadTableCall n bytes slice (table_refusal n bytes (length slice)) (table_writes n bytes slice)
read_table_call n bytes slice =
    ReadTableCall.call ([], ([], tt)) (n, (lent bytes, (lent_mut slice, tt))) (table_refusal n bytes (length slice))
    (n, (lent bytes, (lent_mut (table_writes n bytes slice), tt))) (refl, refl)

pub write_heading_call : (n t faulty : ℕ) (rows slice : List ℕ) →
    WriteHeadingCall n t faulty rows slice (write_heading_reply n t faulty rows (length slice))
    (write_heading_writes n t faulty rows slice)
write_heading_call n t faulty rows slice =
    WriteHeadingCall.call ([], ([], tt)) (n, (t, (faulty, (lent rows, (lent_mut slice, tt)))))
    (write_heading_reply n t faulty rows (length slice))
    (n, (t, (faulty, (lent rows, (lent_mut (write_heading_writes n t faulty rows slice), tt))))) (refl, refl)

pub write_table_call : (n : ℕ) (rows slice : List ℕ) →
    WriteTableCall n rows slice (write_table_reply n rows (length slice)) (write_table_writes n rows slice)
write_table_call n rows slice =
    WriteTableCall.call ([], ([], tt)) (n, (lent rows, (lent_mut slice, tt))) (write_table_reply n rows (length slice))
    (n, (lent rows, (lent_mut (write_table_writes n rows slice), tt))) (refl, refl)

-- what an accepted call of the heading writer wrote
module _ {n t faulty : ℕ} {rows slice last : List ℕ} {r : Wrote} (c : WriteHeadingCall n t faulty rows slice r last)
    (ok : r.refusal ≡ 0) where
  heading_taken : write_heading_refusal n t faulty rows (length slice) ≡ 0
  heading_taken =
      sym (write_heading_number n t faulty rows slice)
      ∙ ap (λ (w : Wrote). w.refusal) (sym (write_heading_call_is c).0)
      ∙ ok

  pub heading_size : r.size ≡ heading_bytes n
  heading_size =
      ap (λ (w : Wrote). w.size) (write_heading_call_is c).0
      ∙ write_heading_size n t faulty rows slice heading_taken

  pub heading_text_lem : take r.size last ≡ heading_file n t faulty rows
  heading_text_lem =
      ap₂ take heading_size (write_heading_call_is c).1 ∙ write_heading_front n t faulty rows slice heading_taken

-- and of the table writer
module _ {n : ℕ} {rows slice last : List ℕ} {r : Wrote} (c : WriteTableCall n rows slice r last)
    (ok : r.refusal ≡ 0) where
  table_taken : write_table_refusal n rows (length slice) ≡ 0
  table_taken =
      sym (write_table_number n rows slice) ∙ ap (λ (w : Wrote). w.refusal) (sym (write_table_call_is c).0) ∙ ok

  pub table_size : r.size ≡ 8 * table_rows n
  table_size = ap (λ (w : Wrote). w.size) (write_table_call_is c).0 ∙ write_table_size n rows slice table_taken

  pub table_text_lem : take r.size last ≡ table_file n rows
  table_text_lem = ap₂ take table_size (write_table_call_is c).1 ∙ write_table_front n rows slice table_taken

-- a heading, written and then read: bytes that begin with the ones written give the same n, t, faulty set and rows
pub written_heading_reads : {n t faulty : ℕ} {rows out written bytes slice last : List ℕ} {w : Wrote}
    {h : Heading} →
    WriteHeadingCall n t faulty rows out w written → w.refusal ≡ 0 → AllRows rows →
    take w.size bytes ≡ take w.size written → ReadHeadingCall bytes slice h last → n ≤ length slice →
    (h ≡ record { refusal = 0; version = 1; n = n; t = t; faulty = faulty }) × (take n last ≡ rows)
written_heading_reads {n} {t} {faulty} {rows} {out} {bytes = bytes} {slice = slice} c ok small begins d enough =
    let starts = (write_heading_accepted n t faulty rows (length out) (heading_taken c ok)).starts in
    let first : take (heading_bytes n) bytes ≡ heading_file n t faulty rows =
    ap (λ (m : ℕ). take m bytes) (sym (heading_size c ok)) ∙ begins ∙ heading_text_lem c ok in
    let is = read_heading_call_is d in (
      is.0 ∙ heading_back n t faulty rows starts small bytes first slice enough,
      ap (take n) is.1 ∙ heading_rows_back n t faulty rows starts small bytes first slice enough,
    )

-- what an accepted call of the heading reader gave
module _ {bytes slice last : List ℕ} {h : Heading} (d : ReadHeadingCall bytes slice h last)
    (ok : h.refusal ≡ 0) where
  heading_passed : heading_refusal bytes (length slice) ≡ 0
  heading_passed =
      sym (heading_number bytes (length slice))
      ∙ ap (λ (r : Heading). r.refusal) (sym (read_heading_call_is d).0)
      ∙ ok

  heading_says : h ≡ heading_of bytes
  heading_says = (read_heading_call_is d).0 ∙ heading_given bytes slice heading_passed

  n_says : h.n ≡ n_of bytes
  unfolding heading_of
  n_says = ap (λ (r : Heading). r.n) heading_says

  t_says : h.t ≡ t_of (n_of bytes) (t_byte bytes)
  unfolding heading_of
  t_says = ap (λ (r : Heading). r.t) heading_says

  faulty_says : h.faulty ≡ faulty_of bytes
  unfolding heading_of
  faulty_says = ap (λ (r : Heading). r.faulty) heading_says

  given_starts : Startable h.n h.t h.faulty (take h.n last)
  unfolding heading_of
  given_starts =
      subst (λ (q : Heading). Startable q.n q.t q.faulty (take q.n last)) (sym heading_says)
      (subst
      (λ (xs : List ℕ). Startable (n_of bytes) (t_of (n_of bytes) (t_byte bytes)) (faulty_of bytes)
      (take (n_of bytes) xs))
      (sym (read_heading_call_is d).1)
      (heading_startable bytes slice heading_passed))

  given_rows : take h.n last ≡ build (n_of bytes) (heading_row bytes)
  given_rows =
      ap₂ take n_says (read_heading_call_is d).1
      ∙ ap (take (n_of bytes)) (heading_written bytes slice heading_passed)
      ∙ front_take (n_of bytes) (heading_row bytes) slice

  -- written again
  module _ (all : AllBytes bytes) {out written : List ℕ} {w : Wrote}
      (c : WriteHeadingCall h.n h.t h.faulty (take h.n last) out w written)
      (enough : heading_bytes h.n ≤ length out) where
    again_passes : w.refusal ≡ 0
    again_passes =
        ap (λ (r : Wrote). r.refusal) (write_heading_call_is c).0
        ∙ write_heading_number h.n h.t h.faulty (take h.n last) out
        ∙ write_heading_passes h.n h.t h.faulty (take h.n last) (length out) given_starts enough

    again_text : take w.size written ≡ set (take w.size bytes) 6 h.t
    again_text =
        heading_text_lem c again_passes
        ∙ ap₂ (λ (n faulty : ℕ). heading_file n h.t faulty (take h.n last)) n_says faulty_says
        ∙ heading_again bytes (length slice) (heading_readable bytes (length slice) heading_passed) all h.t
        (take h.n last) given_rows
        ∙ ap (λ (m : ℕ). set (take m bytes) 6 h.t)
        (sym (heading_size c again_passes ∙ ap heading_bytes n_says))

    again_same : (t_byte bytes ≡ 255 → ⊥) → take w.size written ≡ take w.size bytes
    again_same other =
        let size = heading_size c again_passes ∙ ap heading_bytes n_says in
        again_text
        ∙ ap₂ (λ (m t : ℕ). set (take m bytes) 6 t) size t_says
        ∙ heading_same_again bytes (length slice) (heading_readable bytes (length slice) heading_passed) all other
        ∙ ap (λ (m : ℕ). take m bytes) (sym size)

-- a heading, read and then written: the call is accepted, and the bytes written are the file's first 9 + 8n, with t in
-- the place of the t byte
pub read_heading_writes : {bytes slice last out written : List ℕ} {h : Heading} {w : Wrote} →
    ReadHeadingCall bytes slice h last → h.refusal ≡ 0 → AllBytes bytes →
    WriteHeadingCall h.n h.t h.faulty (take h.n last) out w written →
    heading_bytes h.n ≤ length out →
    (w.refusal ≡ 0) ×
    (w.size ≡ heading_bytes h.n) ×
    (take w.size written ≡ set (take w.size bytes) 6 h.t)
read_heading_writes d ok all c enough =
    let passes = again_passes d ok all c enough in
    (passes, heading_size c passes, again_text d ok all c enough)

-- where the t byte is not 255 they are exactly the file's
pub read_heading_writes_same : {bytes slice last out written : List ℕ} {h : Heading} {w : Wrote} →
    ReadHeadingCall bytes slice h last → h.refusal ≡ 0 → AllBytes bytes →
    WriteHeadingCall h.n h.t h.faulty (take h.n last) out w written →
    heading_bytes h.n ≤ length out →
    (t_byte bytes ≡ 255 → ⊥) → take w.size written ≡ take w.size bytes
read_heading_writes_same d ok all c enough other = again_same d ok all c enough other

-- a table, written and then read: the bytes written give the same rows
pub written_table_reads : {n r : ℕ} {rows out written bytes slice last : List ℕ} {w : Wrote} →
    WriteTableCall n rows out w written → w.refusal ≡ 0 → AllRows rows → bytes ≡ take w.size written →
    ReadTableCall n bytes slice r last → table_rows n ≤ length slice →
    (r ≡ 0) × (take (table_rows n) last ≡ rows)
written_table_reads {n} {r} {rows} {out} {slice = slice} {last = last} c ok small whole d enough =
    let a = write_table_accepted n rows (length out) (table_taken c ok) in
    let text = whole ∙ table_text_lem c ok in
    let is = read_table_call_is d in (
      is.0
          ∙ ap (λ (xs : List ℕ). table_refusal n xs (length slice)) text
          ∙ table_back n rows a.inside a.exact small slice enough,
      ap (take (table_rows n)) (is.1 ∙ ap (λ (xs : List ℕ). table_writes n xs slice) text)
          ∙ table_rows_back n rows a.inside a.exact small slice enough,
    )

-- a table, read and then written: the call is accepted, and the bytes written are the table's
pub read_table_writes : {n r : ℕ} {bytes slice last out written : List ℕ} {w : Wrote} →
    ReadTableCall n bytes slice r last → r ≡ 0 → AllBytes bytes →
    WriteTableCall n (take (table_rows n) last) out w written → 8 * table_rows n ≤ length out →
    (w.refusal ≡ 0) × (w.size ≡ length bytes) × (take w.size written ≡ bytes)
read_table_writes {n} {r} {bytes} {slice} {last} {out} {w = w} d ok all c enough =
    let given = take (table_rows n) last in
    let passed = sym (read_table_call_is d).0 ∙ ok in
    let a = table_accepted n bytes (length slice) passed in
    let rows : given ≡ build (table_rows n) (table_row bytes) =
    ap (take (table_rows n)) ((read_table_call_is d).1 ∙ table_written n bytes slice passed)
    ∙ front_take (table_rows n) (table_row bytes) slice in
    let passes : w.refusal ≡ 0 =
    ap (λ (q : Wrote). q.refusal) (write_table_call_is c).0
    ∙ write_table_number n given out
    ∙ write_table_passes n given (length out) a.inside
    (ap length rows ∙ length_build (table_rows n) (table_row bytes)) enough in (
      passes,
      table_size c passes ∙ sym a.exact,
      table_text_lem c passes ∙ table_again n bytes given all a.exact rows,
    )

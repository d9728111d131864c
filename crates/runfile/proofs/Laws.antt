-- What the readers' replies say: a read that is not refused passed every test, an accepted heading is what a start
-- takes, a refused read leaves the slice, and the slice keeps its length. Assumes nothing.
use mathlib.Core.Path.{◌≡◌, refl, sym, ap, ◌∙◌}
use mathlib.Core.Bool.{Bool, true, false, not, cond, ◌&&◌}
use mathlib.Core.List.{List, []}
use Prim.Native.Nat.{ℕ, ◌*◌, ◌≤◌, ◌<◌}
use native.Mathlib.Decide.{ℕ_discrete}
use lib.Dec.{eqb}
use lib.ListN.{length, take, drop}
use lib.Seq.{take_at}
use borrow.Author.Tests.{ltb-false, le-ltb, eqb-true, eq-eqb, ne_eqb}
use Rattle.counting.specs.Count.{build}
use Rattle.counting.proofs.Bools.{not_false, not_of_true, cond_true, cond_false}
use Rattle.counting.proofs.Build.{length_build}
use Rattle.counting.proofs.Refuse.{accepted, passed, none_left}
use Rattle.sizes.specs.Sizes.{Startable, outside, too_many, stray, sound_zero, table_rows, largest_t}
use Rattle.sizes.proofs.Laws.{inside_low, tolerated, tolerated_lt, largest_tolerated}
use Rattle.runfile.specs.declared.Heading.{Heading}
use Rattle.runfile.specs.File.{
  has_mark,
  version_of,
  n_of,
  t_byte,
  t_of,
  faulty_of,
  heading_bytes,
  heading_row,
  table_row,
}
use Rattle.counting.specs.Count.{front}
use Rattle.runfile.specs.Reply.{
  heading_tests,
  heading_refusal,
  heading_of,
  nothing_read,
  heading_reply,
  heading_writes,
  table_tests,
  table_refusal,
  table_writes,
}
use Rattle.counting.proofs.Build.{front_length}

-- the tests that a heading passed
pub record Readable (bytes : List ℕ) (room : ℕ) : Type 0 where
  pub long : 9 ≤ length bytes
  pub mark : has_mark bytes ≡ true
  pub version : version_of bytes ≡ 1
  pub inside : outside (n_of bytes) ≡ false
  pub few : (not (eqb (t_byte bytes) 255) && too_many (n_of bytes) (t_byte bytes)) ≡ false
  pub within : stray (n_of bytes) (faulty_of bytes) ≡ false
  pub whole : heading_bytes (n_of bytes) ≤ length bytes
  pub nonzero : sound_zero (n_of bytes) (faulty_of bytes) (build (n_of bytes) (heading_row bytes)) ≡ false
  pub enough : n_of bytes ≤ room

pub heading_readable : (bytes : List ℕ) (room : ℕ) → heading_refusal bytes room ≡ 0 → Readable bytes room
unfolding heading_refusal heading_tests
heading_readable bytes room h =
    let a1 = accepted 0 _ _ h in
    let a2 = accepted 1 _ _ a1.1 in
    let a3 = accepted 2 _ _ a2.1 in
    let a4 = accepted 3 _ _ a3.1 in
    let a5 = accepted 4 _ _ a4.1 in
    let a6 = accepted 5 _ _ a5.1 in
    let a8 = accepted 7 _ _ a6.1 in
    let a9 = accepted 8 _ _ a8.1 in
    let a10 = accepted 9 _ _ a9.1 in
    record {
      long = ltb-false _ _ a1.0;
      mark = not_false _ a2.0;
      version = eqb-true _ _ (not_false _ a3.0);
      inside = a4.0;
      few = a5.0;
      within = a6.0;
      whole = ltb-false _ _ a8.0;
      nonzero = a9.0;
      enough = ltb-false _ _ a10.0;
    }

-- and a heading that passes them is not refused
pub readable_passes : (bytes : List ℕ) (room : ℕ) → Readable bytes room → heading_refusal bytes room ≡ 0
unfolding heading_refusal heading_tests
readable_passes bytes room a =
    passed 1 _ (le-ltb _ _ a.long)
    ∙ passed 2 _ (not_of_true a.mark)
    ∙ passed 3 _ (not_of_true (eq-eqb _ _ a.version))
    ∙ passed 4 _ a.inside
    ∙ passed 5 _ a.few
    ∙ passed 6 _ a.within
    ∙ passed 8 _ (le-ltb _ _ a.whole)
    ∙ passed 9 _ a.nonzero
    ∙ passed 10 [] (le-ltb _ _ a.enough)
    ∙ none_left

-- the tests that a table passed
pub record TableAccepted (n : ℕ) (bytes : List ℕ) (room : ℕ) : Type 0 where
  pub inside : outside n ≡ false
  pub exact : length bytes ≡ 8 * table_rows n
  pub enough : table_rows n ≤ room

pub table_accepted : (n : ℕ) (bytes : List ℕ) (room : ℕ) → table_refusal n bytes room ≡ 0 → TableAccepted n bytes room
unfolding table_refusal table_tests
table_accepted n bytes room h =
    let a4 = accepted 3 _ _ h in
    let a8 = accepted 7 _ _ a4.1 in
    let a10 = accepted 9 _ _ a8.1 in
    record { inside = a4.0; exact = eqb-true _ _ (not_false _ a8.0); enough = ltb-false _ _ a10.0 }

-- and a table that passes them is not refused
pub table_passes : (n : ℕ) (bytes : List ℕ) (room : ℕ) → TableAccepted n bytes room → table_refusal n bytes room ≡ 0
unfolding table_refusal table_tests
table_passes n bytes room a =
    passed 4 _ a.inside
    ∙ passed 8 _ (not_of_true (eq-eqb _ _ a.exact))
    ∙ passed 10 [] (le-ltb _ _ a.enough)
    ∙ none_left

-- a refused heading gives the refusal's number alone and leaves the slice; another gives what it says and writes its
-- rows
module _ (bytes : List ℕ) (slice : List ℕ) where
  pub heading_refused : (heading_refusal bytes (length slice) ≡ 0 → ⊥) →
      heading_reply bytes (length slice) ≡ nothing_read (heading_refusal bytes (length slice))
  unfolding heading_reply
  heading_refused h = cond_false _ _ (ne_eqb _ _ h)

  pub heading_leaves : (heading_refusal bytes (length slice) ≡ 0 → ⊥) → heading_writes bytes slice ≡ slice
  unfolding heading_writes
  heading_leaves h = cond_false _ _ (ne_eqb _ _ h)

  pub heading_given : heading_refusal bytes (length slice) ≡ 0 → heading_reply bytes (length slice) ≡ heading_of bytes
  unfolding heading_reply
  heading_given h = cond_true _ _ (eq-eqb _ _ h)

  pub heading_written : heading_refusal bytes (length slice) ≡ 0 →
      heading_writes bytes slice ≡ front (n_of bytes) (heading_row bytes) slice
  unfolding heading_writes
  heading_written h = cond_true _ _ (eq-eqb _ _ h)

-- a reply carries the refusal's number, 0 where nothing is refused
pub heading_number : (bytes : List ℕ) (room : ℕ) → (heading_reply bytes room).refusal ≡ heading_refusal bytes room
unfolding heading_reply heading_of nothing_read
heading_number bytes room = go (ℕ_discrete (heading_refusal bytes room) 0)
  where
    go : Dec (heading_refusal bytes room ≡ 0) → (heading_reply bytes room).refusal ≡ heading_refusal bytes room
    go (yes e) = ap (λ (h : Heading). h.refusal) (cond_true _ _ (eq-eqb _ _ e)) ∙ sym e
    go (no d) = ap (λ (h : Heading). h.refusal) (cond_false _ _ (ne_eqb _ _ d))

-- so does a table
module _ (n : ℕ) (bytes : List ℕ) (slice : List ℕ) where
  pub table_leaves : (table_refusal n bytes (length slice) ≡ 0 → ⊥) → table_writes n bytes slice ≡ slice
  unfolding table_writes
  table_leaves h = cond_false _ _ (ne_eqb _ _ h)

  pub table_written : table_refusal n bytes (length slice) ≡ 0 →
      table_writes n bytes slice ≡ front (table_rows n) (table_row bytes) slice
  unfolding table_writes
  table_written h = cond_true _ _ (eq-eqb _ _ h)

-- the slice keeps its length
pub heading_length : (bytes slice : List ℕ) → length (heading_writes bytes slice) ≡ length slice
heading_length bytes slice = go (ℕ_discrete (heading_refusal bytes (length slice)) 0)
  where
    go : Dec (heading_refusal bytes (length slice) ≡ 0) → length (heading_writes bytes slice) ≡ length slice
    go (yes e) =
        ap length (heading_written bytes slice e)
        ∙ front_length (n_of bytes) (heading_row bytes) slice (heading_readable bytes (length slice) e).enough
    go (no d) = ap length (heading_leaves bytes slice d)

pub table_length : (n : ℕ) (bytes slice : List ℕ) → length (table_writes n bytes slice) ≡ length slice
table_length n bytes slice = go (ℕ_discrete (table_refusal n bytes (length slice)) 0)
  where
    go : Dec (table_refusal n bytes (length slice) ≡ 0) → length (table_writes n bytes slice) ≡ length slice
    go (yes e) =
        ap length (table_written n bytes slice e)
        ∙ front_length (table_rows n) (table_row bytes) slice (table_accepted n bytes (length slice) e).enough
    go (no d) = ap length (table_leaves n bytes slice d)

-- the t of an accepted heading, the number that 255 stands for too, has 3t less than n
pub heading_tolerates : (bytes : List ℕ) (room : ℕ) → heading_refusal bytes room ≡ 0 →
    3 * t_of (n_of bytes) (t_byte bytes) < n_of bytes
unfolding t_of
heading_tolerates bytes room e = go (eqb (t_byte bytes) 255) refl
  where
    a : Readable bytes room
    a = heading_readable bytes room e

    go : (b : Bool) → eqb (t_byte bytes) 255 ≡ b → 3 * cond b (largest_t (n_of bytes)) (t_byte bytes) < n_of bytes
    go true h = largest_tolerated (n_of bytes) (inside_low (n_of bytes) a.inside)
    go false h = tolerated_lt (n_of bytes) (t_byte bytes) (rw h at a.few)

-- an accepted heading's numbers, with the n rows that were written, are such
pub heading_startable : (bytes slice : List ℕ) → heading_refusal bytes (length slice) ≡ 0 →
    Startable (n_of bytes) (t_of (n_of bytes) (t_byte bytes)) (faulty_of bytes)
    (take (n_of bytes) (heading_writes bytes slice))
unfolding front
heading_startable bytes slice e =
    let a = heading_readable bytes (length slice) e in
    let rows : take (n_of bytes) (heading_writes bytes slice) ≡ build (n_of bytes) (heading_row bytes) =
    ap (take (n_of bytes)) (heading_written bytes slice e)
    ∙ take_at (build (n_of bytes) (heading_row bytes)) (drop (n_of bytes) slice) (n_of bytes)
    (length_build (n_of bytes) (heading_row bytes)) in
    record {
      pass4 = a.inside;
      pass5 = tolerated _ _ (heading_tolerates bytes (length slice) e);
      pass6 = a.within;
      pass11 = ap length rows ∙ length_build (n_of bytes) (heading_row bytes);
      pass9 = ap (sound_zero (n_of bytes) (faulty_of bytes)) rows ∙ a.nonzero;
    }

-- A part of a table: a call that is not refused has its rows in the bytes and room in the slice, a refused one leaves
-- the slice, and afterwards each place of the part holds the table's row of that place and every other place what it
-- held. Assumes nothing.
use mathlib.Core.Path.{◌≡◌, ap, ◌∙◌}
use mathlib.Core.List.{List, [], ◌++◌}
use mathlib.Core.Logic.{⊎_elim}
use Prim.Native.Nat.{ℕ, ◌+◌, ◌-◌, ◌*◌, ◌≤◌, ◌<◌}
use native.Mathlib.Omega.{arith}
use lib.Dec.{ltb}
use lib.ListN.{length, get_or, take, drop, length-append, length-drop, get_or-append}
use lib.Seq.{length-take-le, get_or-take, get_or-drop, get_or-append-add}
use borrow.Author.Tests.{ltb-true, ltb-false, le-ltb, eq-eqb, ne_eqb}
use Rattle.counting.specs.Count.{build}
use Rattle.counting.proofs.Bools.{cond_true, cond_false, either}
use Rattle.counting.proofs.Build.{length_build, get_or_build}
use Rattle.counting.proofs.Refuse.{accepted, passed, none_left}
use Rattle.runfile.specs.File.{number, row_from, table_row}
use Rattle.runfile.specs.Reply.{part_tests, part_refusal, part_of, part_writes}

-- the tests that a part passed
pub record PartAccepted (from count : ℕ) (bytes : List ℕ) (room : ℕ) : Type 0 where
  pub within : 8 * (from + count) ≤ length bytes
  pub enough : from + count ≤ room

pub part_accepted : (from count : ℕ) (bytes : List ℕ) (room : ℕ) → part_refusal from count bytes room ≡ 0 →
    PartAccepted from count bytes room
unfolding part_refusal part_tests
part_accepted from count bytes room h =
    let a8 = accepted 7 _ _ h in
    let a10 = accepted 9 _ _ a8.1 in
    record { within = ltb-false _ _ a8.0; enough = ltb-false _ _ a10.0 }

-- and a part that passes them is not refused
pub part_passes : (from count : ℕ) (bytes : List ℕ) (room : ℕ) → 8 * (from + count) ≤ length bytes →
    from + count ≤ room →
    part_refusal from count bytes room ≡ 0
unfolding part_refusal part_tests
part_passes from count bytes room w e = passed 8 _ (le-ltb _ _ w) ∙ passed 10 [] (le-ltb _ _ e) ∙ none_left

module _ (from count : ℕ) (bytes slice : List ℕ) where
  pub part_leaves : (part_refusal from count bytes (length slice) ≡ 0 → ⊥) → part_writes from count bytes slice ≡ slice
  unfolding part_writes
  part_leaves h = cond_false _ _ (ne_eqb _ _ h)

  pub part_written : part_refusal from count bytes (length slice) ≡ 0 →
      part_writes from count bytes slice ≡ part_of from count bytes slice
  unfolding part_writes
  part_written h = cond_true _ _ (eq-eqb _ _ h)

module _ (from count : ℕ) (bytes slice : List ℕ) (fits : from + count ≤ length slice) where
  front_long : length (take from slice) ≡ from
  front_long = length-take-le from slice (omega arith)

  -- the slice keeps its length
  pub part_length : length (part_of from count bytes slice) ≡ length slice
  unfolding part_of
  part_length =
      let rows = build count (row_from (8 * from) bytes) in
      length-append (take from slice) (rows ++ drop (from + count) slice)
      ∙ omega (
        arith,
        front_long,
        length-append rows (drop (from + count) slice),
        length_build count (row_from (8 * from) bytes),
        length-drop (from + count) slice,
      )

  -- what stands behind the places before the part
  behind : (k : ℕ) →
      get_or (part_of from count bytes slice) (from + k) 0
      ≡ get_or (build count (row_from (8 * from) bytes) ++ drop (from + count) slice) k 0
  unfolding part_of
  behind k =
      let rest = build count (row_from (8 * from) bytes) ++ drop (from + count) slice in
      let place : from + k ≡ length (take from slice) + k = omega (arith, front_long) in
      ap (λ (p : ℕ). get_or (take from slice ++ rest) p 0) place ∙ get_or-append-add (take from slice) rest k 0

  -- a place of the part holds the table's row
  pub part_sets : (p : ℕ) → from ≤ p → p < from + count →
      get_or (part_of from count bytes slice) p 0 ≡ table_row bytes p
  unfolding row_from table_row
  part_sets p l h =
      let k = p - from in
      let place : p ≡ from + k = omega arith in
      let row : 8 * from + 8 * k ≡ 0 + 8 * p = omega arith in
      let rows = row_from (8 * from) bytes in
      let few : k < count = omega arith in
      ap (λ (q : ℕ). get_or (part_of from count bytes slice) q 0) place
      ∙ behind k
      ∙ get_or-append (build count rows) (drop (from + count) slice) 0 k (omega (arith, length_build count rows))
      ∙ get_or_build count rows k 0 few
      ∙ ap (λ (at : ℕ). number bytes at 8) row

  -- any other place holds what it held
  before_part : (p : ℕ) → p < from → get_or (part_of from count bytes slice) p 0 ≡ get_or slice p 0
  unfolding part_of
  before_part p l =
      get_or-append (take from slice) _ 0 p (omega (arith, front_long)) ∙ get_or-take from slice p 0 l

  behind_part : (p : ℕ) → from + count ≤ p → get_or (part_of from count bytes slice) p 0 ≡ get_or slice p 0
  behind_part p l =
      let rows = build count (row_from (8 * from) bytes) in
      let j = p - (from + count) in
      let place : p ≡ from + (length rows + j) = omega (arith, length_build count (row_from (8 * from) bytes)) in
      let back : from + count + j ≡ p = omega arith in
      ap (λ (q : ℕ). get_or (part_of from count bytes slice) q 0) place
      ∙ behind (length rows + j)
      ∙ get_or-append-add rows (drop (from + count) slice) j 0
      ∙ get_or-drop (from + count) slice j 0
      ∙ ap (λ (q : ℕ). get_or slice q 0) back

  -- so a place that held the table's row holds it still
  pub part_keeps : (p : ℕ) → get_or slice p 0 ≡ table_row bytes p →
      get_or (part_of from count bytes slice) p 0 ≡ table_row bytes p
  part_keeps p e =
      ⊎_elim
      (λ t. before_part p (ltb-true p from t) ∙ e)
      (λ f.
      ⊎_elim
      (λ t. part_sets p (ltb-false p from f) (ltb-true p (from + count) t))
      (λ g. behind_part p (ltb-false p (from + count) g) ∙ e)
      (either (ltb p (from + count))))
      (either (ltb p from))

-- The file before any line `say`: how long it is, and that a heading with zeros behind it is one. Assumes nothing.
use mathlib.Core.Path.{◌≡◌, refl, ap, ◌∙◌}
use mathlib.Core.Bool.{Bool, true, false}
use mathlib.Core.List.{List, [], ◌++◌, append-nil}
use Prim.Native.Nat.{ℕ, ◌+◌, ◌-◌, ◌*◌, ◌≤◌}
use native.Mathlib.Nat.{le_refl}
use native.Mathlib.Omega.{arith}
use lib.Dec.{ltb}
use lib.ListN.{length, take, drop, length-append}
use borrow.Rule.Slice.PartMut.{mid_of, post_of, put_mid, mid_len, Post-is}
use lib.Seq.{drop-length}
use borrow.Author.Tests.{eq-eqb}
use Rattle.counting.specs.Count.{build}
use Rattle.counting.proofs.Bools.{cond_true, cond_false}
use Rattle.counting.proofs.Build.{length_build}
use Rattle.counting.specs.Refuse.{first_of}
use Rattle.sizes.specs.Sizes.{size_refusal}
use Rattle.runfile.specs.File.{heading_bytes}
use Rattle.runfile.specs.Write.{heading_file, write_heading_refusal, write_heading_writes}
use Rattle.runfile.proofs.Written.{
  write_heading_accepted,
  write_heading_front,
  write_heading_length,
  length_heading_file,
}
use Rattle.lines.specs.Line.{placed}
use Rattle.listing.specs.File.{table_bytes, table_begins}
use Rattle.making.specs.declared.Maker.{Maker}
use Rattle.making.specs.Make.{file_bytes, file_room, empty_file}

-- what the heading passed bounds n and t
sized : (n t faulty : ℕ) (rows : List ℕ) (room : ℕ) → write_heading_refusal n t faulty rows room ≡ 0 →
    size_refusal n t ≡ 0
unfolding size_refusal first_of
sized n t faulty rows room h =
    let s = (write_heading_accepted n t faulty rows room h).starts in
    rw (s.pass4, s.pass5) refl

-- the length of a file with a heading that is not refused
pub file_long : (n t faulty : ℕ) (rows : List ℕ) (room : ℕ) → write_heading_refusal n t faulty rows room ≡ 0 →
    file_bytes n t ≡ heading_bytes n + (t + 1) * table_bytes n
unfolding file_bytes table_begins
file_long n t faulty rows room h = cond_true _ 0 (eq-eqb (size_refusal n t) 0 (sized n t faulty rows room h))

-- a heading and zeros to the end of a slice that is as long as the file
pub empty_is : (m : Maker) (rows : List ℕ) (zeros : ℕ) → file_bytes m.n m.t ≡ heading_bytes m.n + zeros →
    file_bytes m.n m.t ≡ heading_bytes m.n + (m.t + 1) * table_bytes m.n →
    heading_file m.n m.t m.faulty rows ++ build zeros (λ k. 0) ≡ empty_file m rows
unfolding empty_file
empty_is m rows zeros e f =
    let same : zeros ≡ (m.t + 1) * table_bytes m.n = omega (arith, e, f) in
    ap (λ (k : ℕ). heading_file m.n m.t m.faulty rows ++ build k (λ j. 0)) same

-- its length
pub empty_long : (m : Maker) (rows : List ℕ) →
    length (empty_file m rows) ≡ heading_bytes m.n + (m.t + 1) * table_bytes m.n
unfolding empty_file
empty_long m rows =
    length-append (heading_file m.n m.t m.faulty rows) _
    ∙ omega (
      arith,
      length_heading_file m.n m.t m.faulty rows,
      length_build ((m.t + 1) * table_bytes m.n) (λ k. 0),
    )

-- a heading that is written to a slice of that length, and what is behind it cleared
pub heading_cleared : (m : Maker) (rows file part zeros : List ℕ) (from : ℕ) →
    write_heading_refusal m.n m.t m.faulty rows (length file) ≡ 0 →
    part ≡ write_heading_writes m.n m.t m.faulty rows file →
    from ≡ heading_bytes m.n →
    zeros ≡ build (length (mid_of from (length part - from) part)) (λ k. 0) →
    ((length file ≡ 0 → ⊥) → length file ≡ file_bytes m.n m.t) →
    put_mid from (length part - from) part zeros ≡ empty_file m rows
unfolding heading_bytes
heading_cleared m rows file part zeros from passes is_part is-from is-zeros whole =
    let n = m.n in
    let room : heading_bytes n ≤ length file =
    (write_heading_accepted n m.t m.faulty rows (length file) passes).enough in
    let long : length part ≡ length file = ap length is_part ∙ write_heading_length n m.t m.faulty rows file in
    let all : length file ≡ file_bytes n m.t = whole (λ z. omega (arith, room, z)) in
    let head : take from part ≡ heading_file n m.t m.faulty rows =
    ap (λ (k : ℕ). take k part) is-from
    ∙ ap (take (heading_bytes n)) is_part
    ∙ write_heading_front n m.t m.faulty rows file passes in
    let behind : post_of from (length part - from) part ≡ [] =
    Post-is from (length part) part (omega (arith, is-from, room, long)) ∙ drop-length part in
    let cleared : zeros ≡ build (length part - from) (λ k. 0) =
    is-zeros ∙ ap (λ (k : ℕ). build k (λ j. 0)) (mid_len from (length part) part (le_refl _)) in
    ap (λ (xs : List ℕ). xs ++ (zeros ++ post_of from (length part - from) part)) head
    ∙ ap (λ (xs : List ℕ). heading_file n m.t m.faulty rows ++ (zeros ++ xs)) behind
    ∙ ap (λ (xs : List ℕ). heading_file n m.t m.faulty rows ++ xs) (append-nil zeros ∙ cleared)
    ∙ empty_is m rows (length part - from) (omega (arith, is-from, room, long, all))
    (file_long n m.t m.faulty rows (length file) passes)

-- room for a file is as much as it takes, where there is any
pub room_whole : (n t room : ℕ) → (file_room n t room ≡ 0 → ⊥) → file_room n t room ≡ file_bytes n t
unfolding file_room
room_whole n t room h = go (ltb room (file_bytes n t)) refl
  where
    go : (b : Bool) → ltb room (file_bytes n t) ≡ b → file_room n t room ≡ file_bytes n t
    go true e = absurd (h (cond_true 0 (file_bytes n t) e))
    go false e = cond_false 0 (file_bytes n t) e

-- the file without any row that was said, written to that room
pub rows_filed : (m : Maker) (rows file part : List ℕ) (end : ℕ) → end ≡ file_room m.n m.t (length file) →
    write_heading_refusal m.n m.t m.faulty rows end ≡ 0 → part ≡ empty_file m rows →
    part ++ drop end file ≡ placed file 0 (empty_file m rows)
unfolding placed heading_bytes
rows_filed m rows file part end is-end passes is_part =
    let n = m.n in
    let some : heading_bytes n ≤ end = (write_heading_accepted n m.t m.faulty rows end passes).enough in
    let whole = room_whole n m.t (length file) (λ z. omega (arith, some, is-end, z)) in
    let long : end ≡ 0 + length (empty_file m rows) =
    omega (arith, is-end, whole, file_long n m.t m.faulty rows end passes, empty_long m rows) in
    ap (λ (xs : List ℕ). xs ++ drop end file) is_part
    ∙ ap (λ (xs : List ℕ). empty_file m rows ++ xs)
    (ap (λ (k : ℕ). drop k file) long)

-- The rows of one sender stand in three parts of a table: n of step 1, then n² of step 2 and n² of step 3. Reading a
-- part puts the table's rows to its places and takes none away from any other place; so three parts read one after
-- the other are the sender's rows, and those of all faulty senders are all that an iteration reads of the table.
-- Assumes nothing.
use mathlib.Core.Path.{◌≡◌, sym, ap, ◌∙◌}
use mathlib.Core.List.{List}
use Prim.Native.Nat.{ℕ, ◌+◌, ◌*◌, ◌≤◌, ◌<◌}
use native.Mathlib.Nat.{suc-mul, add-mul, mul_assoc, mul-le-mul_right}
use native.Mathlib.Omega.{arith}
use lib.Arith.{digits_lt}
use lib.ListN.{length, get_or, take}
use lib.Seq.{get_or-take}
use Rattle.counting.specs.Count.{build}
use Rattle.counting.proofs.Build.{get_or_build}
use Rattle.sizes.specs.Sizes.{table_rows}
use Rattle.sizes.proofs.Laws.{table_le}
use Rattle.gradecast.specs.Steps.{place1, place_from, place2, place3}
use Rattle.gradecast.specs.Lies.{SameLies}
use Rattle.gradecast.proofs.Places.{two_digits, three_digits, first_fits, second_fits, third_fits}
use Rattle.runfile.specs.File.{table_row}
use Rattle.runfile.specs.Reply.{part_of, part_writes}
use Rattle.runfile.proofs.Part.{part_passes, part_written, part_length, part_sets, part_keeps}
use Rattle.listing.specs.File.{table_bytes}
use Rattle.listing.specs.Inside.{Holds, Taken, Keeps, TakenTo}

-- a sender's n rows lie within the n² of step 1, and its n² within the n³ of step 2 or 3
module _ {n sender : ℕ} (l : sender < n) where
  pub rows_within : sender * n + n ≤ n * n
  rows_within = omega (arith, suc-mul sender n, mul-le-mul_right n l)

  pub block_within : sender * (n * n) + n * n ≤ n * n * n
  block_within = omega (arith, suc-mul sender (n * n), mul-le-mul_right (n * n) l, mul_assoc n n n)

  -- a place of step 2 or 3 lies in the sender's block
  in_block : (receiver leader : ℕ) → receiver < n → leader < n →
      (sender * (n * n) ≤ (sender * n + receiver) * n + leader) ×
      ((sender * n + receiver) * n + leader < sender * (n * n) + n * n)
  in_block receiver leader r k =
      let sum = add-mul (sender * n) receiver n in
      let product = mul_assoc sender n n in
      let digits = digits_lt r k in
      (omega (arith, sum, product), omega (arith, sum, product, digits))

-- what one part that is read brings
module _ {n : ℕ} (few : n ≤ 13) (from count : ℕ) (bytes table last : List ℕ) (whole : length bytes ≡ table_bytes n)
    (room : length table ≡ 4563) (within : from + count ≤ table_rows n) (e : last
    ≡ part_writes from count bytes table) where
  fits : from + count ≤ length table
  fits = omega (arith, table_le few)

  is_part : last ≡ part_of from count bytes table
  unfolding table_bytes
  is_part = e ∙ part_written from count bytes table (part_passes from count bytes (length table) (omega arith) fits)

  pub part_kept : Keeps bytes table last
  part_kept =
      record {
        long = ap length is_part ∙ part_length from count bytes table fits;
        held = λ p h. ap (λ (xs : List ℕ). get_or xs p 0) is_part ∙ part_keeps from count bytes table fits p h;
      }

  pub part_there : (p : ℕ) → from ≤ p → p < from + count → Holds bytes last p
  part_there p a b = ap (λ (xs : List ℕ). get_or xs p 0) is_part ∙ part_sets from count bytes table fits p a b

pub keeps_trans : {bytes a b c : List ℕ} → Keeps bytes a b → Keeps bytes b c → Keeps bytes a c
keeps_trans x y = record { long = y.long ∙ x.long; held = λ p h. y.held p (x.held p h) }

-- the three parts of a sender, read one after the other
module _ {n sender : ℕ} (few : n ≤ 13) (l : sender < n) (bytes table one two last : List ℕ) (whole : length bytes
    ≡ table_bytes n)
    (room : length table ≡ 4563)
    (e1 : one ≡ part_writes (sender * n) n bytes table)
    (e2 : two ≡ part_writes (n * n + sender * (n * n)) (n * n) bytes one)
    (e3 : last ≡ part_writes (n * n + n * n * n + sender * (n * n)) (n * n) bytes two) where
  within1 : sender * n + n ≤ table_rows n
  within1 = omega (arith, rows_within l, first_fits n)

  within2 : n * n + sender * (n * n) + n * n ≤ table_rows n
  within2 = omega (arith, block_within l, second_fits n)

  within3 : n * n + n * n * n + sender * (n * n) + n * n ≤ table_rows n
  within3 = omega (arith, block_within l, third_fits n)

  kept1 : Keeps bytes table one
  kept1 = part_kept few (sender * n) n bytes table one whole room within1 e1

  kept2 : Keeps bytes one two
  kept2 = part_kept few (n * n + sender * (n * n)) (n * n) bytes one two whole (kept1.long ∙ room) within2 e2

  room2 : length two ≡ 4563
  room2 = kept2.long ∙ kept1.long ∙ room

  kept3 : Keeps bytes two last
  kept3 = part_kept few (n * n + n * n * n + sender * (n * n)) (n * n) bytes two last whole room2 within3 e3

  pub sender_kept : Keeps bytes table last
  sender_kept = keeps_trans (keeps_trans kept1 kept2) kept3

  pub sender_taken : Taken n bytes last sender
  unfolding place1 place2 place3 place_from
  sender_taken =
      record {
        step1 =
            λ r hr.
            (keeps_trans kept2 kept3).held (sender * n + r)
            (part_there few (sender * n) n bytes table one whole room within1 e1 (sender * n + r) (omega arith)
            (omega arith));
        step2 =
            λ r k hr hk.
            let b = in_block l r k hr hk in
            kept3.held (n * n + ((sender * n + r) * n + k))
            (part_there few (n * n + sender * (n * n)) (n * n) bytes one two whole (kept1.long ∙ room) within2 e2
            (n * n + ((sender * n + r) * n + k)) (omega arith) (omega arith));
        step3 =
            λ r k hr hk.
            let b = in_block l r k hr hk in
            part_there few (n * n + n * n * n + sender * (n * n)) (n * n) bytes two last whole room2 within3 e3
            (n * n + n * n * n + ((sender * n + r) * n + k)) (omega arith) (omega arith);
      }

-- a table of which the faulty senders' rows were taken is as good as the whole table
module _ (n faulty : ℕ) (bytes table : List ℕ) (t : TakenTo n faulty bytes table n) where
  same_at : (p : ℕ) → p < table_rows n → Holds bytes table p →
      get_or (build (table_rows n) (table_row bytes)) p 0 ≡ get_or (take (table_rows n) table) p 0
  same_at p l h = get_or_build (table_rows n) (table_row bytes) p 0 l ∙ sym h
      ∙ sym (get_or-take (table_rows n) table p 0 l)

  pub taken_same : SameLies n faulty (build (table_rows n) (table_row bytes)) (take (table_rows n) table)
  unfolding place1 place2 place3 place_from
  taken_same =
      record {
        step1 =
            λ s r hs hr m.
            same_at (s * n + r) (omega (arith, two_digits hs hr, first_fits n)) ((t s hs m).step1 r hr);
        step2 =
            λ s r k hs hr hk m.
            same_at (n * n + ((s * n + r) * n + k)) (omega (arith, three_digits hs hr hk, second_fits n))
            ((t s hs m).step2 r k hr hk);
        step3 =
            λ s r k hs hr hk m.
            same_at (n * n + n * n * n + ((s * n + r) * n + k)) (omega (arith, three_digits hs hr hk, third_fits n))
            ((t s hs m).step3 r k hr hk);
      }

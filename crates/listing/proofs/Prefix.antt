-- Only the first 182,634 bytes of a file matter. A shorter file is its own beginning. Of a longer one the beginning
-- has the same heading, which lies in the first 113 bytes; the tables that are due lie before byte 182,633; and both
-- go on past the last table. Assumes nothing.
use mathlib.Core.Path.{◌≡◌, refl, sym, ap, ap₂, subst, ◌∙◌}
use mathlib.Core.List.{List}
use Prim.Native.Nat.{ℕ, zero, suc, ◌+◌, ◌*◌, ◌≤◌, ◌<◌}
use native.Mathlib.Nat.{mul-le-mul, suc-mul}
use native.Mathlib.Decide.{dec_lt, ℕ_discrete}
use native.Mathlib.Omega.{arith}
use lib.ListN.{length, get_or, take, drop, length-drop}
use lib.Seq.{length-take-le, take_all, get_or-take, get_or-drop, ext_get_or}
use borrow.Author.Tests.{lt-ltb, ne_eqb}
use Rattle.counting.specs.Count.{build}
use Rattle.counting.proofs.Build.{build_ext}
use Rattle.sizes.specs.Sizes.{table_rows}
use Rattle.sizes.proofs.Laws.{inside_high, table_le}
use Rattle.runfile.specs.declared.Heading.{Heading}
use Rattle.runfile.specs.File.{number, n_of, heading_bytes, row_from, heading_row, table_row}
use Rattle.runfile.specs.Reply.{heading_refusal, nothing_read, heading_reply, table_refusal}
use Rattle.runfile.proofs.Follows.{heading_alike}
use Rattle.runfile.proofs.Laws.{heading_number}
use Rattle.gradecast.specs.Lies.{SameLies}
use Rattle.listing.specs.File.{
  table_bytes,
  table_begins,
  bytes_of,
  table_of,
  heading,
  rows_of,
  refused_start,
  due,
  goes_on,
}
use Rattle.listing.specs.Files.{enough}
use Rattle.listing.specs.Listing.{outcome_of, listing_of}
use Rattle.listing.proofs.Heading.{heading_good, heading_high, heading_few}
use Rattle.listing.proofs.Alike.{Alike, alike_listing, alike_outcome}

-- a number that lies within the first k bytes
number_take : (k : ℕ) (bytes : List ℕ) (at size : ℕ) → at + size ≤ k →
    number (take k bytes) at size ≡ number bytes at size
unfolding number
number_take k bytes at zero l = refl
number_take k bytes at (suc size) l =
    ap₂ (λ (a b : ℕ). a * 256 + b) (number_take k bytes at size (omega arith))
    (get_or-take k bytes (at + size) 0 (omega arith))

-- a part that lies within the first k bytes
part_take : (k : ℕ) (bytes : List ℕ) (at size : ℕ) → at + size ≤ k → k ≤ length bytes →
    take size (drop at (take k bytes)) ≡ take size (drop at bytes)
part_take k bytes at size l h =
    let short = length-take-le k bytes h in
    let a = drop at (take k bytes) in
    let b = drop at bytes in
    let la : length (take size a) ≡ size =
    length-take-le size a (omega (arith, length-drop at (take k bytes), short)) in
    let lb : length (take size b) ≡ size = length-take-le size b (omega (arith, length-drop at bytes)) in
    ext_get_or 0 (take size a) (take size b) (la ∙ sym lb)
    (λ i li.
    let small : i < size = omega arith in
    get_or-take size a i 0 small
    ∙ get_or-drop at (take k bytes) i 0
    ∙ get_or-take k bytes (at + i) 0 (omega arith)
    ∙ sym (get_or-drop at bytes i 0)
    ∙ sym (get_or-take size b i 0 small))

heading_most : {n : ℕ} → n ≤ 13 → heading_bytes n ≤ 113
unfolding heading_bytes
heading_most l = omega arith

-- a heading, refused or not, says at most 13 boxes
heading_n : (bytes : List ℕ) → (heading bytes).n ≤ 13
unfolding heading heading_reply nothing_read
heading_n bytes = go (ℕ_discrete (heading bytes).refusal 0)
  where
    go : Dec ((heading bytes).refusal ≡ 0) → (heading bytes).n ≤ 13
    go (yes e) = heading_high bytes e
    go (no d) =
        let refused : heading_refusal bytes 13 ≡ 0 → ⊥ = λ z. d (heading_number bytes 13 ∙ z) in
        rw (ne_eqb (heading_refusal bytes 13) 0 refused) (omega arith)

-- one table says the same as itself
lies_same : (n faulty : ℕ) (a b : List ℕ) → a ≡ b → SameLies n faulty a b
lies_same n faulty a b e =
    subst (SameLies n faulty a) e
    (record {
      step1 = λ s r hs hr m. refl;
      step2 = λ s r k hs hr hk m. refl;
      step3 = λ s r k hs hr hk m. refl;
    })

-- a longer file, and its beginning
module _ (bytes : List ℕ) (long : enough < length bytes) where
  front : List ℕ
  front = take enough bytes

  front_long : length front ≡ enough
  unfolding front
  front_long = length-take-le enough bytes (omega arith)

  byte_same : (i : ℕ) → i < enough → get_or front i 0 ≡ get_or bytes i 0
  unfolding front
  byte_same i l = get_or-take enough bytes i 0 l

  number_same : (at size : ℕ) → at + size ≤ enough → number front at size ≡ number bytes at size
  unfolding front
  number_same at size l = number_take enough bytes at size l

  rows_same : (n : ℕ) → n ≤ 13 → build n (heading_row front) ≡ build n (heading_row bytes)
  unfolding heading_row row_from
  rows_same n l =
      build_ext n (λ k. number front (9 + 8 * k) 8) (λ k. number bytes (9 + 8 * k) 8)
      (λ k lk. number_same (9 + 8 * k) 8 (omega arith))

  heading_same : heading front ≡ heading bytes
  unfolding heading
  heading_same =
      heading_alike enough front bytes
      (record {
        reaches_a = omega (arith, front_long);
        reaches_b = omega arith;
        same = byte_same;
        fixed = omega arith;
        whole = λ inside. omega (arith, heading_most (inside_high (n_of front) inside));
      })
      13

  -- the tables that are due lie within
  module _ (ok : refused_start front ≡ 0) where
    good : (heading front).refusal ≡ 0
    good = heading_good front ok

    begins_most : (m : ℕ) → m ≤ 5 → table_begins (heading front).n m ≤ 182633
    unfolding table_begins table_bytes heading_bytes
    begins_most m l =
        let high = heading_high front good in
        let one : 8 * table_rows (heading front).n ≤ 36504 = omega (arith, table_le high) in
        omega (arith, high, mul-le-mul l one)

    due_few : due front ≤ 5
    unfolding due
    due_few = omega (arith, heading_few front good, heading_high front good)

    within : (m : ℕ) → m < due front → table_begins (heading front).n m + table_bytes (heading front).n ≤ enough
    unfolding table_begins
    within m l =
        omega (arith, begins_most (suc m) (omega (arith, due_few)), suc-mul m (table_bytes (heading front).n))

    table_same : (m : ℕ) → m < due front → bytes_of (heading front).n front m ≡ bytes_of (heading front).n bytes m
    unfolding bytes_of front
    table_same m l =
        part_take enough bytes (table_begins (heading front).n m) (table_bytes (heading front).n) (within m l)
        (omega arith)

    goes_same : goes_on front ≡ goes_on bytes
    unfolding goes_on due
    goes_same =
        let last = begins_most ((heading front).t + 1) due_few in
        let other = ap (λ (h : Heading). table_begins h.n (h.t + 1)) heading_same in
        lt-ltb _ (length front) (omega (arith, last, front_long))
        ∙ sym (lt-ltb (table_begins (heading bytes).n ((heading bytes).t + 1)) (length bytes)
        (omega (arith, last, other)))

  front_alike : Alike front bytes
  unfolding rows_of table_of
  front_alike =
      record {
        headings = heading_same;
        rows =
            rows_same_all ∙ ap (λ (h : Heading). build h.n (heading_row bytes)) heading_same;
        refusals = λ ok m l. ap (λ (xs : List ℕ). table_refusal (heading front).n xs 4563) (table_same ok m l);
        lies =
            λ ok m l.
            lies_same (heading front).n (heading front).faulty _ _
            (ap (λ (xs : List ℕ). build (table_rows (heading front).n) (table_row xs)) (table_same ok m l));
        ends = goes_same;
      }
    where
      rows_same_all : build (heading front).n (heading_row front) ≡ build (heading front).n (heading_row bytes)
      rows_same_all = rows_same (heading front).n (heading_n front)

-- only the first 182,634 bytes of a file matter
pub listing_front : (bytes : List ℕ) → listing_of (take enough bytes) ≡ listing_of bytes
unfolding front
listing_front bytes = go (dec_lt enough (length bytes))
  where
    go : Dec (enough < length bytes) → listing_of (take enough bytes) ≡ listing_of bytes
    go (yes l) = alike_listing (take enough bytes) bytes (front_alike bytes l)
    go (no d) = ap listing_of (take_all enough bytes (omega (arith, d)))

pub outcome_front : (bytes : List ℕ) → outcome_of (take enough bytes) ≡ outcome_of bytes
unfolding front
outcome_front bytes = go (dec_lt enough (length bytes))
  where
    go : Dec (enough < length bytes) → outcome_of (take enough bytes) ≡ outcome_of bytes
    go (yes l) = alike_outcome (take enough bytes) bytes (front_alike bytes l)
    go (no d) = ap outcome_of (take_all enough bytes (omega (arith, d)))

-- How the listing of a file ends, told from its heading and its length alone: with the heading's refusal, else with
-- `sent` where the file is as long as its heading and its t + 1 tables together, else with 8. For behind a good
-- heading neither the start nor an iteration is refused, and a table only where its bytes are not all there. Assumes
-- nothing.
use mathlib.Core.Path.{◌≡◌, refl, sym, ◌∙◌}
use mathlib.Core.Bool.{Bool, true, false, cond, ◌&&◌}
use mathlib.Core.List.{List}
use mathlib.Core.Logic.{◌⊎◌, ⊎_elim}
use mathlib.Core.Logic.◌⊎◌.{inl, inr}
use Prim.Native.Nat.{ℕ, suc, ◌+◌, ◌-◌, ◌*◌, ◌≤◌, ◌<◌}
use native.Mathlib.Nat.{le_refl, suc-mul, mul-le-mul, mul-le-mul_right}
use native.Mathlib.Numerals.{add-one}
use native.Mathlib.Decide.{ℕ_discrete}
use native.Mathlib.Omega.{arith}
use lib.Dec.{eqb, ltb}
use lib.ListN.{length}
use borrow.Author.Tests.{eq-eqb, ne_eqb, lt-ltb, le-ltb, ltb-true, ltb-false, eqb-true}
use Rattle.counting.proofs.Bools.{cond_true, cond_false, either, and_right}
use Rattle.counting.proofs.Build.{length_build}
use Rattle.sizes.specs.Sizes.{table_rows}
use Rattle.run.proofs.Course.{never_refused}
use Rattle.runfile.specs.File.{table_row}
use Rattle.listing.specs.File.{
  or_else,
  table_bytes,
  table_begins,
  bytes_of,
  table_of,
  refused_table,
  heading,
  rows_of,
  reply_after,
  refused_start,
  refused_at,
  due,
  goes_on,
}
use Rattle.listing.specs.Listing.{passed, done_of, refused_later, ends_with}
use Rattle.listing.proofs.Heading.{
  first_refused,
  first_passed,
  none_refused,
  heading_low,
  heading_high,
  heading_starts,
}
use Rattle.listing.proofs.Iterations.{passed_most}
use Rattle.listing.proofs.Table.{table_short, table_good}
use Rattle.listing.proofs.Taken.{Ends, passed_ends}

-- where all of the first k + 1 are passed, the last is
passed_last : (f : ℕ → ℕ) (k : ℕ) → passed f (suc k) ≡ suc k → f k ≡ 0
unfolding passed
passed_last f k e = go (eqb (passed f k) k && eqb (f k) 0) refl
  where
    go : (b : Bool) → (eqb (passed f k) k && eqb (f k) 0) ≡ b → f k ≡ 0
    go true h = eqb-true (f k) 0 (and_right (eqb (passed f k) k) (eqb (f k) 0) h)
    go false h = absurd (omega (arith, rw h at e, passed_most f k))

-- a table has a row at least
table_some : (n : ℕ) → 1 ≤ n → 1 ≤ table_bytes n
unfolding table_bytes table_rows
table_some n l = let square : 1 * 1 ≤ n * n = mul-le-mul l l in omega (arith, square)

-- where a table ends the next begins
pub begins_next : (n m : ℕ) → table_begins n (suc m) ≡ table_begins n m + table_bytes n
unfolding table_begins
begins_next n m = omega (arith, suc-mul m (table_bytes n))

pub begins_mono : (n m k : ℕ) → m ≤ k → table_begins n m ≤ table_begins n k
unfolding table_begins
begins_mono n m k l = omega (arith, mul-le-mul_right (table_bytes n) l)

module _ (bytes : List ℕ) (ok : (heading bytes).refusal ≡ 0) where
  -- neither the start nor an iteration is refused
  replies_pass : (m : ℕ) → m ≤ due bytes → (reply_after bytes m).refusal ≡ 0
  unfolding reply_after due table_of
  replies_pass m l =
      let n = (heading bytes).n in
      never_refused n (heading bytes).t (heading bytes).faulty (rows_of bytes) (table_of n bytes)
      ((heading bytes).t + 1) (le_refl _) (heading_starts bytes ok)
      (λ j k. length_build (table_rows n) (table_row (bytes_of n bytes j))) m l

  -- the bytes of a table that is due are not all there, or nothing is refused
  Short : ℕ → Type 0
  Short m = (refused_at bytes m ≡ 8) × (length bytes < table_begins (heading bytes).n (suc m))

  Whole : ℕ → Type 0
  Whole m = (refused_at bytes m ≡ 0) × (table_begins (heading bytes).n (suc m) ≤ length bytes)

  one_table : (m : ℕ) → m < due bytes → Short m ⊎ Whole m
  unfolding refused_at refused_table Short Whole
  one_table m l =
      let n = (heading bytes).n in
      let low = heading_low bytes ok in
      let high = heading_high bytes ok in
      let left = length bytes - table_begins n m in
      ⊎_elim
      (λ t.
      let short : left < table_bytes n = ltb-true left (table_bytes n) t in
      let eight = table_short n bytes m low high short in
      inl (first_refused _ _ (λ z. absurd (omega (arith, z, eight))) ∙ eight, omega (arith, short, begins_next n m)))
      (λ f.
      let whole : table_bytes n ≤ left = ltb-false left (table_bytes n) f in
      inr (
        first_passed _ _ (table_good n bytes m low high whole) ∙ replies_pass (suc m) l,
        omega (arith, whole, begins_next n m, table_some n low),
      ))
      (either (ltb left (table_bytes n)))

  -- where the last table that is due ends
  abbrev end_of : ℕ
  end_of = table_begins (heading bytes).n (due bytes)

  -- all iterations are done: the last table is whole, and only what follows it is asked
  all_done : passed (refused_at bytes) (due bytes) ≡ due bytes →
      refused_later bytes ≡ cond (eqb (length bytes) end_of) 0 8
  unfolding refused_later done_of goes_on due Short Whole
  all_done e =
      let t = (heading bytes).t in
      let last : refused_at bytes t ≡ 0 = passed_last (refused_at bytes) t (rw add-one at e) in
      let next : t + 1 ≡ suc t = add-one t in
      let whole : table_begins (heading bytes).n (t + 1) ≤ length bytes =
      rw next
      (⊎_elim (λ s. absurd (omega (arith, s.0, last))) (λ w. w.1) (one_table t (omega arith))) in
      cond_false (refused_at bytes (done_of bytes)) (cond (goes_on bytes) 8 0)
      (le-ltb (done_of bytes) (due bytes) (omega (arith, e)))
      ∙ exact whole
    where
      exact : end_of ≤ length bytes →
          ◌≡◌ {A = ℕ} (cond (goes_on bytes) 8 0) (cond (eqb (length bytes) end_of) 0 8)
      exact whole = go (ℕ_discrete (length bytes) end_of)
        where
          go : Dec (length bytes ≡ end_of) →
              ◌≡◌ {A = ℕ} (cond (goes_on bytes) 8 0) (cond (eqb (length bytes) end_of) 0 8)
          go (yes z) =
              cond_false _ _ (le-ltb end_of (length bytes) (omega arith)) ∙ sym (cond_true _ _ (eq-eqb _ _ z))
          go (no d) =
              cond_true _ _ (lt-ltb end_of (length bytes) (omega (arith, d))) ∙ sym (cond_false _ _ (ne_eqb _ _ d))

  -- one is refused: it is a table that is not whole, so that the file is too short
  one_refused : passed (refused_at bytes) (due bytes) < due bytes →
      (refused_at bytes (passed (refused_at bytes) (due bytes)) ≡ 0 → ⊥) →
      refused_later bytes ≡ cond (eqb (length bytes) end_of) 0 8
  unfolding refused_later done_of Short Whole
  one_refused l h =
      let m = passed (refused_at bytes) (due bytes) in
      ⊎_elim
      (λ s.
      let far = begins_mono (heading bytes).n (suc m) (due bytes) (omega (arith, l)) in
      let less : length bytes < end_of = omega (arith, s.1, far) in
      let other = ne_eqb (length bytes) end_of (λ z. omega (arith, z, less)) in
      cond_true _ _ (lt-ltb m (due bytes) l) ∙ s.0 ∙ sym (cond_false _ _ other))
      (λ w. absurd (h w.0))
      (one_table m l)

  ending : Ends (refused_at bytes) (due bytes) → refused_later bytes ≡ cond (eqb (length bytes) end_of) 0 8
  ending (Ends.all e) = all_done e
  ending (Ends.one l h) = one_refused l h

  good_ends : ends_with bytes ≡ cond (eqb (length bytes) (table_begins (heading bytes).n (due bytes))) 0 8
  unfolding ends_with refused_start
  good_ends =
      first_passed _ _ (first_passed _ _ ok ∙ replies_pass 0 (omega arith))
      ∙ ending (passed_ends (refused_at bytes) (due bytes))

early : (bytes : List ℕ) → ((heading bytes).refusal ≡ 0 → ⊥) → ends_with bytes ≡ (heading bytes).refusal
unfolding ends_with refused_start
early bytes d = let first = first_refused _ _ d in first_refused _ _ (λ z. d (sym first ∙ z)) ∙ first

-- how the listing of any file ends
pub ends_is : (bytes : List ℕ) →
    ends_with bytes
    ≡ or_else (heading bytes).refusal (cond (eqb (length bytes) (table_begins (heading bytes).n (due bytes))) 0 8)
ends_is bytes = go (ℕ_discrete (heading bytes).refusal 0)
  where
    go : Dec ((heading bytes).refusal ≡ 0) →
        ends_with bytes
        ≡ or_else (heading bytes).refusal
        (cond (eqb (length bytes) (table_begins (heading bytes).n (due bytes))) 0 8)
    go (yes e) = good_ends bytes e ∙ sym (first_passed _ _ e)
    go (no d) = early bytes d ∙ sym (first_refused _ _ d)

-- so a file is taken exactly where its heading is good and its length exact
pub taken_exact : (bytes : List ℕ) → ends_with bytes ≡ 0 →
    ((heading bytes).refusal ≡ 0) × (length bytes ≡ table_begins (heading bytes).n (due bytes))
taken_exact bytes taken = (parts.0, go (eqb (length bytes) (table_begins (heading bytes).n (due bytes))) refl)
  where
    parts : ((heading bytes).refusal ≡ 0)
        × (◌≡◌ {A = ℕ} (cond (eqb (length bytes) (table_begins (heading bytes).n (due bytes))) 0 8) 0)
    parts = none_refused _ _ (sym (ends_is bytes) ∙ taken)

    go : (b : Bool) → eqb (length bytes) (table_begins (heading bytes).n (due bytes)) ≡ b →
        length bytes ≡ table_begins (heading bytes).n (due bytes)
    go true e = eqb-true _ _ e
    go false e = let eight : ◌≡◌ {A = ℕ} 8 0 = rw e at parts.1 in absurd (omega arith)

pub exact_taken : (bytes : List ℕ) → (heading bytes).refusal ≡ 0 →
    length bytes ≡ table_begins (heading bytes).n (due bytes) → ends_with bytes ≡ 0
exact_taken bytes ok exact = ends_is bytes ∙ first_passed _ _ ok ∙ cond_true 0 8 (eq-eqb _ _ exact)

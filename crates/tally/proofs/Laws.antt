-- Vote, grade and choice as their callers use them. The vote: what is carried stands n − t times, which is more than
-- half of the places, so no second row is carried and the search can give no other. The grade: each confidence is one
-- range of the support, and a row with support is not 0. The choice: it is the number found most often among the rows
-- that count, so the laws of that number hold of it. Assumes nothing.
use mathlib.Core.Path.{◌≡◌, refl, sym, ap, ◌∙◌, subst}
use mathlib.Core.Bool.{Bool, true, false, cond, not}
use mathlib.Core.List.{List}
use mathlib.Core.Logic.{◌⊎◌, ⊎_elim, ◌↔◌}
use mathlib.Core.Logic.◌⊎◌.{inl, inr}
use Prim.Native.Nat.{ℕ, zero, suc, ◌+◌, ◌-◌, ◌*◌, ◌≤◌, ◌<◌}
use native.Mathlib.Decide.{ℕ_discrete}
use native.Mathlib.Omega.{arith}
use lib.Dec.{eqb, leb, ltb}
use lib.ListN.{length, get_or}
use borrow.Author.Tests.{eqb-true, eqb-false, eq-eqb, ne_eqb, leb-true, leb-false, ltb-true, ltb-false}
use Rattle.counting.specs.Count.{any, find}
use Rattle.counting.specs.Most.{places, support, most}
use Rattle.counting.proofs.Bools.{never, and_left, and_right, not_true, cond_true, cond_false}
use Rattle.counting.proofs.Build.{length_build, get_or_build, built}
use Rattle.counting.proofs.Count.{any_none, find_cases, count_le}
use Rattle.counting.proofs.Most.{Stands, IsMost, support_places, support_first, supported, most_is, most_unique}
use Rattle.counting.proofs.Most.{support_zero, most_supported, most_stands, most_zero}
use Rattle.counting.proofs.Places.{places_one, most_majority}
use Rattle.tally.specs.Tally.{
  carried,
  vote_of,
  support_of,
  confidence_at,
  confidence_of,
  graded_row,
  counted,
  chosen_row,
}
use Rattle.tally.specs.Support.{Fits}
use Rattle.tally.proofs.Carried.{carried_enough}

-- v is a non-zero row that stands at least n − t times
pub record StandsEnough (t : ℕ) (xs : List ℕ) (v : ℕ) : Type 0 where
  pub not_zero : v ≡ 0 → ⊥
  pub enough : length xs - t ≤ places xs v

module _ (t : ℕ) (xs : List ℕ) where
  pub carried_stands : (v : ℕ) → carried t xs v ≡ true → StandsEnough t xs v
  unfolding carried
  carried_stands v h =
      record {
        not_zero = eqb-false v 0 (not_true (eqb v 0) (and_left (not (eqb v 0)) (leb (length xs - t) (places xs v)) h));
        enough =
            leb-true (length xs - t) (places xs v) (and_right (not (eqb v 0)) (leb (length xs - t) (places xs v)) h);
      }

  pub stands_carried : (v : ℕ) → StandsEnough t xs v → carried t xs v ≡ true
  stands_carried v c = carried_enough t xs v c.not_zero c.enough

  -- no two rows are carried
  pub carried_one : 3 * t < length xs → (v w : ℕ) → StandsEnough t xs v → StandsEnough t xs w → v ≡ w
  carried_one h v w c d = places_one xs v w (omega (arith, c.enough, d.enough))

  -- the vote is a carried row that stands in the column, or 0 where no row of the column is carried
  vote_cases : (StandsEnough t xs (vote_of t xs)) ⊎
      ((vote_of t xs ≡ 0) × ((k : ℕ) → k < length xs → carried t xs (get_or xs k 0) ≡ false))
  unfolding vote_of
  vote_cases =
      ⊎_elim
      (λ f. inl (carried_stands (find (length xs) (carried t xs) (λ k. get_or xs k 0)) f.passes))
      (λ n. inr n)
      (find_cases (length xs) (carried t xs) (λ k. get_or xs k 0))

  -- a vote that is not 0 is carried
  pub vote_carried : (vote_of t xs ≡ 0 → ⊥) → StandsEnough t xs (vote_of t xs)
  vote_carried z = ⊎_elim (λ c. c) (λ n. absurd (z n.0)) vote_cases

  -- where no row is carried the vote is 0
  pub vote_none : ((v : ℕ) → StandsEnough t xs v → ⊥) → vote_of t xs ≡ 0
  vote_none h = ⊎_elim (λ c. absurd (h (vote_of t xs) c)) (λ n. n.0) vote_cases

  -- where none of the first t + 1 rows is carried the vote is 0: a carried row is missing from at most t places
  pub vote_nowhere : 3 * t < length xs → any (t + 1) (λ k. carried t xs (get_or xs k 0)) ≡ false → vote_of t xs ≡ 0
  vote_nowhere h none = ⊎_elim (λ c. first c) (λ n. n.0) vote_cases
    where
      first : StandsEnough t xs (vote_of t xs) → vote_of t xs ≡ 0
      first c =
          let same = support_places xs (vote_of t xs) c.not_zero in
          let s = support_first xs (t + 1) (vote_of t xs) (omega arith) (omega (arith, same, c.enough)) in
          never (ap (carried t xs) s.here ∙ stands_carried (vote_of t xs) c)
          (any_none (t + 1) _ none s.at s.below)

  -- a carried row is the vote
  pub vote_is : 3 * t < length xs → (v : ℕ) → StandsEnough t xs v → vote_of t xs ≡ v
  vote_is h v c =
      ⊎_elim
      (λ d. carried_one h (vote_of t xs) v d c)
      (λ n. never (subst (λ (w : ℕ). carried t xs w ≡ true) (sym stands.here) (stands_carried v c))
      (n.1 stands.at stands.below))
      vote_cases
    where
      stands : Stands xs v
      stands = (supported xs v (omega (arith, support_places xs v c.not_zero, c.enough))).1

-- no row but 0 has more places than the support
pub places_support : (xs : List ℕ) (v : ℕ) → (v ≡ 0 → ⊥) → places xs v ≤ support_of xs
unfolding support_of
places_support xs v z = subst (λ (m : ℕ). m ≤ support xs (most xs)) (support_places xs v z) ((most_is xs).greatest v)

-- the support is at most the number of rows
pub support_le : (xs : List ℕ) → support_of xs ≤ length xs
unfolding support_of support places
support_le xs = at_most (eqb (most xs) 0)
  where
    at_most : (zero-most : Bool) → cond zero-most 0 (places xs (most xs)) ≤ length xs
    at_most true = omega arith
    at_most false = count_le (length xs) (λ k. eqb (get_or xs k 0) (most xs))

-- there is none where every row is 0, and only there
pub support_none : (xs : List ℕ) → (support_of xs ≡ 0) ↔ ((k : ℕ) → k < length xs → get_or xs k 0 ≡ 0)
unfolding support_of
support_none xs = (only, there)
  where
    only : support xs (most xs) ≡ 0 → (k : ℕ) → k < length xs → get_or xs k 0 ≡ 0
    only e = most_zero xs (go (ℕ_discrete (most xs) 0))
      where
        go : Dec (most xs ≡ 0) → most xs ≡ 0
        go (yes z) = z
        go (no z) = absurd (omega (arith, e, most_supported xs z))

    there : ((k : ℕ) → k < length xs → get_or xs k 0 ≡ 0) → support xs (most xs) ≡ 0
    there h = go (ℕ_discrete (most xs) 0)
      where
        go : Dec (most xs ≡ 0) → support xs (most xs) ≡ 0
        go (yes z) = ap (support xs) z ∙ support_zero xs
        go (no z) = let s = most_stands xs z in absurd (z (sym s.here ∙ h s.at s.below))

-- each confidence is one range of the support
pub fits : (t s : ℕ) → Fits t s (confidence_at t s)
unfolding confidence_at
fits t s = go (leb (2 * t + 1) s) (ltb t s) refl refl
  where
    go : (a b : Bool) → leb (2 * t + 1) s ≡ a → ltb t s ≡ b → Fits t s (cond a 2 (cond b 1 0))
    go true b e f =
        let h = leb-true (2 * t + 1) s e in
        record {
          none = (λ q. absurd (omega arith), λ q. absurd (omega (arith, h)));
          one = (λ q. absurd (omega arith), λ q. absurd (omega (arith, h, q.1)));
          two = (λ q. h, λ q. refl);
        }
    go false true e f =
        let low = ltb-true t s f in
        let high = leb-false (2 * t + 1) s e in
        record {
          none = (λ q. absurd (omega arith), λ q. absurd (omega (arith, low)));
          one = (λ q. (low, high), λ q. refl);
          two = (λ q. absurd (omega arith), λ q. absurd (omega (arith, high)));
        }
    go false false e f =
        let few = ltb-false t s f in
        record {
          none = (λ q. few, λ q. refl);
          one = (λ q. absurd (omega arith), λ q. absurd (omega (arith, few, q.0)));
          two = (λ q. absurd (omega arith), λ q. absurd (omega (arith, few)));
        }

-- no confidence is above 2
confidence_at_le : (t s : ℕ) → confidence_at t s ≤ 2
unfolding confidence_at
confidence_at_le t s = go (leb (2 * t + 1) s) (ltb t s)
  where
    go : (a b : Bool) → cond a 2 (cond b 1 0) ≤ 2
    go true b = omega arith
    go false true = omega arith
    go false false = omega arith

module _ (t : ℕ) (xs : List ℕ) where
  -- the confidence by the support
  pub confidence_fits : Fits t (support_of xs) (confidence_of t xs)
  unfolding confidence_of
  confidence_fits = fits t (support_of xs)

  pub confidence_le : confidence_of t xs ≤ 2
  unfolding confidence_of
  confidence_le = confidence_at_le t (support_of xs)

  -- confidence 0 comes with row 0
  pub graded_none : confidence_of t xs ≡ 0 → graded_row t xs ≡ 0
  unfolding graded_row
  graded_none e = cond_true 0 (most xs) (eq-eqb (confidence_of t xs) 0 e)

  -- confidence 1 and 2 come with the row found most often
  pub graded_most : (confidence_of t xs ≡ 0 → ⊥) → graded_row t xs ≡ most xs
  unfolding graded_row
  graded_most z = cond_false 0 (most xs) (ne_eqb (confidence_of t xs) 0 z)

  -- a leader that counts has a row that is not 0, and the support is that row's places
  pub graded_counts : (confidence_of t xs ≡ 0 → ⊥) →
      (graded_row t xs ≡ 0 → ⊥) × (places xs (graded_row t xs) ≡ support_of xs)
  unfolding support_of
  graded_counts z = rw (graded_most z) (not_zero, sym (support_places xs (most xs) not_zero))
    where
      more : (s : ℕ) → support xs (most xs) ≡ s → 0 < support xs (most xs)
      more zero e = absurd (z (confidence_fits.none.1 (omega arith)))
      more (suc s) e = omega arith

      not_zero : most xs ≡ 0 → ⊥
      not_zero = (supported xs (most xs) (more (support xs (most xs)) refl)).0

  -- a row in more than half of the places, and in 2t + 1 of them, is graded with confidence 2
  pub graded_firm : (v : ℕ) → (v ≡ 0 → ⊥) → length xs < 2 * places xs v → 2 * t + 1 ≤ places xs v →
      (confidence_of t xs ≡ 2) × (graded_row t xs ≡ v)
  graded_firm v z half enough = (two, graded_most (λ e. absurd (omega (arith, two))) ∙ most_majority xs v z half)
    where
      two : confidence_of t xs ≡ 2
      two = confidence_fits.two.1 (omega (arith, places_support xs v z))

-- confidence 1 never arises where t is 0
pub never_1 : (xs : List ℕ) → confidence_of 0 xs ≡ 1 → ⊥
never_1 xs e = let h = (confidence_fits 0 xs).one.0 e in absurd (omega (arith, h.0, h.1))

-- a row that counts: the leader at this place has it, with confidence 1 or 2
pub record Held (rows confidences : List ℕ) (v : ℕ) : Type 0 where
  pub at : ℕ
  pub below : at < length rows
  pub here : get_or rows at 0 ≡ v
  pub counts : get_or confidences at 0 ≡ 0 → ⊥

-- what counts at place k
abbrev pub counted_at : ℕ → ℕ → ℕ
counted_at row confidence = cond (eqb confidence 0) 0 row

module _ (rows confidences : List ℕ) where
  pub length_counted : length (counted rows confidences) ≡ length rows
  unfolding counted
  length_counted = length_build (length rows) (λ k. counted_at (get_or rows k 0) (get_or confidences k 0))

  pub counted_at_lem : (k : ℕ) → k < length rows →
      get_or (counted rows confidences) k 0 ≡ counted_at (get_or rows k 0) (get_or confidences k 0)
  unfolding counted
  counted_at_lem k l = get_or_build (length rows) (λ k. counted_at (get_or rows k 0) (get_or confidences k 0)) k 0 l

  -- the chosen row has the most leaders with confidence 1 or 2, and is the lowest of those
  pub chosen_most : IsMost (counted rows confidences) (chosen_row rows confidences)
  unfolding chosen_row
  chosen_most = most_is (counted rows confidences)

  -- no other row is so
  pub chosen_unique : (v : ℕ) → IsMost (counted rows confidences) v → (v ≡ 0 → ⊥) →
      0 < support (counted rows confidences) v →
      v ≡ chosen_row rows confidences
  unfolding chosen_row
  chosen_unique = most_unique (counted rows confidences)

  -- a chosen row is a leader's, whole, and that leader has confidence 1 or 2
  pub chosen_held : (chosen_row rows confidences ≡ 0 → ⊥) → Held rows confidences (chosen_row rows confidences)
  unfolding chosen_row
  chosen_held z = go (eqb (get_or confidences s.at 0) 0) refl
    where
      s : Stands (counted rows confidences) (most (counted rows confidences))
      s = most_stands (counted rows confidences) z

      below : s.at < length rows
      below = omega (arith, s.below, length_counted)

      go : (b : Bool) → eqb (get_or confidences s.at 0) 0 ≡ b →
          Held rows confidences (most (counted rows confidences))
      go true e = absurd (z (sym s.here ∙ counted_at_lem s.at below ∙ rw e refl))
      go false e =
          record {
            at = s.at;
            below = below;
            here = sym (rw e at (counted_at_lem s.at below)) ∙ s.here;
            counts = eqb-false (get_or confidences s.at 0) 0 e;
          }

  -- nothing is chosen only where every row that counts is 0
  pub chosen_none : chosen_row rows confidences ≡ 0 → (k : ℕ) → k < length rows → (get_or confidences k 0 ≡ 0 → ⊥) →
      get_or rows k 0 ≡ 0
  unfolding chosen_row
  chosen_none e k l c =
      sym (counted_at_lem k l ∙ cond_false 0 (get_or rows k 0) (ne_eqb (get_or confidences k 0) 0 c))
      ∙ most_zero (counted rows confidences) e k (omega (arith, length_counted))

  -- where confidence 0 comes with row 0, as in a grade, every row counts as it stands
  pub chosen_all : ((k : ℕ) → k < length rows → get_or confidences k 0 ≡ 0 → get_or rows k 0 ≡ 0) →
      chosen_row rows confidences ≡ most rows
  unfolding chosen_row counted
  chosen_all h =
      ap most
      (sym
      (built (length rows) (λ k. counted_at (get_or rows k 0) (get_or confidences k 0)) rows refl
      (λ k l. go k (eqb (get_or confidences k 0) 0) refl (h k l))))
    where
      go : (k : ℕ) (b : Bool) → eqb (get_or confidences k 0) 0 ≡ b →
          (get_or confidences k 0 ≡ 0 → get_or rows k 0 ≡ 0) →
          get_or rows k 0 ≡ cond b 0 (get_or rows k 0)
      go k true e f = f (eqb-true (get_or confidences k 0) 0 e)
      go k false e f = refl

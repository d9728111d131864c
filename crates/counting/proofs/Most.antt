-- The number found most often: it has the greatest support, it is the lowest of those, it stands in the list, and it
-- is 0 only where every element is 0. No second number has these properties. Assumes nothing.
use mathlib.Core.Path.{◌≡◌, refl, sym, ap, ◌∙◌, subst}
use mathlib.Core.Bool.{Bool, true, false, cond, ◌&&◌}
use mathlib.Core.List.{List}
use mathlib.Core.Logic.{◌⊎◌, ⊎_elim}
use mathlib.Core.Logic.◌⊎◌.{inl, inr}
use Prim.Native.Nat.{ℕ, zero, suc, ◌+◌, ◌-◌, ◌≤◌, ◌<◌}
use native.Mathlib.Nat.{le_refl, le_trans, not-suc-le-zero, le_antisymm}
use native.Mathlib.Decide.{ℕ_discrete}
use native.Mathlib.Numerals.{add-one}
use native.Mathlib.Omega.{arith}
use lib.Dec.{eqb, ltb}
use lib.ListN.{length, get_or}
use borrow.Author.Tests.{ltb-true, ltb-false, eqb-true, eq-eqb, ne_eqb, lt-ltb, le-ltb}
use Rattle.counting.specs.Most.{places, support, before, best, most}
use Rattle.counting.proofs.Bools.{
  either,
  never,
  or_cases,
  or_false_left,
  or_false_right,
  and_left,
  and_right,
  and_false_right,
  both,
  not_both,
  or_none,
  or_true_left,
  cond_false,
}
use Rattle.counting.proofs.Count.{Some, count_some, some_count_lem, count_first, at_or_below}

-- 0 has no support, and any other number its places
pub support_zero : (xs : List ℕ) → support xs 0 ≡ 0
unfolding support
support_zero xs = refl

pub support_places : (xs : List ℕ) (v : ℕ) → (v ≡ 0 → ⊥) → support xs v ≡ places xs v
unfolding support
support_places xs v h = cond_false 0 (places xs v) (ne_eqb v 0 h)

-- a number with support is not 0 and stands somewhere
pub record Stands (xs : List ℕ) (v : ℕ) : Type 0 where
  pub at : ℕ
  pub below : at < length xs
  pub here : get_or xs at 0 ≡ v

pub supported : (xs : List ℕ) (v : ℕ) → 0 < support xs v → (v ≡ 0 → ⊥) × Stands xs v
unfolding support places
supported xs v h = (not_zero, stands)
  where
    not_zero : v ≡ 0 → ⊥
    not_zero e = not-suc-le-zero (subst (λ (m : ℕ). 0 < m) (ap (support xs) e) h)

    some : Some (length xs) (λ k. eqb (get_or xs k 0) v)
    some =
        count_some (length xs) (λ k. eqb (get_or xs k 0) v) (subst (λ (m : ℕ). 0 < m) (support_places xs v not_zero) h)

    stands : Stands xs v
    stands = record { at = some.at; below = some.below; here = eqb-true (get_or xs some.at 0) v some.passes }

-- a non-zero element has support
pub element_supported : (xs : List ℕ) (k : ℕ) → k < length xs → (get_or xs k 0 ≡ 0 → ⊥) →
    0 < support xs (get_or xs k 0)
unfolding places
element_supported xs k l h =
    subst (λ (m : ℕ). 0 < m) (sym (support_places xs (get_or xs k 0) h))
    (some_count_lem (length xs) (λ j. eqb (get_or xs j 0) (get_or xs k 0)) k l
    (eq-eqb (get_or xs k 0) (get_or xs k 0) refl))

-- a is not beaten by b: no more support, and not lower where the support is the same
record Holds (xs : List ℕ) (a b : ℕ) : Type 0 where
  greatest : support xs b ≤ support xs a
  lowest : support xs a ≡ support xs b → a ≤ b

holds : (xs : List ℕ) (a b : ℕ) → before xs a b ≡ false → Holds xs a b
unfolding before
holds xs a b h =
    record {
      greatest = ltb-false (support xs a) (support xs b) (or_false_left (ltb (support xs a) (support xs b)) _ h);
      lowest = λ e. low e;
    }
  where
    low : support xs a ≡ support xs b → a ≤ b
    low e =
        ltb-false b a
        (⊎_elim
        (λ t.
        never (both {b = ltb b a} (eq-eqb (support xs a) (support xs b) e) t)
        (or_false_right (ltb (support xs a) (support xs b)) (eqb (support xs a) (support xs b) && ltb b a) h))
        (λ f. f)
        (either (ltb b a)))

-- what a does not lose to, b does not lose to either where b beats a
chain : (xs : List ℕ) (a b c : ℕ) → before xs a b ≡ true → Holds xs a c → Holds xs b c
unfolding before
chain xs a b c h w =
    ⊎_elim
    (λ l.
    let g = ltb-true (support xs a) (support xs b) l in
    record { greatest = omega (arith, w.greatest); lowest = λ e. absurd (omega (arith, w.greatest)) })
    (λ l.
    let e = eqb-true (support xs a) (support xs b) (and_left (eqb (support xs a) (support xs b)) (ltb b a) l) in
    let s = ltb-true b a (and_right (eqb (support xs a) (support xs b)) (ltb b a) l) in
    record { greatest = omega (arith, w.greatest); lowest = λ q. le_trans (omega arith) (w.lowest (e ∙ q)) })
    (or_cases (ltb (support xs a) (support xs b)) (eqb (support xs a) (support xs b) && ltb b a) h)

beats : (xs : List ℕ) (a b : ℕ) → before xs a b ≡ true → Holds xs b b
beats xs a b h = record { greatest = le_refl _; lowest = λ e. le_refl _ }

-- the best of the first k is not beaten by any of them
best_holds : (xs : List ℕ) (k j : ℕ) → j < k → Holds xs (best xs k) (get_or xs j 0)
unfolding best
best_holds xs zero j l = absurd (not-suc-le-zero l)
best_holds xs (suc k) j l =
    go (before xs (best xs k) (get_or xs k 0)) refl (at_or_below j k l) (λ b. best_holds xs k j b)
  where
    go : (b : Bool) → before xs (best xs k) (get_or xs k 0) ≡ b → (j ≡ k) ⊎ (j < k) →
        (j < k → Holds xs (best xs k) (get_or xs j 0)) →
        Holds xs (cond b (get_or xs k 0) (best xs k)) (get_or xs j 0)
    go true e (inl q) rest = rw q (beats xs (best xs k) (get_or xs k 0) e)
    go true e (inr b) rest = chain xs (best xs k) (get_or xs k 0) (get_or xs j 0) e (rest b)
    go false e (inl q) rest = rw q (holds xs (best xs k) (get_or xs k 0) e)
    go false e (inr b) rest = rest b

-- the best of the first k is 0 or one of them
best_in : (xs : List ℕ) (k : ℕ) →
    (best xs k ≡ 0) ⊎ (record { at : ℕ; below : at < k; here : get_or xs at 0 ≡ best xs k })
unfolding best
best_in xs zero = inl refl
best_in xs (suc k) = go (before xs (best xs k) (get_or xs k 0)) refl (best_in xs k)
  where
    go : (b : Bool) → before xs (best xs k) (get_or xs k 0) ≡ b →
        (best xs k ≡ 0) ⊎ (record { at : ℕ; below : at < k; here : get_or xs at 0 ≡ best xs k }) →
        (cond b (get_or xs k 0) (best xs k) ≡ 0) ⊎
        (record { at : ℕ; below : at < suc k; here : get_or xs at 0 ≡ cond b (get_or xs k 0) (best xs k) })
    go true e w = inr (record { at = k; below = le_refl _; here = refl })
    go false e (inl z) = inl z
    go false e (inr w) = inr (record { at = w.at; below = omega arith; here = w.here })

-- what the most frequent number of xs is: w has the greatest support, and no other number with as much is lower;
-- where w is 0, nothing has support
pub record IsMost (xs : List ℕ) (w : ℕ) : Type 0 where
  pub greatest : (v : ℕ) → support xs v ≤ support xs w
  pub lowest : (v : ℕ) → (v ≡ 0 → ⊥) → support xs v ≡ support xs w → w ≤ v

-- where the most frequent number is not 0 it has support
pub most_supported : (xs : List ℕ) → (most xs ≡ 0 → ⊥) → 0 < support xs (most xs)
unfolding most
most_supported xs h =
    ⊎_elim
    (λ z. absurd (h z))
    (λ w.
    subst (λ (m : ℕ). 0 < support xs m) w.here
    (element_supported xs w.at w.below (λ z. h (sym w.here ∙ z))))
    (best_in xs (length xs))

supported_holds : (xs : List ℕ) (v : ℕ) → 0 < support xs v → Holds xs (most xs) v
unfolding most
supported_holds xs v h =
    let s : Stands xs v = (supported xs v h).1 in
    subst (λ (m : ℕ). Holds xs (best xs (length xs)) m) s.here (best_holds xs (length xs) s.at s.below)

pub most_is : (xs : List ℕ) → IsMost xs (most xs)
most_is xs = record { greatest = λ v. great v (support xs v) refl; lowest = λ v z e. low v e (ℕ_discrete (most xs) 0) }
  where
    great : (v s : ℕ) → support xs v ≡ s → support xs v ≤ support xs (most xs)
    great v zero e = omega arith
    great v (suc s) e = (supported_holds xs v (omega arith)).greatest

    low : (v : ℕ) → support xs v ≡ support xs (most xs) → Dec (most xs ≡ 0) → most xs ≤ v
    low v e (yes n) = omega arith
    low v e (no n) =
        let h : 0 < support xs (most xs) = most_supported xs n in
        (supported_holds xs v (omega arith)).lowest (sym e)

-- it is 0 only where every element is 0
pub most_zero : (xs : List ℕ) → most xs ≡ 0 → (k : ℕ) → k < length xs → get_or xs k 0 ≡ 0
most_zero xs e k l = go (ℕ_discrete (get_or xs k 0) 0)
  where
    go : Dec (get_or xs k 0 ≡ 0) → get_or xs k 0 ≡ 0
    go (yes z) = z
    go (no z) =
        absurd
        (omega (
          arith,
          element_supported xs k l z,
          (most_is xs).greatest (get_or xs k 0),
          ap (support xs) e,
          support_zero xs,
        ))

-- it is one of the elements, whole
pub most_stands : (xs : List ℕ) → (most xs ≡ 0 → ⊥) → Stands xs (most xs)
most_stands xs h = (supported xs (most xs) (most_supported xs h)).1

-- no second number has both properties and support
pub most_unique : (xs : List ℕ) (w : ℕ) → IsMost xs w → (w ≡ 0 → ⊥) → 0 < support xs w → w ≡ most xs
most_unique xs w m z s =
    let same : support xs w ≡ support xs (most xs) =
    le_antisymm ((most_is xs).greatest w) (m.greatest (most xs)) in
    le_antisymm
    (m.lowest (most xs) (supported xs (most xs) (omega arith)).0 (sym same))
    ((most_is xs).lowest w z same)

-- a number with more places than come behind the first k stands among those
pub support_first : (xs : List ℕ) (k v : ℕ) → k ≤ length xs → length xs - k < support xs v →
    record { at : ℕ; below : at < k; here : get_or xs at 0 ≡ v }
unfolding places
support_first xs k v l h =
    let same = support_places xs v (supported xs v (omega arith)).0 in
    let s = count_first k (length xs) (λ j. eqb (get_or xs j 0) v) l (omega (arith, same)) in
    record { at = s.at; below = s.below; here = eqb-true (get_or xs s.at 0) v s.passes }

-- the best of the first k is the best of all where fewer places are left than it has
pub best_early : (xs : List ℕ) (k : ℕ) → k ≤ length xs → length xs - k < support xs (best xs k) → best xs k ≡ most xs
best_early xs k l h =
    most_unique xs (best xs k)
    (record { greatest = λ v. (early v).greatest; lowest = λ v z e. (early v).lowest (sym e) })
    (supported xs (best xs k) (omega arith)).0
    (omega arith)
  where
    early : (v : ℕ) → Holds xs (best xs k) v
    early v =
        ⊎_elim
        (λ t.
        let g = ltb-true (support xs v) (support xs (best xs k)) t in
        record { greatest = omega arith; lowest = λ e. absurd (omega arith) })
        (λ f.
        let g = ltb-false (support xs v) (support xs (best xs k)) f in
        let s = support_first xs k v l (omega arith) in
        subst (λ (m : ℕ). Holds xs (best xs k) m) s.here (best_holds xs k s.at s.below))
        (either (ltb (support xs v) (support xs (best xs k))))

-- nothing stands before itself
pub before_self : (xs : List ℕ) (a : ℕ) → before xs a a ≡ false
unfolding before
before_self xs a =
    or_none (le-ltb (support xs a) (support xs a) (le_refl _))
    (and_false_right (eqb (support xs a) (support xs a)) (le-ltb a a (le_refl _)))

-- which of two numbers stands before the other, from their supports
module _ (xs : List ℕ) (a b : ℕ) where
  pub before_more : support xs a < support xs b → before xs a b ≡ true
  unfolding before
  before_more h = or_true_left (eqb (support xs a) (support xs b) && ltb b a) (lt-ltb (support xs a) (support xs b) h)

  pub before_fewer : support xs b < support xs a → before xs a b ≡ false
  unfolding before
  before_fewer h =
      or_none (le-ltb (support xs a) (support xs b) (omega arith))
      (not_both (ltb b a) (ne_eqb (support xs a) (support xs b) (λ e. absurd (omega arith))))

  pub before_tie : support xs a ≡ support xs b → before xs a b ≡ ltb b a
  unfolding before
  before_tie e =
      rw (le-ltb (support xs a) (support xs b) (omega arith), eq-eqb (support xs a) (support xs b) e) refl

-- the turn of a loop that keeps the best so far
pub best_turn : (xs : List ℕ) (k : ℕ) →
    best xs (k + 1) ≡ cond (before xs (best xs k) (get_or xs k 0)) (get_or xs k 0) (best xs k)
unfolding best
best_turn xs k = rw add-one refl

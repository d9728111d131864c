-- Laws of sums and counts, each stated once over the bound and the function or the test.
-- Assumes nothing.
use mathlib.Core.Path.{◌≡◌, refl, sym, ap, ap₂, ◌∙◌, subst}
use mathlib.Core.Bool.{Bool, true, false, cond, not, ◌&&◌, ◌||◌}
use mathlib.Core.Logic.{◌⊎◌, ⊎_elim}
use mathlib.Core.Logic.◌⊎◌.{inl, inr}
use Prim.Native.Nat.{ℕ, zero, suc, ◌+◌, ◌-◌, ◌*◌, ◌/◌, ◌%◌, ◌≤◌, ◌<◌}
use native.Mathlib.Nat.{
  le_refl,
  not-suc-le-zero,
  add-zero,
  mul-zero,
  mul-add,
  mul_comm,
  mul-suc,
  add-le-add,
  add-suc,
  add_assoc,
  zero-mul,
  suc-mul,
  add-mul,
}
use native.Mathlib.Decide.{ℕ_discrete}
use native.Mathlib.Numerals.{add-one}
use native.Mathlib.Omega.{arith}
use lib.Arith.{digits_div, digits_mod}
use lib.Dec.{eqb, ltb}
use borrow.Author.Tests.{eq-eqb, ne_eqb, ltb-true, ltb-false}
use Rattle.counting.specs.Count.{sum, count, any, find}
use Rattle.counting.proofs.Bools.{
  never,
  either,
  both,
  not_of_false,
  not_of_true,
  cond_true,
  cond_false,
  or_cases,
  or_false_left,
  or_false_right,
  or_none,
  same,
}

-- what holds of every k below suc n holds below n, and at n
module _ {P : ℕ → Type 0} where
  pub lower : (n : ℕ) → ((k : ℕ) → k < suc n → P k) → (k : ℕ) → k < n → P k
  lower n h k l = h k (omega arith)

-- k below suc n is n or below n
pub at_or_below : (k n : ℕ) → k < suc n → (k ≡ n) ⊎ (k < n)
at_or_below k n l = go (ℕ_discrete k n)
  where
    go : Dec (k ≡ n) → (k ≡ n) ⊎ (k < n)
    go (yes e) = inl e
    go (no d) = inr (omega (arith, d))

pub sum_ext : (n : ℕ) (f g : ℕ → ℕ) → ((k : ℕ) → k < n → f k ≡ g k) → sum n f ≡ sum n g
unfolding sum
sum_ext zero f g h = refl
sum_ext (suc n) f g h = ap₂ ◌+◌ (sum_ext n f g (lower n h)) (h n (le_refl _))

pub sum_mono : (n : ℕ) (f g : ℕ → ℕ) → ((k : ℕ) → k < n → f k ≤ g k) → sum n f ≤ sum n g
unfolding sum
sum_mono zero f g h = (le_refl _)
sum_mono (suc n) f g h = add-le-add (sum_mono n f g (lower n h)) (h n (le_refl _))

pub sum_const : (n c : ℕ) → sum n (λ k. c) ≡ n * c
unfolding sum
sum_const zero c = sym (mul_comm 0 c ∙ mul-zero c)
sum_const (suc n) c =
    ap (λ (m : ℕ). m + c) (sum_const n c ∙ mul_comm n c) ∙ sym (mul_comm (suc n) c ∙ mul-suc c n)

-- a sum of n numbers, each at most c, is at most n times c
pub sum_at_most : (n c : ℕ) (f : ℕ → ℕ) → ((k : ℕ) → k < n → f k ≤ c) → sum n f ≤ n * c
sum_at_most n c f h = subst (λ (m : ℕ). sum n f ≤ m) (sum_const n c) (sum_mono n f (λ k. c) h)

-- n places of which all but j hold c
pub sum_others : (n j c : ℕ) → j < n → sum n (λ k. cond (not (eqb k j)) c 0) ≡ (n - 1) * c
unfolding sum
sum_others zero j c l = absurd (not-suc-le-zero l)
sum_others (suc n) j c l =
    let one_less : n ≡ suc n - 1 = omega arith in
    ⊎_elim last (λ m. before m (sum_others n j c m)) (at_or_below j n l) ∙ ap (λ (q : ℕ). q * c) one_less
  where
    other : ℕ → ℕ
    other k = cond (not (eqb k j)) c 0

    holds : (k : ℕ) → (k ≡ j → ⊥) → other k ≡ c
    holds k d = cond_true c 0 (not_of_false (ne_eqb k j d))

    last : j ≡ n → sum n other + other n ≡ n * c
    last e =
        ap₂ ◌+◌ (sum_ext n other (λ k. c) (λ k m. holds k (λ d. omega (arith, d, e))) ∙ sum_const n c)
        (cond_false c 0 (not_of_true (eq-eqb n j (sym e))))
        ∙ add-zero (n * c)

    before : j < n → sum n other ≡ (n - 1) * c → sum n other + other n ≡ n * c
    before m e =
        let one_more : n - 1 + 1 ≡ n = omega arith in
        ap₂ ◌+◌ e (holds n (λ d. omega (arith, d, m)))
        ∙ omega (arith, add-mul (n - 1) 1 c)
        ∙ ap (λ (q : ℕ). q * c) one_more

pub sum_scale : (n c : ℕ) (f : ℕ → ℕ) → sum n (λ k. c * f k) ≡ c * sum n f
unfolding sum
sum_scale zero c f = sym (mul-zero c)
sum_scale (suc n) c f = ap (λ (m : ℕ). m + c * f n) (sum_scale n c f) ∙ sym (mul-add c (sum n f) (f n))

pub sum_add : (n : ℕ) (f g : ℕ → ℕ) → sum n (λ k. f k + g k) ≡ sum n f + sum n g
unfolding sum
sum_add zero f g = refl
sum_add (suc n) f g = let h = sum_add n f g in omega arith

-- a count is a sum of ones
pub count_sum : (n : ℕ) (p : ℕ → Bool) → count n p ≡ sum n (λ k. cond (p k) 1 0)
unfolding sum count
count_sum zero p = refl
count_sum (suc n) p = ap (λ (m : ℕ). m + cond (p n) 1 0) (count_sum n p)

pub count_ext : (n : ℕ) (p q : ℕ → Bool) → ((k : ℕ) → k < n → p k ≡ q k) → count n p ≡ count n q
unfolding count
count_ext zero p q h = refl
count_ext (suc n) p q h =
    ap₂ (λ (m : ℕ) (b : Bool). m + cond b 1 0) (count_ext n p q (lower n h)) (h n (le_refl _))

pub one_le : (b : Bool) → cond b 1 0 ≤ 1
one_le true = omega arith
one_le false = omega arith

-- a loop's turn puts the highest index on, and the code counts by n + 1
pub count_turn : (n : ℕ) (p : ℕ → Bool) {c r : ℕ} → c ≡ count n p → r ≡ cond (p n) 1 0 →
    c + r ≡ count (n + 1) p
unfolding count
count_turn n p h e = rw add-one (ap₂ ◌+◌ h e)

pub sum_turn : (n : ℕ) (f : ℕ → ℕ) {c r : ℕ} → c ≡ sum n f → r ≡ f n → c + r ≡ sum (n + 1) f
unfolding sum
sum_turn n f h e = rw add-one (ap₂ ◌+◌ h e)

implied : (a b : Bool) → (a ≡ true → b ≡ true) → cond a 1 0 ≤ cond b 1 0
implied true b h = rw (h refl) (le_refl _)
implied false b h = omega arith

-- a larger test counts no less
pub count_mono : (n : ℕ) (p q : ℕ → Bool) → ((k : ℕ) → k < n → p k ≡ true → q k ≡ true) →
    count n p ≤ count n q
unfolding count
count_mono zero p q h = (le_refl _)
count_mono (suc n) p q h = add-le-add (count_mono n p q (lower n h)) (implied (p n) (q n) (h n (le_refl _)))

pub count_le : (n : ℕ) (p : ℕ → Bool) → count n p ≤ n
unfolding count
count_le zero p = (le_refl _)
count_le (suc n) p = omega (arith, count_le n p, one_le (p n))

-- the counter of a loop is at most the turns made
pub count_turn_le : (n : ℕ) (p : ℕ → Bool) {c r : ℕ} → c ≡ count n p → r ≡ cond (p n) 1 0 →
    c + r ≤ n + 1
count_turn_le n p h e = omega (arith, h, e, count_le n p, one_le (p n))

inclusion : (a b : Bool) → cond a 1 0 + cond b 1 0 ≡ cond (a || b) 1 0 + cond (a && b) 1 0
inclusion true true = refl
inclusion true false = refl
inclusion false true = refl
inclusion false false = refl

-- two counts together are the count of either and the count of both
pub count_either_both : (n : ℕ) (p q : ℕ → Bool) →
    count n p + count n q ≡ count n (λ k. p k || q k) + count n (λ k. p k && q k)
unfolding count
count_either_both zero p q = refl
count_either_both (suc n) p q = let i = inclusion (p n) (q n) in let h = count_either_both n p q in omega arith

complement : (a b : Bool) → cond a 1 0 ≡ cond (a && b) 1 0 + cond (a && not b) 1 0
complement true true = refl
complement true false = refl
complement false b = refl

-- a count is parted by any second test
pub count_parted : (n : ℕ) (p q : ℕ → Bool) →
    count n p ≡ count n (λ k. p k && q k) + count n (λ k. p k && not (q k))
unfolding count
count_parted zero p q = refl
count_parted (suc n) p q = let i = complement (p n) (q n) in let h = count_parted n p q in omega arith

pub count_none : (n : ℕ) (p : ℕ → Bool) → ((k : ℕ) → k < n → p k ≡ false) → count n p ≡ 0
unfolding count
count_none zero p h = refl
count_none (suc n) p h = rw (h n (le_refl _)) (omega (arith, count_none n p (lower n h)))

pub count_all : (n : ℕ) (p : ℕ → Bool) → ((k : ℕ) → k < n → p k ≡ true) → count n p ≡ n
unfolding count
count_all zero p h = refl
count_all (suc n) p h = rw (h n (le_refl _)) (omega (arith, count_all n p (lower n h)))

pub count_zero : (n : ℕ) (p : ℕ → Bool) → count n p ≡ 0 → (k : ℕ) → k < n → p k ≡ false
unfolding count
count_zero zero p e k l = absurd (not-suc-le-zero l)
count_zero (suc n) p e k l =
    ⊎_elim (λ q. ap p q ∙ none (p n) (omega (arith, e))) (λ b. count_zero n p (omega (arith, e)) k b)
    (at_or_below k n l)
  where
    none : (b : Bool) → ◌≡◌ {A = ℕ} (cond b 1 0) 0 → b ≡ false
    none true z = absurd (omega arith)
    none false z = refl

-- a place below n that passes q and not p
pub record Between (n : ℕ) (p q : ℕ → Bool) : Type 0 where
  pub at : ℕ
  pub below : at < n
  pub passes : q at ≡ true
  pub fails : p at ≡ false

widen : (n : ℕ) (p q : ℕ → Bool) → Between n p q → Between (suc n) p q
widen n p q b = record { at = b.at; below = omega arith; passes = b.passes; fails = b.fails }

-- where q counts more than p, there is such a place
pub count_more : (n : ℕ) (p q : ℕ → Bool) → count n p < count n q → Between n p q
unfolding count
count_more zero p q h = absurd (not-suc-le-zero h)
count_more (suc n) p q h = go (p n) (q n) refl refl (λ l. widen n p q (count_more n p q l))
  where
    go : (a b : Bool) → p n ≡ a → q n ≡ b → (count n p < count n q → Between (suc n) p q) →
        Between (suc n) p q
    go false true e f rest = record { at = n; below = le_refl _; passes = f; fails = e }
    go true true e f rest = rest (omega (arith, rw (e, f) at h))
    go true false e f rest = rest (omega (arith, rw (e, f) at h))
    go false false e f rest = rest (omega (arith, rw (e, f) at h))

-- where the test counts at all, some place passes it
pub record Some (n : ℕ) (p : ℕ → Bool) : Type 0 where
  pub at : ℕ
  pub below : at < n
  pub passes : p at ≡ true

pub count_some : (n : ℕ) (p : ℕ → Bool) → 0 < count n p → Some n p
count_some n p h =
    let b : Between n (λ k. false) p = count_more n (λ k. false) p
    (omega (arith, count_none n (λ k. false) (λ k l. refl))) in
    record { at = b.at; below = b.below; passes = b.passes }

-- a place that passes the test is counted
pub some_count_lem : (n : ℕ) (p : ℕ → Bool) (k : ℕ) → k < n → p k ≡ true → 0 < count n p
some_count_lem n p k l t = go (count n p) refl
  where
    go : (c : ℕ) → count n p ≡ c → 0 < count n p
    go (suc c) e = omega arith
    go zero e = never t (count_zero n p e k l)

-- a larger test that passes a place more counts more
pub count_strict : (n : ℕ) (p q : ℕ → Bool) → ((k : ℕ) → k < n → p k ≡ true → q k ≡ true) →
    (k : ℕ) → k < n →
    p k ≡ false → q k ≡ true → count n p < count n q
count_strict n p q h k l fails passes =
    omega (
      arith,
      count_parted n q p,
      count_mono n p (λ j. q j && p j) (λ j b e. both (h j b e) e),
      some_count_lem n (λ j. q j && not (p j)) k l (both passes (not_of_false fails)),
    )

-- two counts that together pass everything and a third test meet in a place outside that test
pub count_meet : (n : ℕ) (p q f : ℕ → Bool) → n + count n f < count n p + count n q →
    Between n f (λ k. p k && q k)
count_meet n p q f h =
    count_more n f (λ k. p k && q k)
    (omega (arith, count_either_both n p q, count_le n (λ k. p k || q k)))

-- `any` holds where some place passes the test, and only there
pub any_some : (n : ℕ) (p : ℕ → Bool) → any n p ≡ true → Some n p
unfolding any
any_some zero p h = never h refl
any_some (suc n) p h =
    ⊎_elim
    (λ l. let s = any_some n p l in record { at = s.at; below = omega arith; passes = s.passes })
    (λ l. record { at = n; below = le_refl _; passes = l })
    (or_cases (any n p) (p n) h)

pub any_none : (n : ℕ) (p : ℕ → Bool) → any n p ≡ false → (k : ℕ) → k < n → p k ≡ false
unfolding any
any_none zero p h k l = absurd (not-suc-le-zero l)
any_none (suc n) p h k l =
    ⊎_elim
    (λ e. ap p e ∙ or_false_right (any n p) (p n) h)
    (λ b. any_none n p (or_false_left (any n p) (p n) h) k b)
    (at_or_below k n l)

pub some_any : (n : ℕ) (p : ℕ → Bool) (k : ℕ) → k < n → p k ≡ true → any n p ≡ true
some_any n p k l t = ⊎_elim (λ h. h) (λ h. never t (any_none n p h k l)) (either (any n p))

pub none_any : (n : ℕ) (p : ℕ → Bool) → ((k : ℕ) → k < n → p k ≡ false) → any n p ≡ false
unfolding any
none_any zero p h = refl
none_any (suc n) p h = or_none (none_any n p (lower n h)) (h n (le_refl _))

-- `find` gives an element that passes the test, or 0 where none does
pub record Found (n : ℕ) (p : ℕ → Bool) (f : ℕ → ℕ) (v : ℕ) : Type 0 where
  pub at : ℕ
  pub below : at < n
  pub here : f at ≡ v
  pub passes : p v ≡ true

pub find_cases : (n : ℕ) (p : ℕ → Bool) (f : ℕ → ℕ) →
    Found n p f (find n p f) ⊎ ((find n p f ≡ 0) × ((k : ℕ) → k < n → p (f k) ≡ false))
unfolding find
find_cases zero p f = inr (refl, λ k l. absurd (not-suc-le-zero l))
find_cases (suc n) p f = go (p (f n)) refl (find_cases n p f)
  where
    go : (b : Bool) → p (f n) ≡ b →
        Found n p f (find n p f) ⊎ ((find n p f ≡ 0) × ((k : ℕ) → k < n → p (f k) ≡ false)) →
        Found (suc n) p f (find (suc n) p f) ⊎
        ((find (suc n) p f ≡ 0) × ((k : ℕ) → k < suc n → p (f k) ≡ false))
    go true e rest = inl (rw e (record { at = n; below = le_refl _; here = refl; passes = e }))
    go false e (inl w) =
        inl (rw e (record { at = w.at; below = omega arith; here = w.here; passes = w.passes }))
    go false e (inr w) =
        inr
        (rw e w.0, λ k l. ⊎_elim (λ q. ap (λ (m : ℕ). p (f m)) q ∙ e) (λ b. w.1 k b) (at_or_below k n l))

-- the turn of a loop that looks for a place, and has found none so far
pub any_ext : (n : ℕ) (p q : ℕ → Bool) → ((k : ℕ) → k < n → p k ≡ q k) → any n p ≡ any n q
unfolding any
any_ext zero p q h = refl
any_ext (suc n) p q h = ap₂ ◌||◌ (any_ext n p q (lower n h)) (h n (le_refl _))

pub any_turn : (n : ℕ) (p : ℕ → Bool) → any n p ≡ false → p n ≡ false → any (n + 1) p ≡ false
unfolding any
any_turn n p h e = rw add-one (or_none h e)

-- a count over a longer bound goes on where the shorter one ended
pub count_add : (a b : ℕ) (p : ℕ → Bool) → count (a + b) p ≡ count a p + count b (λ k. p (a + k))
unfolding count
count_add a zero p = rw add-zero (sym (add-zero (count a p)))
count_add a (suc b) p =
    rw add-suc (ap (λ (m : ℕ). m + cond (p (a + b)) 1 0) (count_add a b p) ∙ add_assoc (count a p) _ _)

-- places that do not pass add nothing
module _ {n : ℕ} (m : ℕ) (p : ℕ → Bool) (l : n ≤ m) (none : (k : ℕ) → n ≤ k → k < m → p k ≡ false) where
  pub count_wide : count n p ≡ count m p
  count_wide =
      let rest = count_none (m - n) (λ k. p (n + k)) (λ k h. none (n + k) (omega arith) (omega (arith, l, h))) in
      let all : n + (m - n) ≡ m = omega (arith, l) in
      omega (arith, count_add n (m - n) p, rest, ap (λ (q : ℕ). count q p) all)

  pub any_wide : any n p ≡ any m p
  any_wide = same (any n p) (any m p) more fewer
    where
      more : any n p ≡ true → any m p ≡ true
      more h = let w = any_some n p h in some_any m p w.at (omega (arith, l, w.below)) w.passes

      fewer : any m p ≡ true → any n p ≡ true
      fewer h =
          let w = any_some m p h in
          ⊎_elim
          (λ t. some_any n p w.at (ltb-true w.at n t) w.passes)
          (λ f. never w.passes (none w.at (ltb-false w.at n f) w.below))
          (either (ltb w.at n))

-- a test that passes in more places than come behind the first a passes in one of those
pub count_first : (a n : ℕ) (p : ℕ → Bool) → a ≤ n → n - a < count n p → Some a p
count_first a n p l h = count_some a p (omega (arith, parts, count_le (n - a) (λ k. p (a + k))))
  where
    whole : n ≡ a + (n - a)
    whole = omega arith

    parts : count n p ≡ count a p + count (n - a) (λ k. p (a + k))
    parts = ap (λ (m : ℕ). count m p) whole ∙ count_add a (n - a) p

-- a count over m rows of n places is the sum of the rows' counts
pub count_rows : (m n : ℕ) (p : ℕ → ℕ → Bool) →
    count (m * n) (λ q. p (q / n) (q % n)) ≡ sum m (λ i. count n (p i))
unfolding sum
count_rows zero n p = rw zero-mul (unfold count in refl)
count_rows (suc m) n p =
    rw suc-mul
    (count_add (m * n) n (λ q. p (q / n) (q % n))
    ∙ ap₂ ◌+◌ (count_rows m n p)
    (count_ext n (λ k. p ((m * n + k) / n) ((m * n + k) % n)) (p m)
    (λ k l. ap₂ p (digits_div m l) (digits_mod m l))))

-- What the tests for refusals 4, 5 and 6 say, and the rule of a table by n: one computed test, and the law that turns
-- it into the formula at every n. Assumes nothing.
use mathlib.Core.Path.{◌≡◌, refl, sym, ap, ◌∙◌, subst}
use mathlib.Core.Bool.{Bool, true, false, not, ◌&&◌}
use mathlib.Core.List.{List, [], ◌∷◌}
use Prim.Native.Nat.{ℕ, ◌+◌, ◌-◌, ◌*◌, ◌/◌, ◌^◌, ◌≤◌, ◌<◌}
use mathlib.Core.Logic.{⊎_elim}
use native.Mathlib.Nat.{div-eq_of_lt, div-lt_iff_lt-mul, lt_of_lt_of_le, mul-le-mul, not-le_of_lt, one-mul}
use native.Mathlib.Omega.{arith}
use lib.Pow.{pow_pos, pow_mono}
use lib.Dec.{eqb, leb, ltb}
use lib.ListN.{length, get_or, take}
use Rattle.std.proofs.lemmas.List.{length-take-le, get_or-take}
use borrow.Author.Tests.{lt-ltb, le-ltb, le-leb, lt-leb, ltb-false, leb-true, leb-false, eqb-true, eq-eqb, ne_eqb}
use Rattle.counting.specs.Count.{any}
use Rattle.counting.specs.Refuse.{Refusal, first_of}
use Rattle.counting.specs.Refuse.Refusal.{refuse}
use Rattle.counting.specs.Sets.{member}
use Rattle.counting.proofs.Refuse.{passed, accepted, refused_first}
use Rattle.counting.proofs.Count.{any_none, any_ext}
use Rattle.counting.proofs.Bools.{
  either,
  not_of_true,
  not_of_false,
  cond_true,
  cond_false,
  or_none,
  or_true_left,
  or_true_right,
  or_false_left,
  or_false_right,
  not_false,
}
use Rattle.sizes.specs.Sizes.{
  Sized,
  outside,
  too_many,
  stray,
  sound,
  sound_zero,
  size_refusal,
  largest_t,
  table_rows,
  by_n,
}

-- refusal 4, both ways
pub inside : (n : ℕ) → 1 ≤ n → n ≤ 13 → outside n ≡ false
unfolding outside
inside n low high = or_none (le-ltb n 1 low) (le-ltb 13 n high)

pub outside_low : (n : ℕ) → n < 1 → outside n ≡ true
unfolding outside
outside_low n h = or_true_left (ltb 13 n) (lt-ltb n 1 h)

pub outside_high : (n : ℕ) → 13 < n → outside n ≡ true
unfolding outside
outside_high n h = or_true_right (ltb n 1) (lt-ltb 13 n h)

pub inside_low : (n : ℕ) → outside n ≡ false → 1 ≤ n
unfolding outside
inside_low n h = ltb-false n 1 (or_false_left (ltb n 1) (ltb 13 n) h)

pub inside_high : (n : ℕ) → outside n ≡ false → n ≤ 13
unfolding outside
inside_high n h = ltb-false 13 n (or_false_right (ltb n 1) (ltb 13 n) h)

-- refusal 5, both ways
pub tolerated : (n t : ℕ) → 3 * t < n → too_many n t ≡ false
unfolding too_many
tolerated n t h = lt-leb n (3 * t) h

pub not_tolerated : (n t : ℕ) → n ≤ 3 * t → too_many n t ≡ true
unfolding too_many
not_tolerated n t h = le-leb n (3 * t) h

pub tolerated_lt : (n t : ℕ) → too_many n t ≡ false → 3 * t < n
unfolding too_many
tolerated_lt n t h = leb-false n (3 * t) h

-- what has 16 bits is below every power of 2 from the sixteenth on
beyond : (set k : ℕ) → set < 65536 → 16 ≤ k → set < 2 ^ k
beyond set k small far = lt_of_lt_of_le small (pow_mono far)

-- refusal 6: what a set within n is
pub within_lt : (n set : ℕ) → stray n set ≡ false → set < 2 ^ n
unfolding stray
within_lt n set h = leb-false (2 ^ n) set h

pub lt_within : (n set : ℕ) → set < 2 ^ n → stray n set ≡ false
unfolding stray
lt_within n set h = lt-leb (2 ^ n) set h

-- refusals 4 and 5, where they stand first: they are given, or what follows them decides
module _ (n t : ℕ) (rest : List Refusal) where
  pub size_given : (size_refusal n t ≡ 0 → ⊥) →
      first_of (refuse 4 (outside n) ∷ refuse 5 (too_many n t) ∷ rest) ≡ size_refusal n t
  unfolding size_refusal
  size_given z = refused_first (refuse 4 (outside n) ∷ refuse 5 (too_many n t) ∷ []) rest z

  pub size_passed : size_refusal n t ≡ 0 →
      first_of (refuse 4 (outside n) ∷ refuse 5 (too_many n t) ∷ rest) ≡ first_of rest
  unfolding size_refusal
  size_passed e =
      let first = accepted 3 (outside n) (refuse 5 (too_many n t) ∷ []) e in
      passed 4 _ first.0 ∙ passed 5 rest (accepted 4 (too_many n t) [] first.1).0

-- what passes refusals 4 and 5, both ways
pub passes_sized : (n t : ℕ) → size_refusal n t ≡ 0 → Sized n t
unfolding size_refusal
passes_sized n t e =
    let first = accepted 3 (outside n) (refuse 5 (too_many n t) ∷ []) e in
    record {
      low = inside_low n first.0;
      high = inside_high n first.0;
      tolerated = tolerated_lt n t (accepted 4 (too_many n t) [] first.1).0;
    }

pub sized_passes : (n t : ℕ) → Sized n t → size_refusal n t ≡ 0
unfolding size_refusal first_of
sized_passes n t s = rw (inside n s.low s.high, tolerated n t s.tolerated) refl

-- a set has 16 bits: it has none at place 16 or above
pub no_member : (set k : ℕ) → set < 65536 → 16 ≤ k → member set k ≡ false
unfolding member
no_member set k small far = rw (div-eq_of_lt (beyond set k small far)) refl

pub no_stray : (set n : ℕ) → set < 65536 → 16 ≤ n → stray n set ≡ false
no_stray set n small far = lt_within n set (beyond set n small far)

-- outside 1 to 13 the tables by n give 0
by_n_outside : (formula : ℕ → ℕ) (n : ℕ) → outside n ≡ true → by_n formula n ≡ 0
unfolding by_n
by_n_outside formula n h = cond_true 0 (formula n) h

pub by_n_low : (formula : ℕ → ℕ) (n : ℕ) → n < 1 → 0 ≡ by_n formula n
by_n_low formula n h = sym (by_n_outside formula n (outside_low n h))

pub by_n_high : (formula : ℕ → ℕ) (n : ℕ) → 13 < n → 0 ≡ by_n formula n
by_n_high formula n h = sym (by_n_outside formula n (outside_high n h))

pub by_n_inside : (formula : ℕ → ℕ) (n : ℕ) → outside n ≡ false → by_n formula n ≡ formula n
unfolding by_n
by_n_inside formula n h = cond_false 0 (formula n) h

-- does a table of 13 numbers differ from the formula at place k?
abbrev pub wrong : List ℕ → (ℕ → ℕ) → ℕ → Bool
wrong table formula k = not (eqb (get_or table k 0) (formula (k + 1)))

-- where it differs nowhere, it is the formula at every n
pub table_rule : (table : List ℕ) (formula : ℕ → ℕ) → any 13 (wrong table formula) ≡ false →
    (n : ℕ) → 1 ≤ n → n ≤ 13 → get_or table (n - 1) 0 ≡ by_n formula n
table_rule table formula test n low high =
    let same : n - 1 + 1 ≡ n = omega arith in
    eqb-true (get_or table (n - 1) 0) (formula (n - 1 + 1))
    (not_false (eqb (get_or table (n - 1) 0) (formula (n - 1 + 1)))
    (any_none 13 (wrong table formula) test (n - 1) (omega arith)))
    ∙ ap formula same
    ∙ sym (by_n_inside formula n (inside n low high))

-- the formula gives the largest t: it is tolerated, and no larger one is
pub largest_tolerated : (n : ℕ) → 1 ≤ n → 3 * largest_t n < n
unfolding largest_t
largest_tolerated n h = omega arith

pub none_larger : (n t : ℕ) → 3 * t < n → t ≤ largest_t n
unfolding largest_t
none_larger n t h = omega arith

-- a set shifted by n is not 0 exactly where it has a bit at place n or above
pub shifted : (n set : ℕ) → not (eqb (set / 2 ^ n) 0) ≡ stray n set
unfolding stray
shifted n set =
    ⊎_elim (λ t. high (leb-true (2 ^ n) set t) ∙ sym t) (λ f. low (leb-false (2 ^ n) set f) ∙ sym f)
    (either (leb (2 ^ n) set))
  where
    high : 2 ^ n ≤ set → not (eqb (set / 2 ^ n) 0) ≡ true
    high h =
        not_of_false
        (ne_eqb (set / 2 ^ n) 0
        (λ e.
        absurd (not-le_of_lt
        (subst (λ (m : ℕ). set < m) (one-mul (2 ^ n)) ((div-lt_iff_lt-mul (pow_pos n)).0 (omega (arith, e)))) h)))

    low : set < 2 ^ n → not (eqb (set / 2 ^ n) 0) ≡ false
    low h = not_of_true (eq-eqb (set / 2 ^ n) 0 (div-eq_of_lt h))

-- n is at most 13, so a table has at most 4,563 rows
module _ {n : ℕ} (high : n ≤ 13) where
  pub square_le : n * n ≤ 169
  square_le = mul-le-mul high high

  pub cube_le : n * n * n ≤ 2197
  cube_le = mul-le-mul square_le high

  pub table_le : table_rows n ≤ 4563
  unfolding table_rows
  table_le = omega (arith, square_le, cube_le)

-- the rows of n boxes, and all that stands in a longer slice, have the same zeros among the first n
pub sound_zero_front : (n faulty : ℕ) (rows : List ℕ) → n ≤ length rows →
    sound_zero (length (take n rows)) faulty (take n rows) ≡ sound_zero n faulty rows
unfolding sound_zero
sound_zero_front n faulty rows h =
    rw (length-take-le n rows h)
    (any_ext n _ _ (λ k l. ap (λ (row : ℕ). sound faulty k && eqb row 0) (get_or-take n rows k 0 l)))

-- Refusal 14 of the reasons by counting. Where each listed box has a good reason, something is kept for it. So as many
-- places as are listed keep something exactly where no other place does, and then no reason is bad. Assumes nothing.
use mathlib.Core.Path.{◌≡◌, refl, sym, ap, ◌∙◌, subst}
use mathlib.Core.Bool.{Bool, true, false, not}
use mathlib.Core.Logic.{⊎_elim}
use Prim.Native.Nat.{ℕ, ◌+◌, ◌*◌, ◌/◌, ◌%◌, ◌<◌}
use native.Mathlib.Omega.{arith}
use lib.Dec.{eqb}
use lib.ListN.{get_or}
use borrow.Author.Tests.{eqb-true, eqb-false}
use Rattle.counting.specs.Count.{any, count}
use Rattle.counting.specs.Sets.{member}
use Rattle.counting.proofs.Bools.{either, never, both, and_left, and_right, same}
use Rattle.counting.proofs.Count.{any_some, any_none, some_any, none_any, count_add, count_ext, count_strict}
use Rattle.run.specs.declared.Reason.{Reason}
use Rattle.run.specs.declared.Run.{Run}
use Rattle.run.specs.Inside.{bad_box, bad_listing}
use Rattle.run.specs.Iteration.{reason_in, reason_at}
use Rattle.run.specs.State.{listed_by, kept, bad_reason, bad_reasons}
use Rattle.run.proofs.Listings.{
  place_box,
  place_leader,
  place_again,
  leader_lt,
  Listing,
  listed_good,
  good_listed,
  unlisted_none,
  nothing_kept,
  none_good,
  none_kept,
  listing_kept,
}

module _ (s : Run) where
  -- the places that are listed, and those that keep something
  abbrev pub listed_place : ℕ → Bool
  listed_place p = listed_by s (p / 13) (p % 13)

  abbrev pub kept_place : ℕ → Bool
  kept_place p = kept (reason_in s.reasons p)

  -- the listed places are counted box by box
  pub listed_more : (i : ℕ) {listed more : ℕ} → listed ≡ count (13 * i) listed_place →
      more ≡ count 13 (member (get_or s.lists i 0)) → listed + more ≡ count (13 * (i + 1)) listed_place
  unfolding listed_by
  listed_more i {listed} {more} e f =
      let here =
      count_ext 13 (λ k. listed_place (13 * i + k)) (member (get_or s.lists i 0))
      (λ k l. ap (λ (a : ℕ). member (get_or s.lists a 0) ((13 * i + k) % 13)) (place_box i l)
      ∙ ap (member (get_or s.lists i 0)) (place_leader i l)) in
      let whole : 13 * i + 13 ≡ 13 * (i + 1) = omega arith in
      omega (arith, e, f, here, count_add (13 * i) 13 listed_place, ap (λ (q : ℕ). count q listed_place) whole)

  -- has some box on the list of box i a bad reason?
  abbrev pub bad : ℕ → Bool
  bad i = bad_box s.t s.done (get_or s.lists i 0) s.reasons i

  pub some_bad : (i : ℕ) → i < 13 → bad i ≡ true → true ≡ any 13 (bad_reasons s)
  unfolding bad_listing bad_reasons listed_by reason_at
  some_bad i l h =
      let w = any_some 13 (bad_listing s.t s.done (get_or s.lists i 0) (reason_at s i)) h in
      let k = w.at in
      let r = reason_at s i k in
      let is = member (get_or s.lists i 0) k in
      let on = and_left is (bad_reason s.t s.done true r) w.passes in
      let bad = and_right is (bad_reason s.t s.done true r) w.passes in
      sym (some_any 13 (bad_reasons s) i l
      (some_any 13 _ k w.below
      (subst (λ (b : Bool). bad_reason s.t s.done b r ≡ true) (sym on) bad)))

  module _ (each : (i : ℕ) → i < 13 → bad i ≡ false) where
    -- who is listed has a good reason
    whole : (i k : ℕ) → i < 13 → k < 13 → listed_by s i k ≡ true → Listing s.t s.done (reason_at s i k)
    unfolding bad_listing listed_by reason_at
    whole i k li lk h =
        let at = reason_at s i k in
        let is = member (get_or s.lists i 0) k in
        listed_good s.t s.done at
        (⊎_elim
        (λ t. never (both h t) (any_none 13 _ (each i li) k lk))
        (λ f. f) (either (bad_reason s.t s.done true at)))

    -- a place and its boxes
    box_lt : (p : ℕ) → p < 169 → p / 13 < 13
    box_lt p l = omega (arith, l, place_again p)

    at_place : (p : ℕ) → reason_at s (p / 13) (p % 13) ≡ reason_in s.reasons p
    unfolding reason_at
    at_place p = ap (reason_in s.reasons) (place_again p)

    listed_kept : (p : ℕ) → p < 169 → listed_place p ≡ true → kept_place p ≡ true
    listed_kept p l h =
        sym (ap kept (at_place p))
        ∙ listing_kept s.t s.done (reason_at s (p / 13) (p % 13))
        (whole (p / 13) (p % 13) (box_lt p l) (leader_lt p) h)

    -- as many are kept as are listed: then nothing is kept for any other
    equal_good : count 169 kept_place ≡ count 169 listed_place → any 13 (bad_reasons s) ≡ false
    unfolding bad_reasons reason_at
    equal_good e = none_any 13 (bad_reasons s) (λ i li. none_any 13 _ (λ k lk. fine i k li lk (listed_by s i k) refl))
      where
        spare : (i k : ℕ) → i < 13 → k < 13 → listed_by s i k ≡ false → kept (reason_at s i k) ≡ false
        spare i k li lk f =
            ⊎_elim
            (λ t.
            let p = 13 * i + k in
            let inside : p < 169 = omega (arith, li, lk) in
            let off : listed_place p ≡ false = rw (place_box i lk, place_leader i lk) f in
            absurd (omega (arith, e, count_strict 169 listed_place kept_place listed_kept p inside off t)))
            (λ n. n) (either (kept (reason_at s i k)))

        fine : (i k : ℕ) → i < 13 → k < 13 → (b : Bool) → listed_by s i k ≡ b →
            bad_reason s.t s.done b (reason_at s i k) ≡ false
        fine i k li lk true h = good_listed s.t s.done (reason_at s i k) (whole i k li lk h)
        fine i k li lk false h =
            subst (λ (r : Reason). bad_reason s.t s.done false r ≡ false)
            (sym (nothing_kept s.t s.done (reason_at s i k) (spare i k li lk h))) (none_good s.t s.done)

    good_equal : any 13 (bad_reasons s) ≡ false → count 169 kept_place ≡ count 169 listed_place
    unfolding bad_reasons
    good_equal h =
        count_ext 169 kept_place listed_place
        (λ p l. same (kept_place p) (listed_place p) (only p l) (listed_kept p l))
      where
        only : (p : ℕ) → p < 169 → kept_place p ≡ true → listed_place p ≡ true
        only p l t =
            let i = p / 13 in
            let k = p % 13 in
            let fine = any_none 13 _ (any_none 13 (bad_reasons s) h i (box_lt p l)) k (leader_lt p) in
            ⊎_elim (λ y. y)
            (λ n.
            let none = unlisted_none s.t s.done (reason_at s i k)
            (subst (λ (b : Bool). bad_reason s.t s.done b (reason_at s i k) ≡ false) n fine) in
            never t (ap kept (sym (at_place p) ∙ none) ∙ none_kept))
            (either (listed_place p))

    pub by_count : not (eqb (count 169 kept_place) (count 169 listed_place)) ≡ any 13 (bad_reasons s)
    by_count = go (eqb (count 169 kept_place) (count 169 listed_place)) refl
      where
        go : (b : Bool) → eqb (count 169 kept_place) (count 169 listed_place) ≡ b → not b ≡ any 13 (bad_reasons s)
        go true e = sym (equal_good (eqb-true (count 169 kept_place) (count 169 listed_place) e))
        go false e =
            ⊎_elim (λ t. sym t)
            (λ f. absurd (eqb-false (count 169 kept_place) (count 169 listed_place) e (good_equal f)))
            (either (any 13 (bad_reasons s)))

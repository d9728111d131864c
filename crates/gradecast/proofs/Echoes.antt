-- The echoes that a box counts while it hears: one number for each leader, 0 before the first sender, and one more
-- where a sender that is gone through says what the box says itself. A sender that is not gone through adds nothing.
-- All of it is said of any numbers own k that the box says and from k j that it hears. Assumes nothing.
use mathlib.Core.Path.{◌≡◌, refl, sym, ap, ◌∙◌}
use mathlib.Core.Bool.{true, false, ◌&&◌}
use mathlib.Core.List.{List}
use Prim.Native.Nat.{ℕ, ◌+◌, ◌≤◌, ◌<◌}
use native.Mathlib.Numerals.{add-one}
use native.Mathlib.Omega.{arith}
use lib.Dec.{eqb}
use lib.ListN.{get_or, replicate, get_or-replicate}
use Rattle.counting.specs.Count.{count, front}
use Rattle.counting.specs.Sets.{member}
use Rattle.counting.proofs.Build.{front_at, front_same, front_ext, front_again}
use Rattle.counting.proofs.Count.{count_le, count_turn}
use Rattle.gradecast.specs.Inside.{echoes_to, echoes_of, one_more}

module _ (own : ℕ → ℕ) (from : ℕ → ℕ → ℕ) (odd : ℕ) {n : ℕ} (high : n ≤ 13) where
  pub echoes_begin : {echoes : List ℕ} → echoes ≡ replicate 13 0 → echoes ≡ echoes_of own from odd n 0
  unfolding echoes_to count
  echoes_begin e =
      e ∙ front_same n (λ k. 0) (replicate 13 0) high (λ k l. get_or-replicate 13 k 0 0 (omega arith))

  module _ (j : ℕ) {echoes : List ℕ} (e : echoes ≡ echoes_of own from odd n j) where
    -- what stands for leader k
    pub echoes_at : (k : ℕ) → k < n → get_or echoes k 0 ≡ echoes_to own from odd j k
    echoes_at k l =
        ap (λ (xs : List ℕ). get_or xs k 0) e ∙ front_at n (echoes_to own from odd j) (replicate 13 0) k l

    -- it is at most the number of senders
    pub echoes_few : (k : ℕ) → k < n → get_or echoes k 0 ≤ j
    unfolding echoes_to
    echoes_few k l =
        omega (arith, echoes_at k l, count_le j (λ b. member odd b && eqb (from k b) (own k)))

    -- one more sender that is gone through
    pub echoes_turn : {last : List ℕ} → member odd j ≡ true → last ≡ front n (one_more own from echoes j) echoes →
        last ≡ echoes_of own from odd n (j + 1)
    unfolding echoes_to
    echoes_turn is_odd h =
        h
        ∙ ap (front n (one_more own from echoes j)) e
        ∙ front_again n _ _ (replicate 13 0)
        ∙ front_ext n _ _ (replicate 13 0) (λ k l. count_turn j _ (echoes_at k l) (rw is_odd refl))

    -- and one that is not
    pub echoes_skip : member odd j ≡ false → echoes ≡ echoes_of own from odd n (j + 1)
    unfolding echoes_to count
    echoes_skip is-not = e ∙ front_ext n _ _ (replicate 13 0) (λ k l. sym (rw (add-one, is-not) (omega arith)))

    -- all senders
    pub echoes_end : j ≡ n → echoes ≡ echoes_of own from odd n n
    echoes_end all = e ∙ ap (echoes_of own from odd n) all

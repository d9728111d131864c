-- Places of a number in a list. A built list has as many places of v as the function has below n. Two numbers whose
-- places together are more than the list has meet in one place, so they are one number. And so a number in more than
-- half of the places is the one found most often. Assumes nothing.
use mathlib.Core.Path.{◌≡◌, refl, sym, ap, ◌∙◌}
use mathlib.Core.Bool.{true, false, ◌&&◌}
use mathlib.Core.List.{List}
use Prim.Native.Nat.{ℕ, ◌+◌, ◌*◌, ◌≤◌, ◌<◌}
use native.Mathlib.Omega.{arith}
use lib.Dec.{eqb}
use lib.ListN.{length, get_or}
use borrow.Author.Tests.{eqb-true}
use Rattle.counting.specs.Count.{count, build}
use Rattle.counting.specs.Most.{places, support, most}
use Rattle.counting.proofs.Bools.{and_left, and_right}
use Rattle.counting.proofs.Build.{length_build, get_or_build}
use Rattle.counting.proofs.Count.{Between, count_ext, count_none, count_meet}
use Rattle.counting.proofs.Most.{support_places, supported, most_is}

pub places_build : (n : ℕ) (f : ℕ → ℕ) (v : ℕ) → places (build n f) v ≡ count n (λ k. eqb (f k) v)
unfolding places
places_build n f v =
    rw (length_build n f)
    (count_ext n (λ k. eqb (get_or (build n f) k 0) v) (λ k. eqb (f k) v)
    (λ k l. ap (λ (m : ℕ). eqb m v) (get_or_build n f k 0 l)))

-- two tests of equality that hold together
pub one_number : (x v w : ℕ) → (eqb x v && eqb x w) ≡ true → v ≡ w
one_number x v w h =
    sym (eqb-true x v (and_left (eqb x v) (eqb x w) h)) ∙ eqb-true x w (and_right (eqb x v) (eqb x w) h)

pub places_one : (xs : List ℕ) (v w : ℕ) → length xs < places xs v + places xs w → v ≡ w
unfolding places
places_one xs v w h =
    let m : Between (length xs) (λ k. false) (λ k. eqb (get_or xs k 0) v && eqb (get_or xs k 0) w) =
    count_meet (length xs) (λ k. eqb (get_or xs k 0) v) (λ k. eqb (get_or xs k 0) w) (λ k. false)
    (omega (arith, count_none (length xs) (λ k. false) (λ k l. refl))) in
    one_number (get_or xs m.at 0) v w m.passes

-- a number that stands in more than half of the places is the one found most often
pub most_majority : (xs : List ℕ) (v : ℕ) → (v ≡ 0 → ⊥) → length xs < 2 * places xs v → most xs ≡ v
most_majority xs v z h =
    let s : support xs v ≡ places xs v = support_places xs v z in
    let g : support xs v ≤ support xs (most xs) = (most_is xs).greatest v in
    let q : most xs ≡ 0 → ⊥ = (supported xs (most xs) (omega arith)).0 in
    places_one xs (most xs) v (omega (arith, support_places xs (most xs) q))

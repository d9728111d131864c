-- What a box hears from a sender on its own list is 0: each step hears through the same rule.
-- Assumes nothing.
use mathlib.Core.Path.{◌≡◌}
use mathlib.Core.Bool.{true}
use mathlib.Core.List.{List}
use Prim.Native.Nat.{ℕ}
use lib.ListN.{get_or}
use Rattle.counting.specs.Sets.{member}
use Rattle.counting.proofs.Bools.{cond_true}
use Rattle.gradecast.specs.Steps.{place1, place2, place3, sends, hears, sent1, heard1, sent2, heard2}
use Rattle.gradecast.specs.Steps.{sent3, heard3}

hears_listed : (list j m : ℕ) → member list j ≡ true → hears list j m ≡ 0
unfolding hears
hears_listed list j m h = cond_true 0 m h

module _ (n t faulty : ℕ) (rows lists table : List ℕ) (i j : ℕ) (listed : member (get_or lists i 0) j ≡ true) where
  pub listed_heard1 : heard1 n faulty rows lists table i j ≡ 0
  unfolding heard1
  listed_heard1 = hears_listed (get_or lists i 0) j (sends faulty table j (place1 n j i) (sent1 rows j)) listed

  pub listed_heard2 : (k : ℕ) → heard2 n faulty rows lists table i j k ≡ 0
  unfolding heard2
  listed_heard2 k =
      hears_listed (get_or lists i 0) j
      (sends faulty table j (place2 n j i k) (sent2 n faulty rows lists table j k)) listed

  pub listed_heard3 : (k : ℕ) → heard3 n t faulty rows lists table i j k ≡ 0
  unfolding heard3
  listed_heard3 k =
      hears_listed (get_or lists i 0) j
      (sends faulty table j (place3 n j i k) (sent3 n t faulty rows lists table j k)) listed

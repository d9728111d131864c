-- What a table says of the faulty boxes. Its entries in a sound sender's place are never read.
use Rattle.std.specs.Prelude.{ℕ, ◌<◌, ◌≡◌, true, List, get_or, replicate}
use Rattle.counting.specs.Sets.{member}
use Rattle.sizes.specs.Sizes.{table_rows}
use Rattle.gradecast.specs.Steps.{place1, place2, place3}

-- a table in which nothing is sent
abbrev pub silent : ℕ → List ℕ
silent n = replicate (table_rows n) 0

-- tables a and b differ only in sound senders' places: a faulty sender's rows are the same in each step
pub record SameLies (n faulty : ℕ) (a b : List ℕ) : Type 0 where
  pub step1 : (sender receiver : ℕ) → sender < n → receiver < n → member faulty sender ≡ true →
      get_or a (place1 n sender receiver) 0 ≡ get_or b (place1 n sender receiver) 0
  pub step2 : (sender receiver leader : ℕ) → sender < n → receiver < n → leader < n → member faulty sender ≡ true →
      get_or a (place2 n sender receiver leader) 0 ≡ get_or b (place2 n sender receiver leader) 0
  pub step3 : (sender receiver leader : ℕ) → sender < n → receiver < n → leader < n → member faulty sender ≡ true →
      get_or a (place3 n sender receiver leader) 0 ≡ get_or b (place3 n sender receiver leader) 0

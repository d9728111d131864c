-- Steps 1 to 4 of one iteration, for every box at once. Boxes and leaders count from 0. The rows and the lists are
-- those held when the iteration began; the table says what the faulty boxes send.
use Rattle.std.specs.Prelude.{ℕ, ◌+◌, ◌-◌, ◌*◌, Bool, cond, not, ◌&&◌, List, eqb, get_or}
use Rattle.counting.specs.Count.{sum, count, build}
use Rattle.counting.specs.Sets.{member}
use Rattle.sizes.specs.Sizes.{sound}
use Rattle.tally.specs.Tally.{vote_of, support_of, confidence_of, graded_row}

-- the table: n² rows for step 1 (sender, then receiver), then n³ for step 2 (sender, receiver, leader), n³ for step 3
unfoldable pub place1 : ℕ → ℕ → ℕ → ℕ
place1 n sender receiver = sender * n + receiver

-- a row of step 2 or 3, by sender, receiver and leader, where the step's rows begin at base
unfoldable pub place_from : ℕ → ℕ → ℕ → ℕ → ℕ → ℕ
place_from base n sender receiver leader = base + ((sender * n + receiver) * n + leader)

-- step 2's rows begin behind the n² of step 1
unfoldable pub place2 : ℕ → ℕ → ℕ → ℕ → ℕ
place2 n = place_from (n * n) n

-- step 3's rows begin behind the n³ of step 2
unfoldable pub place3 : ℕ → ℕ → ℕ → ℕ → ℕ
place3 n = place_from (n * n + n * n * n) n

-- a sound box j sends m; a faulty box sends what the table says
unfoldable pub sends : ℕ → List ℕ → ℕ → ℕ → ℕ → ℕ
sends faulty table j place m = cond (member faulty j) (get_or table place 0) m

-- what a box hears from a sender j on its own list is 0
unfoldable pub hears : ℕ → ℕ → ℕ → ℕ
hears list j m = cond (member list j) 0 m

-- the receivers of what box j sends are all boxes but j, faulty ones too: a box hears itself, but not by radio
abbrev pub receives : ℕ → ℕ → Bool
receives j i = not (eqb i j)

-- What a sound box sends is named once for each step, sent1 to sent3: what is heard cites it, and so does what is
-- counted.

-- step 1: a sound box j sends its row to all n boxes
abbrev pub sent1 : List ℕ → ℕ → ℕ
sent1 rows j = get_or rows j 0

module _ (n faulty : ℕ) (rows lists table : List ℕ) where
  -- step 1, V[k]: what box i hears from k
  unfoldable pub heard1 : ℕ → ℕ → ℕ
  heard1 i k = hears (get_or lists i 0) k (sends faulty table k (place1 n k i) (sent1 rows k))

  -- step 2: a sound box j sends V to all, so about leader k what it heard from k in step 1
  abbrev pub sent2 : ℕ → ℕ → ℕ
  sent2 j k = heard1 j k

  -- step 2, X[j][k]: what box i hears from j about leader k
  unfoldable pub heard2 : ℕ → ℕ → ℕ → ℕ
  heard2 i j k = hears (get_or lists i 0) j (sends faulty table j (place2 n j i k) (sent2 j k))

  -- X[1][k] to X[n][k]
  unfoldable pub column2 : ℕ → ℕ → List ℕ
  column2 i k = build n (λ j. heard2 i j k)

module _ (n t faulty : ℕ) (rows lists table : List ℕ) where
  -- step 3, Y[k]: the vote of box i about leader k
  unfoldable pub voted : ℕ → ℕ → ℕ
  voted i k = vote_of t (column2 n faulty rows lists table i k)

  -- step 3: a sound box j sends Y to all, so its vote about leader k
  abbrev pub sent3 : ℕ → ℕ → ℕ
  sent3 j k = voted j k

  -- step 3, Z[j][k]: what box i hears from j about leader k
  unfoldable pub heard3 : ℕ → ℕ → ℕ → ℕ
  heard3 i j k = hears (get_or lists i 0) j (sends faulty table j (place3 n j i k) (sent3 j k))

  -- Z[1][k] to Z[n][k]
  unfoldable pub column3 : ℕ → ℕ → List ℕ
  column3 i k = build n (λ j. heard3 i j k)

  -- step 4: the support that box i finds for leader k
  unfoldable pub support_for : ℕ → ℕ → ℕ
  support_for i k = support_of (column3 i k)

  -- step 4: the confidence of box i in leader k
  unfoldable pub confidence : ℕ → ℕ → ℕ
  confidence i k = confidence_of t (column3 i k)

  -- step 4: the row that box i gives leader k with it
  unfoldable pub grade_row : ℕ → ℕ → ℕ
  grade_row i k = graded_row t (column3 i k)

  -- the non-zero rows that a sound box j sends to box i: its own row in step 1, a row for each leader in steps 2 and 3
  unfoldable pub sent_to : ℕ → ℕ → ℕ
  sent_to j i =
      cond (eqb (sent1 rows j) 0) 0 1 +
      count n (λ k. not (eqb (sent2 n faulty rows lists table j k) 0)) +
      count n (λ k. not (eqb (sent3 j k) 0))

  -- messages of one iteration: by every sound sender to each of its receivers
  unfoldable pub messages : ℕ
  messages = sum n (λ j. sum n (λ i. cond (sound faulty j && receives j i) (sent_to j i) 0))

-- the limit for one iteration: each of n boxes sends n − 1 others a row in step 1 and n rows in each of steps 2 and 3
abbrev pub message_limit : ℕ → ℕ
message_limit n = n * (n - 1) * (1 + 2 * n)

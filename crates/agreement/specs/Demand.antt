-- Demand 3: what is assumed of a run, and what is claimed of the replies, of which the first is a start's and each
-- next one an iteration's. Boxes count from 0. A claim is made for every set of faulty boxes and for everything that
-- they send.
use Rattle.std.specs.Prelude.{ℕ, suc, ◌+◌, ◌*◌, ◌^◌, ◌≤◌, ◌<◌, ◌≡◌, true, List, length, get_or}
use Rattle.counting.specs.Sets.{member}
use Rattle.sizes.specs.Sizes.{table_rows}
use Rattle.gradecast.specs.Steps.{confidence}
use Rattle.gradecast.specs.Fair.{SoundBox, faulty_boxes, NoSoundListed, SoundRowsNotZero, Gradecast}
use Rattle.run.specs.declared.Next.{Next}
use Rattle.run.specs.State.{start_reply, after}

-- the iterations of a run
abbrev pub iterations : ℕ → ℕ
iterations t = t + 1

-- what is assumed: n from 1 to 13, 3t less than n, at most t of the n boxes faulty, n starting rows of which no sound
-- box's is 0, and a table of the right length for each iteration
pub record Premises (n t faulty : ℕ) (rows : List ℕ) (tables : ℕ → List ℕ) : Type 0 where
  pub from_1 : 1 ≤ n
  pub to_13 : n ≤ 13
  pub tolerated : 3 * t < n
  pub within : faulty < 2 ^ n
  pub few : faulty_boxes n faulty ≤ t
  pub given : length rows ≡ n
  pub none_zero : (k : ℕ) → SoundBox n faulty k → 1 ≤ get_or rows k 0
  pub sized : (m : ℕ) → m < iterations t → length (tables m) ≡ table_rows n

-- every sound box holds row v
abbrev pub AllHold : ℕ → ℕ → List ℕ → ℕ → Type 0
AllHold n faulty rows v = (i : ℕ) → SoundBox n faulty i → get_or rows i 0 ≡ v

-- all sound boxes hold the same row
abbrev pub SameRow : ℕ → ℕ → List ℕ → Type 0
SameRow n faulty rows = (i j : ℕ) → SoundBox n faulty i → SoundBox n faulty j → get_or rows i 0 ≡ get_or rows j 0

-- the replies of a run by the definitions that the contracts cite: the start's, and then that of each iteration
abbrev pub replies : ℕ → ℕ → ℕ → List ℕ → (ℕ → List ℕ) → ℕ → Next
replies n t faulty rows tables m = after (start_reply n t faulty rows) tables m

-- the rows of the boxes after m iterations
abbrev pub rows_after : (ℕ → Next) → ℕ → List ℕ
rows_after reply m = (reply m).run.rows

-- the lists of the boxes after m iterations
abbrev pub lists_after : (ℕ → Next) → ℕ → List ℕ
lists_after reply m = (reply m).run.lists

module _ (n t faulty : ℕ) (tables : ℕ → List ℕ) (reply : ℕ → Next) where
  -- the confidence of box i in leader k, in the iteration that follows m others
  abbrev pub confidence_in : ℕ → ℕ → ℕ → ℕ
  confidence_in m i k = confidence n t faulty (rows_after reply m) (lists_after reply m) (tables m) i k

  -- no call is refused
  abbrev pub NotRefused : Type 0
  NotRefused = (m : ℕ) → m ≤ iterations t → (reply m).refusal ≡ 0

  -- agreement: after all iterations every sound box holds the same row
  abbrev pub Agrees : Type 0
  Agrees = SameRow n faulty (rows_after reply (iterations t))

  -- validity: where all sound boxes start with one row, they hold it after every iteration
  abbrev pub Valid : List ℕ → Type 0
  Valid rows = (v : ℕ) → AllHold n faulty rows v → (m : ℕ) → m ≤ iterations t → AllHold n faulty (rows_after reply m) v

  -- no sound box is ever on a sound box's list
  abbrev pub NeverListed : Type 0
  NeverListed = (m : ℕ) → m ≤ iterations t → NoSoundListed n faulty (lists_after reply m)

  -- no sound box's row is ever 0
  abbrev pub NeverZero : Type 0
  NeverZero = (m : ℕ) → m ≤ iterations t → SoundRowsNotZero n faulty (rows_after reply m)

  -- gradecast keeps its promises in every iteration
  abbrev pub Promises : Type 0
  Promises = (m : ℕ) → m < iterations t → Gradecast n t faulty (rows_after reply m) (lists_after reply m) (tables m)

  -- a leader that one sound box counts and another does not is on every sound box's list after that iteration
  abbrev pub SplitsJoin : Type 0
  SplitsJoin =
      (m : ℕ) → m < iterations t → (i j k : ℕ) → SoundBox n faulty i → SoundBox n faulty j → k < n →
      1 ≤ confidence_in m i k → confidence_in m j k ≡ 0 →
      (l : ℕ) → SoundBox n faulty l → member (get_or (lists_after reply (suc m)) l 0) k ≡ true

-- demand 3
pub record Demand3 (n t faulty : ℕ) (rows : List ℕ) (tables : ℕ → List ℕ) (reply : ℕ → Next) : Type 0 where
  pub not_refused : NotRefused n t faulty tables reply
  pub agrees : Agrees n t faulty tables reply
  pub valid : Valid n t faulty tables reply rows
  pub never_listed : NeverListed n t faulty tables reply
  pub never_zero : NeverZero n t faulty tables reply
  pub promises : Promises n t faulty tables reply
  pub splits_join : SplitsJoin n t faulty tables reply

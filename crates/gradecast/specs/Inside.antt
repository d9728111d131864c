-- What the private functions say of their parts of the work, but for what Seats.antt has. No promise of the crate
-- names any of it.
use Rattle.std.specs.Prelude.{ℕ, ◌+◌, ◌*◌, ◌≤◌, ◌<◌, ◌≡◌, Bool, false, cond, not, ◌||◌, ◌&&◌}
use Rattle.std.specs.Prelude.{List, eqb, length, get_or, take, drop, replicate}
use Rattle.counting.specs.Count.{any, count, front}
use Rattle.counting.specs.Sets.{member}
use Rattle.sizes.specs.Sizes.{table_rows, sound, Sized}
use Rattle.tally.specs.Tally.{confidence_at}
use Rattle.gradecast.specs.Steps.{place_from, sends, hears, sent1, heard1, voted, support_for, grade_row}
use Rattle.gradecast.specs.Cast.{of_sound, cells_to, cells}
use Rattle.gradecast.specs.Fair.{SoundBox, NoSoundListed, Tolerated, FewFaulty}
use Rattle.gradecast.specs.declared.Settings.{Settings}

-- what steps 1 to 4 count on: the call was not refused by 4 or 11
pub record Ready (n : ℕ) (table : List ℕ) : Type 0 where
  pub low : 1 ≤ n
  pub high : n ≤ 13
  pub whole : length table ≡ table_rows n

-- the numbers of boxes are as the steps take them: it was not refused by 4 or 5
abbrev pub RightSize : Settings → Type 0
RightSize s = Sized s.n s.t

-- boxes i and k, or box i and leader k, are among the n
pub record Among (n i k : ℕ) : Type 0 where
  pub is_box : i < n
  pub is_leader : k < n

-- the rows of a step that begin at base lie within the table
abbrev pub RowsFit : ℕ → ℕ → Type 0
RowsFit base n = base + n * n * n ≤ table_rows n

-- what a box i with this list hears from box j about leader k, where what sound boxes send stands in 169 places
unfoldable pub heard_from : ℕ → Settings → ℕ → List ℕ → List ℕ → ℕ → ℕ → ℕ → ℕ
heard_from base s list table said i k j =
    hears list j (sends s.faulty table j (place_from base s.n j i k) (get_or said (j * s.n + k) 0))

-- everything from the first m senders is there: the row from j about leader k, which g gives, at place k * n + j
abbrev pub SendersTo : ℕ → ℕ → (ℕ → ℕ → ℕ) → List ℕ → Type 0
SendersTo n m g heard = (k j : ℕ) → k < n → j < m → get_or heard (k * n + j) 0 ≡ g k j

-- all that box i hears is there
abbrev pub AllHeard : ℕ → Settings → ℕ → List ℕ → List ℕ → ℕ → List ℕ → Type 0
AllHeard base s list table said i heard = SendersTo s.n s.n (heard_from base s list table said i) heard

-- of the rows of sender j, which g gives, the first m are put down; the other senders' rows stay
pub record FromSender (n j m : ℕ) (g : ℕ → ℕ) (heard last : List ℕ) : Type 0 where
  pub put : (k : ℕ) → k < m → get_or last (k * n + j) 0 ≡ g k
  pub stays : (k other : ℕ) → other < n → (other ≡ j → ⊥) →
      get_or last (k * n + other) 0 ≡ get_or heard (k * n + other) 0

-- what sender j says about leader k
abbrev pub said_by : ℕ → List ℕ → ℕ → ℕ → ℕ
said_by n said k j = get_or said (j * n + k) 0

-- is box j faulty, or on one of the first m lists?
unfoldable pub odd_to : ℕ → ℕ → List ℕ → ℕ → Bool
odd_to m faulty lists j = member faulty j || any m (λ i. member (get_or lists i 0) j)

-- the set of those boxes
abbrev pub OddSet : ℕ → ℕ → List ℕ → ℕ → Type 0
OddSet m faulty lists odd = (j : ℕ) → member odd j ≡ odd_to m faulty lists j

-- from every sender that is neither faulty nor on one of the 13 lists, what it says is there: every box hears just
-- that
abbrev pub PlainHeard : Settings → List ℕ → List ℕ → List ℕ → Type 0
PlainHeard s lists said heard =
    (k j : ℕ) → k < s.n → j < s.n → odd_to 13 s.faulty lists j ≡ false →
    get_or heard (k * s.n + j) 0 ≡ said_by s.n said k j

-- no more boxes are faulty than may be, and no sound box's list holds a sound box
pub record Calm (n t faulty : ℕ) (lists : List ℕ) : Type 0 where
  pub tolerated : Tolerated n t
  pub few : FewFaulty n t faulty
  pub none_listed : NoSoundListed n faulty lists

-- leader k is sound, no more boxes are faulty than may be, and no list at all holds a sound box
pub record Trusted (s : Settings) (lists : List ℕ) (k : ℕ) : Type 0 where
  pub leader : SoundBox s.n s.faulty k
  pub few : FewFaulty s.n s.t s.faulty
  pub none_odd : (j : ℕ) → odd_to 13 s.faulty lists j ≡ member s.faulty j

-- a leader that is not asked is one of those
abbrev pub EnoughAsked : Settings → List ℕ → ℕ → Type 0
EnoughAsked s lists asked = (k : ℕ) → k < s.n → member asked k ≡ false → Trusted s lists k

-- enough is asked for any lists of which this is the set of odd boxes
abbrev pub AskedFor : Settings → ℕ → ℕ → Type 0
AskedFor s odd asked = (lists : List ℕ) → OddSet 13 s.faulty lists odd → EnoughAsked s lists asked

-- where the cells before box i's are there, the first m of its own, which g gives, are put behind them
abbrev pub PutTo : ℕ → ℕ → ℕ → (ℕ → ℕ) → List ℕ → List ℕ → Type 0
PutTo n i m g out last =
    (f : ℕ → ℕ → ℕ) → ((k : ℕ) → k < n → f i k ≡ g k) → out ≡ cells_to (i * n) n f → last ≡ cells_to (i * n + m) n f

-- the column of leader k in what a box hears
unfoldable pub column_of : ℕ → List ℕ → ℕ → List ℕ
column_of n heard k = take n (drop (k * n) heard)

-- what a box makes of leader k: the count over k's column where k is to be counted, else what it has with no counting
unfoldable pub on_leader : Bool → Settings → (ℕ → List ℕ → ℕ) → ℕ → List ℕ → ℕ → ℕ
on_leader to-count s counted plain heard k = cond to-count (counted s.t (column_of s.n heard k)) plain

-- the echoes of a box that says own k about leader k, and hears from k j from sender j about k
module _ (own : ℕ → ℕ) (from : ℕ → ℕ → ℕ) where
  -- how many of the first m senders that are in the set odd say about leader k what the box says itself
  unfoldable pub echoes_to : ℕ → ℕ → ℕ → ℕ
  echoes_to odd m k = count m (λ j. member odd j && eqb (from k j) (own k))

  -- for each of n leaders, in 13 places
  abbrev pub echoes_of : ℕ → ℕ → ℕ → List ℕ
  echoes_of odd n m = front n (echoes_to odd m) (replicate 13 0)

  -- these, and one more for leader k where sender j says so
  abbrev pub one_more : List ℕ → ℕ → ℕ → ℕ
  one_more echoes j k = get_or echoes k 0 + cond (eqb (from k j) (own k)) 1 0

-- none of the first n numbers is above n
abbrev pub AtMost : ℕ → List ℕ → Type 0
AtMost n xs = (k : ℕ) → k < n → get_or xs k 0 ≤ n

-- what the sound boxes make of the rows in each step, and 0 in a faulty box's place: V, Y, and the row and the
-- support of step 4
module _ (s : Settings) (rows lists table : List ℕ) where
  abbrev pub first_of_sound : ℕ → ℕ → ℕ
  first_of_sound = of_sound s.faulty (heard1 s.n s.faulty rows lists table)

  abbrev pub votes_of_sound : ℕ → ℕ → ℕ
  votes_of_sound = of_sound s.faulty (voted s.n s.t s.faulty rows lists table)

  abbrev pub rows_of_sound : ℕ → ℕ → ℕ
  rows_of_sound = of_sound s.faulty (grade_row s.n s.t s.faulty rows lists table)

  abbrev pub supports_of_sound : ℕ → ℕ → ℕ
  supports_of_sound = of_sound s.faulty (support_for s.n s.t s.faulty rows lists table)

module _ (s : Settings) (lists table said : List ℕ) where
  -- said is what the sound boxes send in step 2, from these rows
  abbrev pub SaidSecond : List ℕ → Type 0
  SaidSecond rows = said ≡ cells s.n (first_of_sound s rows lists table)

  -- said is what they send in step 3
  abbrev pub SaidThird : List ℕ → Type 0
  SaidThird rows = said ≡ cells s.n (votes_of_sound s rows lists table)

-- the confidences that these supports give, where they are n rows of n
abbrev pub Confidences : Settings → List ℕ → List ℕ → Type 0
Confidences s supports confidences =
    (f : ℕ → ℕ → ℕ) → supports ≡ cells s.n f → confidences ≡ cells s.n (λ i k. confidence_at s.t (f i k))

-- how many numbers of a list are not 0
abbrev pub filled : List ℕ → ℕ
filled xs = count (length xs) (λ k. not (eqb (get_or xs k 0) 0))

-- does box j send its row in step 1, as a sound box that has one?
abbrev pub sends_first : ℕ → List ℕ → ℕ → Bool
sends_first faulty rows j = sound faulty j && not (eqb (sent1 rows j) 0)

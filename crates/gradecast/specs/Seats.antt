-- What the functions of a hall, and of a box in its seat, say of their parts of the work. No promise of the crate
-- names any of it.
use Rattle.std.specs.Prelude.{ℕ, ◌+◌, ◌*◌, ◌≡◌, Bool, ◌||◌, List, eqb, get_or}
use Rattle.counting.specs.Sets.{member}
use Rattle.tally.specs.Tally.{vote_of, support_of, graded_row}
use Rattle.gradecast.specs.declared.hall.Hall.{Hall}
use Rattle.gradecast.specs.declared.hall.Seat.{Seat}
use Rattle.gradecast.specs.Inside.{
  heard_from,
  SendersTo,
  said_by,
  PlainHeard,
  PutTo,
  on_leader,
  echoes_of,
  first_of_sound,
  votes_of_sound,
  rows_of_sound,
  supports_of_sound,
  SaidSecond,
  SaidThird,
}

-- must a box that said this about leader k count it in step 4? Where no sound box names a row for a leader, a faulty
-- one still may, and that row has support.
abbrev pub must_count : Hall → ℕ → ℕ → Bool
must_count hall own k = eqb own 0 || member hall.asked k

module _ (hall : Hall) where
  -- what the sound boxes of the hall have in each step, and 0 in a faulty box's place: V, Y, and the row and the
  -- support of step 4
  abbrev pub firsts : ℕ → ℕ → ℕ
  firsts = first_of_sound hall.settings hall.rows.now hall.lists.now hall.table.now

  abbrev pub votes : ℕ → ℕ → ℕ
  votes = votes_of_sound hall.settings hall.rows.now hall.lists.now hall.table.now

  abbrev pub rows_found : ℕ → ℕ → ℕ
  rows_found = rows_of_sound hall.settings hall.rows.now hall.lists.now hall.table.now

  abbrev pub supports_found : ℕ → ℕ → ℕ
  supports_found = supports_of_sound hall.settings hall.rows.now hall.lists.now hall.table.now

  -- said is what they send in step 2, and in step 3
  abbrev pub IsSecond : List ℕ → Type 0
  IsSecond said = SaidSecond hall.settings hall.lists.now hall.table.now said hall.rows.now

  abbrev pub IsThird : List ℕ → Type 0
  IsThird said = SaidThird hall.settings hall.lists.now hall.table.now said hall.rows.now

-- the box in this seat
module _ (seat : Seat) where
  abbrev n : ℕ
  n = seat.hall.settings.n

  -- what it hears from sender j about leader k
  abbrev pub heard_by : ℕ → ℕ → ℕ
  heard_by = heard_from seat.base seat.hall.settings seat.list seat.hall.table.now seat.said.now seat.i

  -- all of it is there
  abbrev pub AllHeardBy : List ℕ → Type 0
  AllHeardBy = SendersTo n n heard_by

  -- what all boxes hear alike is there
  abbrev pub Alike : List ℕ → Type 0
  Alike = PlainHeard seat.hall.settings seat.hall.lists.now seat.said.now

  -- what it said about leader k
  abbrev pub said_here : ℕ → ℕ
  said_here k = said_by n seat.said.now k seat.i

  -- the cells that g gives it are put behind those of the boxes before it
  abbrev pub PutBy : (ℕ → ℕ) → List ℕ → List ℕ → Type 0
  PutBy = PutTo n seat.i n

  -- its echoes are counted
  abbrev pub Echoed : List ℕ → Type 0
  Echoed echoes = echoes ≡ echoes_of said_here heard_by seat.hall.odd n n

  -- what is said is what the sound boxes send in step 2, and in step 3
  pub record InStep2 : Type 0 where
    pub begins : seat.base ≡ n * n
    pub second : IsSecond seat.hall seat.said.now

  pub record InStep3 : Type 0 where
    pub begins : seat.base ≡ n * n + n * n * n
    pub third : IsThird seat.hall seat.said.now

  -- what it makes of leader k from what it said and heard: its vote; the row and the support of its grade
  module _ (heard : List ℕ) (k : ℕ) where
    abbrev pub vote_by : ℕ
    vote_by = on_leader (member seat.hall.asked k) seat.hall.settings vote_of (said_here k) heard k

    abbrev pub row_by : ℕ
    row_by = on_leader (must_count seat.hall (said_here k) k) seat.hall.settings graded_row (said_here k) heard k

    abbrev pub support_by : List ℕ → ℕ
    support_by echoes =
        on_leader (must_count seat.hall (said_here k) k) seat.hall.settings (λ t. support_of)
        (seat.hall.many + get_or echoes k 0) heard k

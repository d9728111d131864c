-- What the private functions say of their parts of the work. No promise of the crate names any of it.
use Rattle.std.specs.Prelude.{ℕ, ◌+◌, ◌≤◌, ◌<◌, ◌≡◌, ◌≢◌, true, List, length, get_or, Result, Ok, Err}
use Rattle.counting.specs.Sets.{member}
use Rattle.gradecast.specs.Steps.{place1, place2, place3}
use Rattle.run.specs.declared.Run.{Run}
use Rattle.run.specs.State.{no_reasons, iterate_reply}
use Rattle.runfile.specs.File.{table_row}
use Rattle.lines.specs.Line.{placed}
use Rattle.listing.specs.File.{table_begins, table_of, refused_table, heading, state_after, refused_start}
use Rattle.listing.specs.Listing.{done_of, ends_with}

-- a place of the slice holds the row that the table has there
abbrev pub Holds : List ℕ → List ℕ → ℕ → Type 0
Holds bytes table p = get_or table p 0 ≡ table_row bytes p

-- all places of a sender do, in each step
pub record Taken (n : ℕ) (bytes table : List ℕ) (sender : ℕ) : Type 0 where
  pub step1 : (receiver : ℕ) → receiver < n → Holds bytes table (place1 n sender receiver)
  pub step2 : (receiver leader : ℕ) → receiver < n → leader < n → Holds bytes table (place2 n sender receiver leader)
  pub step3 : (receiver leader : ℕ) → receiver < n → leader < n → Holds bytes table (place3 n sender receiver leader)

-- a slice that held a table's row somewhere holds it there still, and is as long
pub record Keeps (bytes table last : List ℕ) : Type 0 where
  pub long : length last ≡ length table
  pub held : (p : ℕ) → Holds bytes table p → Holds bytes last p

-- the faulty senders before sender k are taken
abbrev pub TakenTo : ℕ → ℕ → List ℕ → List ℕ → ℕ → Type 0
TakenTo n faulty bytes table k = (j : ℕ) → j < k → member faulty j ≡ true → Taken n bytes table j

-- a state that comes out of a file so far: n and the iterations done are small, and the tables before the next are
-- whole
pub record Underway (s : Run) (bytes : List ℕ) : Type 0 where
  pub low : 1 ≤ s.n
  pub high : s.n ≤ 13
  pub few : s.done ≤ 4
  pub behind : table_begins s.n s.done ≤ length bytes

-- a step that may be refused: by this number, or else it leads to this state
abbrev pub LeadsTo : ℕ → Run → Result Run ℕ → Type 0
LeadsTo refusal s (Ok r) = (refusal ≡ 0) × (r ≡ s)
LeadsTo refusal s (Err number) = (number ≡ refusal) × (number ≢ 0)

-- the step to the next table of a file: its refusal, or else the iteration's state
abbrev pub Advanced : Run → List ℕ → Result Run ℕ → Type 0
Advanced s bytes =
    let reply = iterate_reply s (table_of s.n bytes s.done) in
    LeadsTo (refused_table s.n bytes s.done reply.refusal) reply.run

-- the same, where the state of the iteration takes the place of the one before
abbrev pub Moved : Run → List ℕ → Run → Result (Unit {0}) ℕ → Type 0
Moved s bytes next (Ok _) = Advanced s bytes (Ok next)
Moved s bytes next (Err number) = Advanced s bytes (Err number)

-- the whole of a file: the refusal with which its listing ends, or else the last state
abbrev pub Ended : List ℕ → Result Run ℕ → Type 0
Ended bytes = LeadsTo (ends_with bytes) (state_after bytes (done_of bytes))

-- a text was put at a place of a slice, and end is the place behind it
pub record Put (before after : List ℕ) (at end : ℕ) (text : List ℕ) : Type 0 where
  pub ends : end ≡ at + length text
  pub stands : after ≡ placed before at text

-- the state before the first iteration of a file that is not refused yet
pub record Started (s : Run) (bytes : List ℕ) : Type 0 where
  pub passed : refused_start bytes ≡ 0
  pub is : s ≡ state_after bytes 0
  pub low : 1 ≤ s.n
  pub high : s.n ≤ 13
  pub few : s.t ≤ 4
  pub fresh : s.done ≡ 0
  pub same_n : s.n ≡ (heading bytes).n
  pub same_t : s.t ≡ (heading bytes).t
  pub behind : table_begins s.n 0 ≤ length bytes

-- a state with these parts: the lines of a state's boxes go by nothing else
unfoldable pub with_parts : ℕ → ℕ → List ℕ → List ℕ → Run
with_parts faulty done rows lists =
    record {
      n = 0;
      t = 0;
      faulty = faulty;
      done = done;
      sent = 0;
      rows = rows;
      lists = lists;
      reasons = no_reasons;
    }

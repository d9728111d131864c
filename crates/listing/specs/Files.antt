-- What is promised of whole files: which files are listed alike, demand 3 of a file, and why a box is on a list.
use Rattle.std.specs.Prelude.{ℕ, ◌<◌, ◌≡◌, List, length}
use Rattle.gradecast.specs.Lies.{SameLies}
use Rattle.gradecast.specs.Fair.{SoundBox, NoSoundListed}
use Rattle.run.specs.declared.Run.{Run}
use Rattle.run.specs.Iteration.{reason_at}
use Rattle.agreement.specs.Demand.{AllHold, SameRow}
use Rattle.agreement.specs.Reasons.{Reasoned}
use Rattle.listing.specs.File.{heading, rows_of, table_of, reply_after, due}

-- the bytes of a file that matter: as many as the largest file has, and one that shows that a file goes on
abbrev pub enough : ℕ
enough = 182634

-- two files that differ only in sound senders' places: as long, the same heading, and in each table the same rows of
-- faulty senders
pub record SameButSound (a b : List ℕ) : Type 0 where
  pub same_length : length a ≡ length b
  pub same_heading : heading a ≡ heading b
  pub same_rows : rows_of a ≡ rows_of b
  pub same_lies : (m : ℕ) → m < due a →
      SameLies (heading a).n (heading a).faulty (table_of (heading a).n a m) (table_of (heading a).n b m)

-- demand 3 of a file: in the outcome's state s all sound boxes hold the same row, a common start stays, and no sound
-- box is on a sound box's list
pub record Demand3Of (bytes : List ℕ) (s : Run) : Type 0 where
  pub agrees : SameRow (heading bytes).n (heading bytes).faulty s.rows
  pub valid : (v : ℕ) → AllHold (heading bytes).n (heading bytes).faulty (rows_of bytes) v →
      AllHold (heading bytes).n (heading bytes).faulty s.rows v
  pub unlisted : NoSoundListed (heading bytes).n (heading bytes).faulty s.lists

-- what the outcome's state s keeps of each box is true of the file's run
abbrev pub ReasonedOf : List ℕ → Run → Type 0
ReasonedOf bytes s =
    let h = heading bytes in
    (i k : ℕ) → SoundBox h.n h.faulty i → k < h.n →
    Reasoned h.n h.t h.faulty (table_of h.n bytes) (reply_after bytes) (due bytes) i k (reason_at s i k)

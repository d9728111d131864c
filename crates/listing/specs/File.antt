-- A run file as a run: its heading, its tables as a function of the iteration, and the replies that they lead to.
-- Iterations count from 0 here: table m is the one behind m others.
use Rattle.std.specs.Prelude.{ℕ, suc, ◌+◌, ◌*◌, Bool, cond, List, eqb, ltb, length, take, drop}
use Rattle.counting.specs.Count.{build}
use Rattle.sizes.specs.Sizes.{table_rows, by_n}
use Rattle.run.specs.declared.Run.{Run}
use Rattle.run.specs.declared.Next.{Next}
use Rattle.run.specs.State.{start_reply, after}
use Rattle.runfile.specs.declared.Heading.{Heading}
use Rattle.runfile.specs.File.{heading_bytes, heading_row, table_row}
use Rattle.runfile.specs.Reply.{heading_reply, table_refusal}

-- the first of two refusals, or 0 where there is none
unfoldable pub or_else : ℕ → ℕ → ℕ
or_else first second = cond (eqb first 0) second first

-- how many bytes one table has: its rows, of 64 bits each
unfoldable pub table_bytes : ℕ → ℕ
table_bytes n = 8 * table_rows n

-- where table m begins: behind the heading and the m tables before it
unfoldable pub table_begins : ℕ → ℕ → ℕ
table_begins n m = heading_bytes n + m * table_bytes n

-- the same as a reply, for any n: 0 outside 1 to 13
unfoldable pub begins_reply : ℕ → ℕ → ℕ
begins_reply n m = by_n (λ k. table_begins k m) n

-- the bytes of table m of n boxes: as many as a table has, or as many as are left
unfoldable pub bytes_of : ℕ → List ℕ → ℕ → List ℕ
bytes_of n bytes m = take (table_bytes n) (drop (table_begins n m) bytes)

-- table m of n boxes
unfoldable pub table_of : ℕ → List ℕ → ℕ → List ℕ
table_of n bytes m = build (table_rows n) (table_row (bytes_of n bytes m))

-- the refusal in place of the lines `at` of table m: the table's, which is read to a slice with room for the largest,
-- or else that of the iteration's reply
unfoldable pub refused_table : ℕ → List ℕ → ℕ → ℕ → ℕ
refused_table n bytes m reply = or_else (table_refusal n (bytes_of n bytes m) 4563) reply

module _ (bytes : List ℕ) where
  -- what the heading says, read to a slice with room for thirteen rows
  unfoldable pub heading : Heading
  heading = heading_reply bytes 13

  -- the heading's n rows
  unfoldable pub rows_of : List ℕ
  rows_of = build heading.n (heading_row bytes)

  -- the start's reply, and after it the reply of the iteration with each table
  unfoldable pub reply_after : ℕ → Next
  reply_after =
      after (start_reply heading.n heading.t heading.faulty rows_of) (table_of heading.n bytes)

  -- the state after m iterations
  unfoldable pub state_after : ℕ → Run
  state_after m = (reply_after m).run

  -- the refusal in place of the line `run`: the heading's, or else the start's
  unfoldable pub refused_start : ℕ
  refused_start = or_else heading.refusal (reply_after 0).refusal

  -- the refusal in place of the lines `at` of table m
  unfoldable pub refused_at : ℕ → ℕ
  refused_at m = refused_table heading.n bytes m (reply_after (suc m)).refusal

  -- t + 1 iterations are due
  unfoldable pub due : ℕ
  due = heading.t + 1

  -- does the file go on past the last table?
  unfoldable pub goes_on : Bool
  goes_on = ltb (table_begins heading.n due) (length bytes)

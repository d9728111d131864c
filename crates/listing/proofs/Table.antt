-- The next table of a file: its bytes are whole or cut short by how many are left; and an iteration with the rows of
-- the faulty senders alone gives the reply of the whole table, since it reads no others.
-- Assumes nothing.
use mathlib.Core.Path.{◌≡◌, refl, sym, ap, subst, ◌∙◌}
use mathlib.Core.List.{List}
use Prim.Native.Nat.{ℕ, ◌+◌, ◌-◌, ◌*◌, ◌≤◌, ◌<◌}
use native.Mathlib.Omega.{arith}
use lib.ListN.{length, take, drop, length-drop}
use lib.Seq.{take_all, length-take-le}
use borrow.Author.Tests.{ne_eqb}
use Rattle.counting.proofs.Bools.{not_of_false}
use Rattle.counting.proofs.Build.{length_build}
use Rattle.counting.proofs.Refuse.{refused, passed}
use Rattle.sizes.specs.Sizes.{table_rows}
use Rattle.sizes.proofs.Laws.{inside, table_le}
use Rattle.std.specs.Prelude.{Result, Err}
use Rattle.run.specs.declared.Run.{Run}
use Rattle.run.specs.declared.Next.{Next}
use Rattle.run.specs.State.{iterate_reply}
use Rattle.run.proofs.Blind.{iterate_blind}
use Rattle.runfile.specs.File.{table_row}
use Rattle.runfile.specs.Reply.{table_tests, table_refusal}
use Rattle.runfile.proofs.Laws.{table_passes}
use Rattle.listing.specs.File.{table_bytes, table_begins, bytes_of, table_of, refused_table}
use Rattle.listing.specs.Inside.{TakenTo, Underway, LeadsTo, Advanced}
use Rattle.listing.proofs.Heading.{first_refused, first_passed, leads_same}
use Rattle.listing.proofs.Sender.{taken_same}

module _ (n : ℕ) (bytes : List ℕ) (m : ℕ) (low : 1 ≤ n) (high : n ≤ 13) where
  -- a table that is not there whole is refused by 8
  pub table_short : length bytes - table_begins n m < table_bytes n → table_refusal n (bytes_of n bytes m) 4563 ≡ 8
  unfolding table_refusal table_tests bytes_of table_bytes
  table_short h =
      let left = drop (table_begins n m) bytes in
      let all : length left ≡ length bytes - table_begins n m = length-drop (table_begins n m) bytes in
      let cut : length (take (8 * table_rows n) left) ≡ length bytes - table_begins n m =
      ap length (take_all (8 * table_rows n) left (omega arith)) ∙ all in
      let other : length (take (8 * table_rows n) left) ≡ 8 * table_rows n → ⊥ = λ e. omega (arith, e, cut, h) in
      passed 4 _ (inside n low high) ∙ refused 8 _ (not_of_false (ne_eqb _ _ other))

  -- and a whole one is not refused
  pub table_long : table_bytes n ≤ length bytes - table_begins n m → length (bytes_of n bytes m) ≡ 8 * table_rows n
  unfolding bytes_of table_bytes
  table_long h =
      length-take-le (8 * table_rows n) (drop (table_begins n m) bytes)
      (omega (arith, length-drop (table_begins n m) bytes))

  pub table_good : table_bytes n ≤ length bytes - table_begins n m → table_refusal n (bytes_of n bytes m) 4563 ≡ 0
  table_good h =
      table_passes n (bytes_of n bytes m) 4563
      (record { inside = inside n low high; exact = table_long h; enough = table_le high })

module _ (s : Run) (bytes : List ℕ) (u : Underway s bytes) where
  pub cut_short : length bytes - table_begins s.n s.done < table_bytes s.n → Advanced s bytes (Err 8)
  unfolding refused_table
  cut_short h =
      let e = table_short s.n bytes s.done u.low u.high h in
      (sym (first_refused _ _ (λ z. absurd (omega (arith, e, z))) ∙ e), λ z. absurd (omega (arith, z)))

  -- the rows of the faulty senders, taken from the bytes of the table, lead to the reply of the table
  module _ (rows from : ℕ) (part table : List ℕ) (er : rows ≡ table_rows s.n) (ef : from
      ≡ table_begins s.n s.done)
      (whole : 8 * rows ≤ length bytes - from) (ep : part ≡ take (from + 8 * rows - from) (drop from bytes))
      (t : TakenTo s.n s.faulty part table s.n) (long : length table ≡ 4563) where
    enough : table_bytes s.n ≤ length bytes - table_begins s.n s.done
    unfolding table_bytes
    enough = omega (arith, er, ef, whole)

    same_part : part ≡ bytes_of s.n bytes s.done
    unfolding bytes_of table_bytes
    same_part =
        let size : from + 8 * rows - from ≡ 8 * rows = omega arith in
        ep ∙ rw (size, er, ef) refl

    same_length : length (table_of s.n bytes s.done) ≡ length (take (table_rows s.n) table)
    unfolding table_of
    same_length =
        length_build (table_rows s.n) (table_row (bytes_of s.n bytes s.done))
        ∙ sym (length-take-le (table_rows s.n) table (omega (arith, long, table_le u.high)))

    blind : iterate_reply s (table_of s.n bytes s.done) ≡ iterate_reply s (take (table_rows s.n) table)
    unfolding table_of
    blind =
        iterate_blind s (table_of s.n bytes s.done) (take (table_rows s.n) table)
        (taken_same s.n s.faulty (bytes_of s.n bytes s.done) table
        (subst (λ (p : List ℕ). TakenTo s.n s.faulty p table s.n) same_part t))
        same_length

    pub moved_on : (reply : Next) → reply ≡ iterate_reply s (take rows table) → (r : Result Run ℕ) →
        LeadsTo reply.refusal reply.run r → Advanced s bytes r
    unfolding refused_table
    moved_on reply e r leads =
        let is : reply ≡ iterate_reply s (table_of s.n bytes s.done) =
        e ∙ ap (λ (k : ℕ). iterate_reply s (take k table)) er ∙ sym blind in
        leads_same
        (ap (λ (q : Next). q.refusal) is
        ∙ sym (first_passed _ _ (table_good s.n bytes s.done u.low u.high enough)))
        (ap (λ (q : Next). q.run) is) r leads

-- The whole listing put together: the line of the start and those of the iterations are the lines before the last,
-- and with the last they are the listing; a file whose heading is refused has none but the last; and the listing is
-- copied to a slice that has room for it. Assumes nothing.
use mathlib.Core.Path.{◌≡◌, refl, sym, ap, subst, ◌∙◌}
use mathlib.Core.Bool.{Bool, true, false}
use mathlib.Core.List.{List, [], ◌++◌}
use Prim.Native.Nat.{ℕ, ◌+◌, ◌≤◌, ◌<◌}
use native.Mathlib.Nat.{le_refl}
use native.Mathlib.Omega.{arith}
use lib.Dec.{ltb}
use lib.ListN.{length, take, drop}
use lib.Seq.{take_all}
use borrow.Author.Tests.{eq-eqb, ne_eqb, lt-ltb, le-ltb, ltb-false}
use Rattle.counting.proofs.Bools.{cond_true, cond_false}
use Rattle.std.specs.Prelude.{Ok, Err}
use Rattle.run.specs.declared.Run.{Run}
use Rattle.run.specs.declared.Next.{Next}
use Rattle.run.specs.State.{start_run, zeros}
use Rattle.lines.specs.Line.{placed}
use Rattle.listing.specs.File.{table_begins, heading, rows_of, state_after, refused_start}
use Rattle.listing.specs.Inside.{Started, Ended}
use Rattle.listing.specs.Listing.{
  run_line,
  last_line,
  ended_by,
  done_of,
  iteration_lines,
  ends_with,
  start_line,
  first_lines,
  outcome_of,
  listing_of,
  list_reply,
  list_writes,
}
use Rattle.listing.proofs.Heading.{
  first_refused,
  heading_good,
  heading_low,
  heading_high,
  heading_few,
  heading_whole,
  start_state,
}

-- a refusal brings zeros, whatever the state
ended_zeros : (refusal : ℕ) (s q : Run) → (refusal ≡ 0 → ⊥) → ended_by refusal s ≡ ended_by refusal q
unfolding ended_by
ended_zeros refusal s q h = rw (ne_eqb refusal 0 h) refl

module _ (bytes : List ℕ) where
  -- where the heading or the start is refused
  module _ (h : refused_start bytes ≡ 0 → ⊥) where
    pub early_outcome : (refusal : ℕ) (s : Run) → refusal ≡ refused_start bytes → ended_by refusal s ≡ outcome_of bytes
    unfolding outcome_of ends_with
    early_outcome refusal s e =
        ap (λ (k : ℕ). ended_by k s) (e ∙ sym (first_refused _ _ h))
        ∙ ended_zeros _ s _ (λ z. h (sym (first_refused _ _ h) ∙ z))

    pub early_ends : (refusal : ℕ) → refusal ≡ refused_start bytes → refusal ≡ ends_with bytes
    unfolding ends_with
    early_ends refusal e = e ∙ sym (first_refused _ _ h)

    pub early_lines : first_lines bytes ≡ []
    unfolding first_lines
    early_lines = cond_false _ _ (ne_eqb _ 0 h)

  -- where neither is
  module _ (ok : refused_start bytes ≡ 0) where
    started_at : Started (start_run (heading bytes).n (heading bytes).t (heading bytes).faulty (rows_of bytes)) bytes
    unfolding start_run table_begins
    started_at =
        let good = heading_good bytes ok in
        record {
          passed = ok;
          is = sym (start_state bytes good);
          low = heading_low bytes good;
          high = heading_high bytes good;
          few = omega (arith, heading_few bytes good, heading_high bytes good);
          fresh = refl;
          same_n = refl;
          same_t = refl;
          behind = omega (arith, heading_whole bytes good);
        }

    pub is_started : (s : Run) → s ≡ state_after bytes 0 → Started s bytes
    is_started s e =
        subst (λ (q : Run). Started q bytes) (sym (e ∙ start_state bytes (heading_good bytes ok))) started_at

    pub all_lines : (s : Run) → s ≡ state_after bytes 0 →
        run_line s.n s.t s.faulty ++ iteration_lines bytes (done_of bytes) ≡ first_lines bytes
    unfolding first_lines start_line
    all_lines s e =
        ap (λ (q : Run). run_line q.n q.t q.faulty ++ iteration_lines bytes (done_of bytes)) e
        ∙ sym (cond_true _ _ (eq-eqb _ 0 ok))

  -- the outcome of a file that is told to its end, and of one that is refused
  pub outcome_sent : (s : Run) → Ended bytes (Ok s) → record { refusal = 0; run = s } ≡ outcome_of bytes
  unfolding outcome_of ended_by
  outcome_sent s e = rw (e.0, e.1) refl

  pub outcome_refused : (refusal : ℕ) → Ended bytes (Err refusal) →
      record { refusal = refusal; run = zeros } ≡ outcome_of bytes
  unfolding outcome_of ended_by
  outcome_refused refusal e = rw (← e.0, ne_eqb refusal 0 e.1) refl

  -- the last line behind the others
  pub with_last : (r : Next) → r ≡ outcome_of bytes →
      first_lines bytes ++ last_line r.refusal r.run.sent ≡ listing_of bytes
  unfolding listing_of
  with_last r e = ap (λ (q : Next). first_lines bytes ++ last_line q.refusal q.run.sent) e

  pub outcome_ends : (outcome_of bytes).refusal ≡ ends_with bytes
  unfolding outcome_of ended_by
  outcome_ends = refl

  -- the reply, and the slice
  pub list_refused : (room : ℕ) → room < length (listing_of bytes) →
      record { refusal = 10; size = 0; ends = 0 } ≡ list_reply bytes room
  unfolding list_reply
  list_refused room l = sym (cond_true _ _ (lt-ltb _ _ l))

  -- what is written lies within the slice
  pub list_within : (room : ℕ) → (list_reply bytes room).size ≤ room
  unfolding list_reply
  list_within room = go (ltb room (length (listing_of bytes))) refl
    where
      go : (b : Bool) → ltb room (length (listing_of bytes)) ≡ b → (list_reply bytes room).size ≤ room
      go true e = rw e (omega arith)
      go false e = rw e (ltb-false _ _ e)

  pub list_leaves : (slice : List ℕ) → length slice < length (listing_of bytes) → slice ≡ list_writes bytes slice
  unfolding list_writes
  list_leaves slice l = sym (cond_true _ _ (lt-ltb _ _ l))

  pub list_given : (room size ends : ℕ) → length (listing_of bytes) ≤ room → size ≡ length (listing_of bytes) →
      ends ≡ ends_with bytes → record { refusal = 0; size = size; ends = ends } ≡ list_reply bytes room
  unfolding list_reply
  list_given room size ends l es ee =
      (λ i. record { refusal = 0; size = es i; ends = ee i }) ∙ sym (cond_false _ _ (le-ltb _ _ l))

  list_written : (slice : List ℕ) → length (listing_of bytes) ≤ length slice →
      listing_of bytes ++ drop (length (listing_of bytes)) slice ≡ list_writes bytes slice
  unfolding list_writes placed
  list_written slice l =
      let none : length (listing_of bytes) ≡ 0 + length (listing_of bytes) = omega arith in
      ap (λ (k : ℕ). listing_of bytes ++ drop k slice) none ∙ sym (cond_false _ _ (le-ltb _ _ l))

  -- a copy of it to the front of a slice
  pub list_copied : (text slice last : List ℕ) → text ≡ listing_of bytes → length (listing_of bytes) ≤ length slice →
      last ≡ take (length text) text ++ drop (length text) slice → last ≡ list_writes bytes slice
  list_copied text slice last e l w =
      let all : take (length text) text ≡ text = take_all (length text) text (le_refl _) in
      w
      ∙ ap (λ (front : List ℕ). front ++ drop (length text) slice) all
      ∙ ap (λ (t : List ℕ). t ++ drop (length t) slice) e
      ∙ list_written slice l

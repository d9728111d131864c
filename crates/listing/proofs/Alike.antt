-- Two files with the same heading, whose tables are refused alike and say the same of the faulty boxes, and of which
-- both go on or neither, have the same listing and the same outcome: the replies are the same after each iteration,
-- so the first refusal is, and the lines are. Files that differ only in sound senders' places are such.
-- Assumes nothing.
use mathlib.Core.Path.{◌≡◌, refl, sym, ap, ap₂, subst, ◌∙◌}
use mathlib.Core.Bool.{Bool, true, false, cond, ◌&&◌}
use mathlib.Core.List.{List, [], ◌++◌}
use Prim.Native.Nat.{ℕ, zero, suc, ◌+◌, ◌-◌, ◌≤◌, ◌<◌, min}
use native.Mathlib.Nat.{le_refl}
use native.Mathlib.Decide.{ℕ_discrete}
use native.Mathlib.Omega.{arith}
use lib.Dec.{eqb, ltb}
use borrow.Author.Tests.{ltb-true}
use lib.ListN.{length, drop, length-take, length-drop}
use Rattle.counting.proofs.Build.{length_build}
use Rattle.counting.proofs.Count.{lower}
use Rattle.sizes.specs.Sizes.{table_rows}
use Rattle.gradecast.specs.Lies.{SameLies}
use Rattle.run.specs.declared.Run.{Run}
use Rattle.run.specs.declared.Next.{Next}
use Rattle.run.specs.State.{start_run, start_reply, zeros, after}
use Rattle.run.proofs.Blind.{after_blind}
use Rattle.runfile.specs.declared.Heading.{Heading}
use Rattle.runfile.specs.File.{table_row}
use Rattle.runfile.specs.Reply.{table_tests, table_refusal}
use Rattle.listing.specs.File.{
  or_else,
  table_bytes,
  table_begins,
  bytes_of,
  table_of,
  refused_table,
  heading,
  rows_of,
  reply_after,
  state_after,
  refused_start,
  refused_at,
  due,
  goes_on,
}
use Rattle.listing.specs.Files.{SameButSound}
use Rattle.listing.specs.Listing.{
  ended_by,
  passed,
  box_lines,
  run_line,
  last_line,
  done_of,
  iteration_lines,
  refused_later,
  ends_with,
  start_line,
  first_lines,
  outcome_of,
  listing_of,
}
use Rattle.listing.proofs.Heading.{heading_good, start_state}
use Rattle.listing.proofs.Iterations.{passed_most}
use Rattle.listing.proofs.Whole.{early_outcome, early_lines}

-- what two files have in common: the rest of it only where the heading is not refused
pub record Alike (a b : List ℕ) : Type 0 where
  pub headings : heading a ≡ heading b
  pub rows : rows_of a ≡ rows_of b
  pub refusals : refused_start a ≡ 0 → (m : ℕ) → m < due a →
      table_refusal (heading a).n (bytes_of (heading a).n a m) 4563
      ≡ table_refusal (heading a).n (bytes_of (heading a).n b m) 4563
  pub lies : refused_start a ≡ 0 → (m : ℕ) → m < due a →
      SameLies (heading a).n (heading a).faulty (table_of (heading a).n a m) (table_of (heading a).n b m)
  pub ends : refused_start a ≡ 0 → goes_on a ≡ goes_on b

passed_ext : (f g : ℕ → ℕ) (k : ℕ) → ((m : ℕ) → m < k → f m ≡ g m) → passed f k ≡ passed g k
unfolding passed
passed_ext f g zero h = refl
passed_ext f g (suc k) h =
    ap₂ (λ (p r : ℕ). p + cond (eqb p k && eqb r 0) 1 0) (passed_ext f g k (lower k h)) (h k (le_refl _))

module _ (a b : List ℕ) (s : Alike a b) where
  first_same : start_reply (heading a).n (heading a).t (heading a).faulty (rows_of a)
      ≡ start_reply (heading b).n (heading b).t (heading b).faulty (rows_of b)
  first_same =
      ap₂ (λ (h : Heading) (xs : List ℕ). start_reply h.n h.t h.faulty xs) s.headings s.rows

  start_same : refused_start a ≡ refused_start b
  unfolding refused_start reply_after after
  start_same = ap₂ (λ (h : Heading) (r : Next). or_else h.refusal r.refusal) s.headings first_same

  due_same : due a ≡ due b
  unfolding due
  due_same = ap (λ (h : Heading). h.t + 1) s.headings

  module _ (ok : refused_start a ≡ 0) where
    long : (n : ℕ) (xs : List ℕ) (m : ℕ) → length (table_of n xs m) ≡ table_rows n
    unfolding table_of
    long n xs m = length_build (table_rows n) (table_row (bytes_of n xs m))

    -- the start keeps n and the faulty set
    lies_first : (j : ℕ) → j < due a →
        SameLies (start_reply (heading a).n (heading a).t (heading a).faulty (rows_of a)).run.n
        (start_reply (heading a).n (heading a).t (heading a).faulty (rows_of a)).run.faulty
        (table_of (heading a).n a j) (table_of (heading a).n b j)
    unfolding start_run state_after reply_after after
    lies_first j lj =
        subst (λ (q : Run). SameLies q.n q.faulty (table_of (heading a).n a j) (table_of (heading a).n b j))
        (sym (start_state a (heading_good a ok))) (s.lies ok j lj)

    reply_same : (m : ℕ) → m ≤ due a → reply_after a m ≡ reply_after b m
    unfolding reply_after
    reply_same m l =
        let first = start_reply (heading a).n (heading a).t (heading a).faulty (rows_of a) in
        after_blind first (table_of (heading a).n a) (table_of (heading a).n b) m
        (λ j lj. (lies_first j (omega arith), long (heading a).n a j ∙ sym (long (heading a).n b j)))
        ∙ ap₂ (λ (r : Next) (n : ℕ). after r (table_of n b) m) first_same (ap (λ (h : Heading). h.n) s.headings)

    state_same : (m : ℕ) → m ≤ due a → state_after a m ≡ state_after b m
    unfolding state_after
    state_same m l = ap (λ (r : Next). r.run) (reply_same m l)

    refused_same : (m : ℕ) → m < due a → refused_at a m ≡ refused_at b m
    unfolding refused_at refused_table
    refused_same m l =
        let n_same = ap (λ (h : Heading). h.n) s.headings in
        ap₂ or_else
        (s.refusals ok m l ∙ ap (λ (n : ℕ). table_refusal n (bytes_of n b m) 4563) n_same)
        (ap (λ (r : Next). r.refusal) (reply_same (suc m) l))

    done_same : done_of a ≡ done_of b
    unfolding done_of
    done_same =
        passed_ext (refused_at a) (refused_at b) (due a) refused_same ∙ ap (passed (refused_at b)) due_same

    done_few : done_of a ≤ due a
    unfolding done_of
    done_few = passed_most (refused_at a) (due a)

    lines_same : (k : ℕ) → k ≤ due a → iteration_lines a k ≡ iteration_lines b k
    unfolding iteration_lines
    lines_same zero l = refl
    lines_same (suc k) l =
        ap₂ (λ (xs : List ℕ) (q : Run). xs ++ box_lines q q.n) (lines_same k (omega arith)) (state_same (suc k) l)

    later_same : refused_later a ≡ refused_later b
    unfolding refused_later
    later_same =
        go (ltb (done_of a) (due a)) refl
        ∙ ap₂ (λ (d k : ℕ). cond (ltb d k) (refused_at b (done_of b)) (cond (goes_on b) 8 0)) done_same due_same
      where
        go : (t : Bool) → ltb (done_of a) (due a) ≡ t →
            cond t (refused_at a (done_of a)) (cond (goes_on a) 8 0)
            ≡ cond t (refused_at b (done_of b)) (cond (goes_on b) 8 0)
        go true e = refused_same (done_of a) (ltb-true (done_of a) (due a) e) ∙ ap (refused_at b) done_same
        go false e = ap (λ (t : Bool). cond t 8 0) (s.ends ok)

    ends_same : ends_with a ≡ ends_with b
    unfolding ends_with
    ends_same = ap₂ or_else start_same later_same

    outcome_good : outcome_of a ≡ outcome_of b
    unfolding outcome_of
    outcome_good = ap₂ ended_by ends_same (state_same (done_of a) done_few ∙ ap (state_after b) done_same)

    first_good : first_lines a ≡ first_lines b
    unfolding first_lines start_line
    first_good =
        let lines = lines_same (done_of a) done_few ∙ ap (iteration_lines b) done_same in
        ap (λ (k : ℕ). cond (eqb k 0) (start_line a ++ iteration_lines a (done_of a)) []) start_same
        ∙ ap₂ (λ (q : Run) (xs : List ℕ). cond (eqb (refused_start b) 0) (run_line q.n q.t q.faulty ++ xs) [])
        (state_same 0 (omega arith)) lines

  -- where the heading or the start is refused, nothing else matters
  module _ (h : refused_start a ≡ 0 → ⊥) where
    other : refused_start b ≡ 0 → ⊥
    other z = h (start_same ∙ z)

    outcome_bad : outcome_of a ≡ outcome_of b
    outcome_bad =
        sym (early_outcome a h (refused_start a) zeros refl)
        ∙ ap (λ (k : ℕ). ended_by k zeros) start_same
        ∙ early_outcome b other (refused_start b) zeros refl

    first_bad : first_lines a ≡ first_lines b
    first_bad = early_lines a h ∙ sym (early_lines b other)

  pub alike_outcome : outcome_of a ≡ outcome_of b
  alike_outcome = go (ℕ_discrete (refused_start a) 0)
    where
      go : Dec (refused_start a ≡ 0) → outcome_of a ≡ outcome_of b
      go (yes e) = outcome_good e
      go (no d) = outcome_bad d

  first_alike : first_lines a ≡ first_lines b
  first_alike = go (ℕ_discrete (refused_start a) 0)
    where
      go : Dec (refused_start a ≡ 0) → first_lines a ≡ first_lines b
      go (yes e) = first_good e
      go (no d) = first_bad d

  pub alike_listing : listing_of a ≡ listing_of b
  unfolding listing_of
  alike_listing =
      ap₂ (λ (xs : List ℕ) (r : Next). xs ++ last_line r.refusal r.run.sent) first_alike alike_outcome

-- a table is refused by how many bytes it has
refusal_same : (n : ℕ) (xs ys : List ℕ) (room : ℕ) → length xs ≡ length ys →
    table_refusal n xs room ≡ table_refusal n ys room
unfolding table_refusal table_tests
refusal_same n xs ys room e = rw e refl

-- two files that differ only in sound senders' places
module _ (a b : List ℕ) (s : SameButSound a b) where
  table_same : (m : ℕ) → length (bytes_of (heading a).n a m) ≡ length (bytes_of (heading a).n b m)
  unfolding bytes_of
  table_same m =
      let at = table_begins (heading a).n m in
      let left : length (drop at a) ≡ length (drop at b) =
      length-drop at a ∙ ap (λ (k : ℕ). k - at) s.same_length ∙ sym (length-drop at b) in
      length-take (table_bytes (heading a).n) (drop at a)
      ∙ ap (min (table_bytes (heading a).n)) left
      ∙ sym (length-take (table_bytes (heading a).n) (drop at b))

  alike : Alike a b
  unfolding goes_on due
  alike =
      record {
        headings = s.same_heading;
        rows = s.same_rows;
        refusals = λ ok m l. refusal_same (heading a).n _ _ 4563 (table_same m);
        lies = λ ok m l. s.same_lies m l;
        ends =
            λ ok.
            ap₂ (λ (h : Heading) (k : ℕ). ltb (table_begins h.n (h.t + 1)) k) s.same_heading s.same_length;
      }

  pub listing_blind : listing_of a ≡ listing_of b
  listing_blind = alike_listing a b alike

  pub outcome_blind : outcome_of a ≡ outcome_of b
  outcome_blind = alike_outcome a b alike

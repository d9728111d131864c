-- A file's run underway: after m iterations the state is the one that the definitions give, no table before was
-- refused, and the file has that many whole tables. The next table leads on or is refused; so the run stops where the
-- listing ends. Assumes nothing.
use mathlib.Core.Path.{◌≡◌, refl, sym, ap, ap₂, subst, ◌∙◌}
use mathlib.Core.Bool.{Bool, true, false, cond, ◌&&◌}
use mathlib.Core.List.{List, ◌++◌}
use mathlib.Core.Logic.{⊎_elim}
use Prim.Native.Nat.{ℕ, zero, suc, ◌+◌, ◌-◌, ◌≤◌, ◌<◌}
use native.Mathlib.Nat.{le_refl, suc-mul}
use native.Mathlib.Numerals.{add-one}
use native.Mathlib.Omega.{arith}
use lib.Dec.{eqb, ltb}
use lib.ListN.{length}
use borrow.Author.Tests.{eq-eqb, ne_eqb, lt-ltb, le-ltb, ltb-true, ltb-false}
use Rattle.counting.proofs.Bools.{both, cond_true, cond_false, and_false_right, either}
use Rattle.counting.proofs.Count.{at_or_below}
use Rattle.std.specs.Prelude.{Ok, Err}
use Rattle.run.specs.declared.Run.{Run}
use Rattle.run.specs.declared.Next.{Next}
use Rattle.run.specs.Iteration.{next_run}
use Rattle.run.specs.State.{iterate_refusal, iterate_reply, after}
use Rattle.runfile.specs.Reply.{table_refusal}
use Rattle.listing.specs.File.{
  table_bytes,
  table_begins,
  bytes_of,
  table_of,
  refused_table,
  heading,
  reply_after,
  state_after,
  refused_start,
  refused_at,
  due,
  goes_on,
}
use Rattle.listing.specs.Inside.{Underway, Advanced, Started, Ended, with_parts}
use Rattle.listing.specs.Listing.{passed, box_line, box_lines, iteration_lines, done_of, refused_later, ends_with}
use Rattle.listing.proofs.Heading.{
  first_passed,
  none_refused,
  heading_good,
  heading_low,
  heading_high,
  heading_few,
}
use Rattle.listing.proofs.Table.{table_short}

-- the first of many that is refused
module _ (f : ℕ → ℕ) where
  pub passed_turn : (m : ℕ) → passed f m ≡ m → f m ≡ 0 → passed f (suc m) ≡ suc m
  unfolding passed
  passed_turn m h e =
      ap (λ (k : ℕ). passed f m + k) (cond_true 1 0 (both (eq-eqb (passed f m) m h) (eq-eqb (f m) 0 e)))
      ∙ omega (arith, h)

  -- never more than there are
  pub passed_most : (k : ℕ) → passed f k ≤ k
  unfolding passed
  passed_most zero = le_refl _
  passed_most (suc k) = more (eqb (passed f k) k && eqb (f k) 0) (passed f k) k (passed_most k)
    where
      more : (t : Bool) (p j : ℕ) → p ≤ j → p + cond t 1 0 ≤ suc j
      more true p j l = omega arith
      more false p j l = omega arith

  -- one that is refused is the last that counts
  pub passed_stops : (m k : ℕ) → passed f m ≡ m → (f m ≡ 0 → ⊥) → m ≤ k → passed f k ≡ m
  unfolding passed
  passed_stops m zero h e l = omega arith
  passed_stops m (suc k) h e l =
      ⊎_elim
      (λ at. ap (passed f) (sym at) ∙ h)
      (λ below.
      let before = passed_stops m k h e (omega arith) in
      let none : (eqb (passed f k) k && eqb (f k) 0) ≡ false = stopped k before (omega arith) in
      ap (λ (j : ℕ). passed f k + j) (cond_false 1 0 none) ∙ omega (arith, before))
      (at_or_below m (suc k) (omega arith))
    where
      stopped : (k : ℕ) → passed f k ≡ m → m ≤ k → (eqb (passed f k) k && eqb (f k) 0) ≡ false
      stopped k before l =
          ⊎_elim
          (λ at. and_false_right (eqb (passed f k) k) (ne_eqb (f k) 0 (λ z. e (ap f at ∙ z))))
          (λ below. rw (ne_eqb (passed f k) k (λ z. omega (arith, z, before, below))) refl)
          (at_or_below m k (omega arith))

-- an iteration that is not refused keeps n and t and is one more done
pub iterate_next : (s : Run) (table : List ℕ) → (iterate_reply s table).refusal ≡ 0 →
    ((iterate_reply s table).run.n ≡ s.n) × ((iterate_reply s table).run.t ≡ s.t)
    × ((iterate_reply s table).run.done ≡ s.done + 1)
unfolding iterate_reply next_run
iterate_next s table e = rw (eq-eqb (iterate_refusal s table) 0 e) (refl, refl, refl)

-- the state after so many iterations as it says, none of which was refused
pub record Going (bytes : List ℕ) (s : Run) : Type 0 where
  pub ok : refused_start bytes ≡ 0
  pub is : s ≡ state_after bytes s.done
  pub good : passed (refused_at bytes) s.done ≡ s.done
  pub same_n : s.n ≡ (heading bytes).n
  pub same_t : s.t ≡ (heading bytes).t
  pub few : s.done ≤ s.t + 1
  pub behind : table_begins s.n s.done ≤ length bytes

pub started_going : (bytes : List ℕ) (s : Run) → Started s bytes → Going bytes s
unfolding passed
started_going bytes s a =
    record {
      ok = a.passed;
      is = a.is ∙ ap (state_after bytes) (sym a.fresh);
      good = rw a.fresh refl;
      same_n = a.same_n;
      same_t = a.same_t;
      few = omega (arith, a.fresh);
      behind = rw a.fresh a.behind;
    }

module _ (bytes : List ℕ) (s : Run) (g : Going bytes s) where
  ok_heading : (heading bytes).refusal ≡ 0
  ok_heading = heading_good bytes g.ok

  pub going_low : 1 ≤ s.n
  going_low = omega (arith, heading_low bytes ok_heading, g.same_n)

  pub going_high : s.n ≤ 13
  going_high = omega (arith, heading_high bytes ok_heading, g.same_n)

  pub going_few : s.t ≤ 4
  going_few = omega (arith, heading_few bytes ok_heading, heading_high bytes ok_heading, g.same_t)

  pub underway : s.done ≤ s.t → Underway s bytes
  underway l = record { low = going_low; high = going_high; few = omega (arith, going_few); behind = g.behind }

  -- the reply to the next table is the one that the definitions name
  next_reply : iterate_reply s (table_of s.n bytes s.done) ≡ reply_after bytes (suc s.done)
  unfolding reply_after after state_after
  next_reply =
      ap₂ (λ (q : Run) (n : ℕ). iterate_reply q (table_of n bytes s.done)) g.is g.same_n

  refused_here : refused_table s.n bytes s.done (iterate_reply s (table_of s.n bytes s.done)).refusal
      ≡ refused_at bytes s.done
  unfolding refused_at
  refused_here = ap₂ (λ (n : ℕ) (q : Next). refused_table n bytes s.done q.refusal) g.same_n next_reply

  -- a table that leads on
  module _ (r : Run) (a : Advanced s bytes (Ok r)) where
    next_none : (table_refusal s.n (bytes_of s.n bytes s.done) 4563 ≡ 0)
        × ((iterate_reply s (table_of s.n bytes s.done)).refusal ≡ 0)
    unfolding refused_table
    next_none = none_refused _ _ a.0

    pub next_kept : (r.n ≡ s.n) × (r.t ≡ s.t) × (r.done ≡ s.done + 1)
    next_kept =
        subst (λ (q : Run). (q.n ≡ s.n) × (q.t ≡ s.t) × (q.done ≡ s.done + 1)) (sym a.1)
        (iterate_next s (table_of s.n bytes s.done) next_none.1)

    -- the table was whole
    next_whole : table_bytes s.n ≤ length bytes - table_begins s.n s.done
    next_whole =
        ⊎_elim
        (λ t.
        absurd
        (omega (
          arith,
          next_none.0,
          table_short s.n bytes s.done going_low going_high
              (ltb-true (length bytes - table_begins s.n s.done) _ t),
        )))
        (λ f. ltb-false (length bytes - table_begins s.n s.done) (table_bytes s.n) f)
        (either (ltb (length bytes - table_begins s.n s.done) (table_bytes s.n)))

    next_done : r.done ≡ suc s.done
    next_done = next_kept.2 ∙ add-one s.done

    next_state : r ≡ state_after bytes (suc s.done)
    unfolding state_after
    next_state = a.1 ∙ ap (λ (q : Next). q.run) next_reply

    next_behind : table_begins s.n (suc s.done) ≤ length bytes
    unfolding table_begins
    next_behind = omega (arith, g.behind, next_whole, suc-mul s.done (table_bytes s.n))

    pub going_on : s.done ≤ s.t → Going bytes r
    going_on l =
        record {
          ok = g.ok;
          is = next_state ∙ ap (state_after bytes) (sym next_done);
          good =
              ap (passed (refused_at bytes)) next_done
              ∙ passed_turn (refused_at bytes) s.done g.good (sym refused_here ∙ a.0)
              ∙ sym next_done;
          same_n = next_kept.0 ∙ g.same_n;
          same_t = next_kept.1 ∙ g.same_t;
          few = omega (arith, next_kept);
          behind = rw (next_kept.0, next_done) next_behind;
        }

    -- the lines of one more iteration
    pub lines_turn : iteration_lines bytes r.done ≡ iteration_lines bytes s.done ++ box_lines r r.n
    unfolding iteration_lines
    lines_turn =
        ap (iteration_lines bytes) next_done
        ∙ ap (λ (q : Run). iteration_lines bytes s.done ++ box_lines q q.n) (sym next_state)

  -- a table that is refused is where the listing ends
  module _ (l : s.done ≤ s.t) (refusal : ℕ) (a : Advanced s bytes (Err refusal)) where
    pub stopped_done : done_of bytes ≡ s.done
    unfolding done_of due
    stopped_done =
        passed_stops (refused_at bytes) s.done ((heading bytes).t + 1) g.good
        (λ z. a.1 (a.0 ∙ refused_here ∙ z))
        (omega (arith, g.same_t))

    later : refused_later bytes ≡ refusal
    unfolding refused_later due
    later =
        let before : done_of bytes < (heading bytes).t + 1 = omega (arith, stopped_done, g.same_t) in
        cond_true _ _ (lt-ltb _ _ before) ∙ ap (refused_at bytes) stopped_done ∙ sym (a.0 ∙ refused_here)

    pub stopped_ends : Ended bytes (Err refusal)
    unfolding ends_with
    stopped_ends = (sym (first_passed _ _ g.ok ∙ later), a.1)

  -- and so is the end of the last table
  module _ (l : s.t < s.done) where
    all_due : s.done ≡ due bytes
    unfolding due
    all_due = omega (arith, g.few, g.same_t)

    pub finished_done : done_of bytes ≡ s.done
    unfolding done_of
    finished_done = ap (passed (refused_at bytes)) (sym all_due) ∙ g.good

    -- where nothing is behind it but what the file goes on with
    pub finished_ends : cond (ltb (table_begins s.n s.done) (length bytes)) 8 0 ≡ ends_with bytes
    unfolding ends_with refused_later goes_on
    finished_ends =
        let none = le-ltb (done_of bytes) (due bytes) (omega (arith, finished_done, all_due)) in
        sym
        (first_passed (refused_start bytes) (refused_later bytes) g.ok
        ∙ cond_false (refused_at bytes (done_of bytes)) (cond (goes_on bytes) 8 0) none
        ∙ ap₂ (λ (n k : ℕ). cond (ltb (table_begins n k) (length bytes)) 8 0) (sym g.same_n) (sym all_due))

    pub finished_state : s ≡ state_after bytes (done_of bytes)
    finished_state = g.is ∙ ap (state_after bytes) (sym finished_done)

-- the lines of a state's boxes go by these parts alone
pub lines_by : (s : Run) (k : ℕ) → box_lines (with_parts s.faulty s.done s.rows s.lists) k ≡ box_lines s k
unfolding box_lines box_line with_parts
lines_by s zero = refl
lines_by s (suc k) = ap (λ (lines : List ℕ). lines ++ box_line s k) (lines_by s k)

-- A file that is taken, that is, whose listing ends with `sent`: all its iterations are done, and the outcome is the
-- state after them. So what the agreement promises of a run, demand 3 and why a box is listed, it promises of the
-- file. And how a listing ends: with `sent` and the outcome's messages where the outcome has no refusal, with
-- `refused` and its number where it has one, and never with both. Assumes nothing.
use mathlib.Core.Path.{◌≡◌, refl, sym, ap, subst, ◌∙◌}
use mathlib.Core.Bool.{false, ◌&&◌}
use mathlib.Core.List.{List, [], ◌∷◌, ◌++◌}
use Prim.Native.Nat.{ℕ, zero, suc, ◌+◌, ◌≤◌, ◌<◌}
use native.Mathlib.Nat.{le_refl}
use native.Mathlib.Decide.{ℕ_discrete}
use native.Mathlib.Omega.{arith}
use lib.Dec.{eqb}
use lib.ListN.{get_or}
use borrow.Author.Tests.{eq-eqb, ne_eqb, lt-ltb}
use Rattle.counting.proofs.Bools.{cond_true, cond_false, not_both}
use Rattle.counting.proofs.Build.{length_build}
use Rattle.sizes.specs.Sizes.{table_rows}
use Rattle.sizes.proofs.Laws.{within_lt}
use Rattle.gradecast.specs.Fair.{faulty_boxes}
use Rattle.run.specs.declared.Run.{Run}
use Rattle.run.specs.Iteration.{reason_at}
use Rattle.run.proofs.Accepted.{rows_not_zero}
use Rattle.run.proofs.Calls.{calls_exist}
use Rattle.agreement.specs.Demand.{Premises}
use Rattle.agreement.specs.Reasons.{Reasoned}
use Rattle.agreement.proofs.Agreement.{replies_keep}
use Rattle.agreement.proofs.Reasons.{reasons_true}
use Rattle.runfile.specs.File.{table_row}
use Rattle.lines.specs.Line.{line_of}
use Rattle.listing.specs.File.{
  heading,
  rows_of,
  bytes_of,
  table_of,
  reply_after,
  state_after,
  refused_start,
  refused_at,
  due,
}
use Rattle.listing.specs.Files.{Demand3Of, ReasonedOf}
use Rattle.listing.specs.Listing.{
  sent_word,
  refused_word,
  last_line,
  ended_by,
  passed,
  done_of,
  refused_later,
  ends_with,
  first_lines,
  outcome_of,
  listing_of,
}
use Rattle.listing.proofs.Heading.{
  none_refused,
  heading_good,
  heading_low,
  heading_high,
  heading_few,
  heading_starts,
}
use Rattle.listing.proofs.Iterations.{passed_turn, passed_stops}

not_zero : (row : ℕ) → (row ≡ 0 → ⊥) → 1 ≤ row
not_zero zero h = absurd (h refl)
not_zero (suc row) h = omega arith

-- all are passed, or the first that is not is refused
pub data Ends (f : ℕ → ℕ) (k : ℕ) : Type 0 where
  all : passed f k ≡ k → Ends f k
  one : passed f k < k → (f (passed f k) ≡ 0 → ⊥) → Ends f k

passed_stays : (f : ℕ → ℕ) (k : ℕ) → passed f k < k → passed f (suc k) ≡ passed f k
unfolding passed
passed_stays f k l =
    let none : (eqb (passed f k) k && eqb (f k) 0) ≡ false =
    not_both (eqb (f k) 0) (ne_eqb (passed f k) k (λ z. omega (arith, z))) in
    ap (λ (j : ℕ). passed f k + j) (cond_false 1 0 none) ∙ omega arith

ends_next : (f : ℕ → ℕ) (k : ℕ) → Ends f k → Ends f (suc k)
ends_next f k (Ends.one l h) =
    let same = passed_stays f k l in
    Ends.one (omega (arith, same)) (λ z. h (ap f (sym same) ∙ z))
ends_next f k (Ends.all e) = here (ℕ_discrete (f k) 0)
  where
    here : Dec (f k ≡ 0) → Ends f (suc k)
    here (yes z) = Ends.all (passed_turn f k e z)
    here (no d) =
        let same = passed_stops f k (suc k) e d (omega arith) in
        Ends.one (omega (arith, same)) (λ z. d (ap f (sym same) ∙ z))

pub passed_ends : (f : ℕ → ℕ) (k : ℕ) → Ends f k
unfolding passed
passed_ends f zero = Ends.all refl
passed_ends f (suc k) = ends_next f k (passed_ends f k)

-- a refusal before all are done is the listing's
early : (bytes : List ℕ) → done_of bytes < due bytes → refused_later bytes ≡ 0 → refused_at bytes (done_of bytes) ≡ 0
unfolding refused_later
early bytes l z = sym (cond_true _ _ (lt-ltb _ _ l)) ∙ z

module _ (bytes : List ℕ) where
  -- a file that is taken: its heading is good and all its iterations are done
  module _ (taken : ends_with bytes ≡ 0) where
    ok : refused_start bytes ≡ 0
    unfolding ends_with
    ok = (none_refused _ _ taken).0

    later : refused_later bytes ≡ 0
    unfolding ends_with
    later = (none_refused _ _ taken).1

    all_done : done_of bytes ≡ due bytes
    unfolding done_of
    all_done = go (passed_ends (refused_at bytes) (due bytes)) later
      where
        go : Ends (refused_at bytes) (due bytes) → refused_later bytes ≡ 0 →
            passed (refused_at bytes) (due bytes) ≡ due bytes
        go (Ends.all e) z = e
        go (Ends.one l h) z = absurd (h (early bytes l z))

    good : (heading bytes).refusal ≡ 0
    good = heading_good bytes ok

    outcome_run : (outcome_of bytes).run ≡ state_after bytes (due bytes)
    unfolding outcome_of ended_by
    outcome_run = cond_true _ _ (eq-eqb _ 0 taken) ∙ ap (state_after bytes) all_done

    setting : faulty_boxes (heading bytes).n (heading bytes).faulty ≤ (heading bytes).t →
        Premises (heading bytes).n (heading bytes).t (heading bytes).faulty (rows_of bytes)
        (table_of (heading bytes).n bytes)
    unfolding table_of
    setting few =
        let s = heading_starts bytes good in
        record {
          from_1 = heading_low bytes good;
          to_13 = heading_high bytes good;
          tolerated = heading_few bytes good;
          within = within_lt _ _ s.pass6;
          few = few;
          given = s.pass11;
          none_zero = λ k b. not_zero _ (rows_not_zero _ _ _ s.pass9 k b);
          sized = λ m l. length_build (table_rows (heading bytes).n) (table_row (bytes_of (heading bytes).n bytes m));
        }

    -- demand 3 of the outcome that the definition gives
    pub outcome_keeps : faulty_boxes (heading bytes).n (heading bytes).faulty ≤ (heading bytes).t →
        Demand3Of bytes (outcome_of bytes).run
    unfolding state_after reply_after due
    outcome_keeps few =
        let d = replies_keep _ _ _ _ _ (setting few) in
        let last = (heading bytes).t + 1 in
        subst (Demand3Of bytes) (sym outcome_run)
        (record {
          agrees = d.agrees;
          valid = λ v h. d.valid v h last (le_refl _);
          unlisted = d.never_listed last (le_refl _);
        })

    -- and why each box is on a list, with any number of faulty boxes
    pub outcome_reasoned : ReasonedOf bytes (outcome_of bytes).run
    unfolding state_after reply_after due table_of
    outcome_reasoned i k b l =
        let h = heading bytes in
        let tables = table_of h.n bytes in
        let calls = calls_exist h.n h.t h.faulty (rows_of bytes) tables (h.t + 1) in
        subst
        (λ (s : Run). Reasoned h.n h.t h.faulty tables (reply_after bytes) (due bytes) i k (reason_at s i k))
        (sym outcome_run)
        (reasons_true calls (le_refl (h.t + 1)) (heading_starts bytes good)
        (λ m q. length_build (table_rows h.n) (table_row (bytes_of h.n bytes m)))
        (h.t + 1) i k (le_refl (h.t + 1)) b l)

  -- how a listing ends
  pub ends_sent : (outcome_of bytes).refusal ≡ 0 →
      listing_of bytes ≡ first_lines bytes ++ line_of sent_word ((outcome_of bytes).run.sent ∷ [])
  unfolding listing_of last_line
  ends_sent e = ap (λ (line : List ℕ). first_lines bytes ++ line) (cond_true _ _ (eq-eqb _ 0 e))

  pub ends_refused : ((outcome_of bytes).refusal ≡ 0 → ⊥) →
      listing_of bytes ≡ first_lines bytes ++ line_of refused_word ((outcome_of bytes).refusal ∷ [])
  unfolding listing_of last_line
  ends_refused h = ap (λ (line : List ℕ). first_lines bytes ++ line) (cond_false _ _ (ne_eqb _ 0 h))

-- no line is both
pub never_both : (sent refusal : ℕ) → line_of sent_word (sent ∷ []) ≡ line_of refused_word (refusal ∷ []) → ⊥
unfolding line_of
never_both sent refusal e = let first = ap (λ (xs : List ℕ). get_or xs 0 0) e in omega (arith, first)

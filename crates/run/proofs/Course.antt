-- The course of a run whose start is taken and whose tables have the right length, for every faulty set and everything
-- that is sent: the state stays legal and counts its iterations, so none of the t + 1 iterations is refused.
-- Assumes nothing.
use mathlib.Core.Path.{◌≡◌, refl, sym, ap, ◌∙◌, subst}
use mathlib.Core.List.{List}
use Prim.Native.Nat.{ℕ, zero, suc, ◌+◌, ◌≤◌, ◌<◌}
use native.Mathlib.Numerals.{add-one}
use native.Mathlib.Omega.{arith}
use lib.ListN.{length}
use borrow.Author.Tests.{eq-eqb}
use Rattle.counting.proofs.Bools.{cond_true}
use Rattle.sizes.specs.Sizes.{table_rows, Startable}
use Rattle.run.specs.declared.Run.{Run}
use Rattle.run.specs.Iteration.{next_run}
use Rattle.run.specs.State.{start_refusal, start_run, start_reply, zeros, iterate_refusal, iterate_reply, after}
use Rattle.run.specs.Legal.{Legal}
use Rattle.run.proofs.Accepted.{start_accepted_is, accepted_is}
use Rattle.run.proofs.Closed.{start_legal, next_legal}

-- the state after m iterations of a run with this n, t and faulty set
pub record Reached (n t faulty m : ℕ) (s : Run) : Type 0 where
  pub same_n : s.n ≡ n
  pub same_t : s.t ≡ t
  pub same_faulty : s.faulty ≡ faulty
  pub done_m : s.done ≡ m
  pub legal : Legal s

next_reached : {n t faulty m : ℕ} {s : Run} (table : List ℕ) → m ≤ t → Reached n t faulty m s →
    Reached n t faulty (suc m) (next_run s table)
unfolding next_run
next_reached {s = s} table l h =
    record {
      same_n = h.same_n;
      same_t = h.same_t;
      same_faulty = h.same_faulty;
      done_m = add-one s.done ∙ ap suc h.done_m;
      legal = next_legal s table h.legal (omega (arith, l, h.done_m, h.same_t));
    }

start_reached : {n t faulty : ℕ} {rows : List ℕ} → Startable n t faulty rows →
    Reached n t faulty 0 (start_run n t faulty rows)
unfolding start_run
start_reached {n} {t} {faulty} {rows} a =
    record {
      same_n = refl;
      same_t = refl;
      same_faulty = refl;
      done_m = refl;
      legal = start_legal n t faulty rows a;
    }

-- a start that is taken gives its state
pub start_run_lem : {n t faulty : ℕ} {rows : List ℕ} → Startable n t faulty rows →
    (start_reply n t faulty rows).run ≡ start_run n t faulty rows
unfolding start_reply
start_run_lem {n} {t} {faulty} {rows} a =
    cond_true (start_run n t faulty rows) zeros
    (eq-eqb (start_refusal n t faulty rows) 0 (start_accepted_is n t faulty rows a))

-- the first iterations of it, for as many as have a table
module _ (n t faulty : ℕ) (rows : List ℕ) (tables : ℕ → List ℕ) (last : ℕ) (most : last ≤ t + 1)
    (starts : Startable n t faulty rows) (sized : (m : ℕ) → m < last → length (tables m) ≡ table_rows n) where
  abbrev state : ℕ → Run
  state m = (after (start_reply n t faulty rows) tables m).run

  -- the state that an iteration finds passes its tests
  passes : (m : ℕ) → m < last → Reached n t faulty m (state m) → iterate_refusal (state m) (tables m) ≡ 0
  passes m l h =
      accepted_is (state m) (tables m)
      (record {
        legal = h.legal;
        rows_of_table = sized m l ∙ ap table_rows (sym h.same_n);
        done_few = omega (arith, h.done_m, h.same_t, most);
      })

  goes_on : (m : ℕ) → m < last → Reached n t faulty m (state m) → state (suc m) ≡ next_run (state m) (tables m)
  unfolding after iterate_reply
  goes_on m l h =
      cond_true (next_run (state m) (tables m)) (state m)
      (eq-eqb (iterate_refusal (state m) (tables m)) 0 (passes m l h))

  pub reached : (m : ℕ) → m ≤ last → Reached n t faulty m (state m)
  unfolding after
  reached zero h = subst (Reached n t faulty 0) (sym (start_run_lem starts)) (start_reached starts)
  reached (suc m) h =
      let before = reached m (omega arith) in
      subst (Reached n t faulty (suc m)) (sym (goes_on m h before))
      (next_reached (tables m) (omega (arith, h, most)) before)

  -- each iteration gives the next state
  pub next_state : (m : ℕ) → m < last → state (suc m) ≡ next_run (state m) (tables m)
  next_state m l = goes_on m l (reached m (omega arith))

  -- no call is refused
  pub never_refused : (m : ℕ) → m ≤ last → (after (start_reply n t faulty rows) tables m).refusal ≡ 0
  unfolding after iterate_reply start_reply
  never_refused zero h = start_accepted_is n t faulty rows starts
  never_refused (suc m) h = passes m h (reached m (omega arith))

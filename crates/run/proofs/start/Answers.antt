-- `run::start` meets its contract: it refuses with a state of zeros, and otherwise builds the state from the rows.
-- Assumes nothing.
use mathlib.Core.Path.{◌≡◌, sym, ap, ◌∙◌}
use Prim.Native.Nat.{ℕ}
use native.Mathlib.Omega.{arith}
use Rattle.counting.specs.Count.{build}
use Rattle.sizes.proofs.Laws.{inside_high}
use Rattle.sizes.proofs.Numbers.{named}
use Rattle.run.specs.State.{start_row, start_run, zeros}
use Rattle.run.proofs.Accepted.{is_start_accepted}
use Rattle.run.proofs.Refusals.{start_refused, start_taken}
use Rattle.run.proofs.start.Reads as Reads
use Rattle.run.proofs.start.Goals as goal

-- the contract admits one reply
pub only_one : (κs : _) (a : _) (r s : _) (x y : _) → Reads.Post κs a r x → Reads.Post κs a s y → r ≡ s
only_one κs a r s x y p q = p ∙ sym q

pub returns-in-Err : goal.returns-in-Err
returns-in-Err c =
    let e = c.from.ensures in
    start_refused _ _ _ _ _ _ (e ∙ c.in-Err.ensures) (λ z. named _ (sym e ∙ z)) c.no_run.ensures

pub start_rows-requires : goal.start_rows-requires
start_rows-requires c =
    let a = is_start_accepted _ _ _ _ (sym c.in_default.ensures) in
    omega (arith, a.pass11, inside_high _ a.pass4)

pub returns : goal.returns
unfolding start_run zeros
returns c =
    let a = c.args in
    let taken = sym c.in_default.ensures in
    let rows =
    c.start_rows.ensures
    ∙ ap (λ (n : ℕ). build 13 (start_row n a.faulty a.rows.now)) (is_start_accepted _ _ _ _ taken).pass11 in
    let none = c.no_run-2.ensures in
    start_taken _ _ _ _ _ taken
    (λ i. record {
      n = a.n;
      t = a.t;
      faulty = a.faulty;
      done = (none i).done;
      sent = (none i).sent;
      rows = rows i;
      lists = (none i).lists;
      reasons = (none i).reasons;
    })

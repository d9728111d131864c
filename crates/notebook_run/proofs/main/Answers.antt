-- `notebook_run::main` is safe and ends: what was written lies within the text. Assumes nothing.
use mathlib.Core.Path.{sym, subst}
use Prim.Native.Nat.{◌≤◌}
use native.Mathlib.Omega.{arith}
use lib.ListN.{length}
use lib.Seq.{length-take-le}
use Rattle.listing.specs.declared.Listed.{Listed}
use Rattle.listing.proofs.Whole.{list_within}
use Rattle.notebook_run.proofs.main.Goals as goal
use Rattle.notebook_run.proofs.main.Goals.{After-list-listed}

-- what was written is part of the text
written : (c : After-list-listed) → c.list-listed.result.size ≤ length c.list-listed.new.out
written c =
    let within = subst (λ (r : Listed). r.size ≤ 2235) (sym c.list-listed.ensures.value) (list_within _ 2235) in
    omega (arith, within, c.list-listed.auto.out)

pub slice_bounds-text-end : goal.slice_bounds-text-end
slice_bounds-text-end c = written (goal.at.slice_bounds-text-end c).After-list-listed

pub slice_bounds-write_all-end : goal.slice_bounds-write_all-end
slice_bounds-write_all-end c =
    sym (length-take-le _ _ (written (goal.at.slice_bounds-write_all-end c).After-list-listed))

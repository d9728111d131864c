-- `run::Run::has_bad_reason` meets its contract: a turn ends the search at a box with a bad reason on its list, and
-- otherwise counts those on its list. Then the places that keep something decide. Assumes nothing.
use mathlib.Core.Path.{◌≡◌, refl, sym, ap, ap₂, ◌∙◌}
use mathlib.Core.Bool.{not}
use Prim.Native.Nat.{ℕ, ◌*◌, ◌/◌, ◌%◌}
use native.Mathlib.Omega.{arith}
use lib.Dec.{eqb}
use lib.ListN.{get_or}
use Rattle.counting.specs.Count.{count}
use Rattle.counting.specs.Sets.{member}
use Rattle.counting.proofs.Count.{any_none, count_le}
use Rattle.counting.proofs.Loops.{search_begins, search_turn, search_ends}
use Rattle.run.specs.State.{listed_by}
use Rattle.run.proofs.Reckoned.{listed_more, some_bad, by_count}
use Rattle.run.proofs.Run.has_bad_reason.Goals as goal

pub loop-i-init : goal.loop-i-init
unfolding count
loop-i-init c = (search_begins _, refl)

pub returns-in_default : goal.returns-in_default
returns-in_default c = some_bad _ _ c.loop-i-test.true c.in_default.ensures

pub overflow_add-listed : goal.overflow_add-listed
overflow_add-listed c =
    let s = c.args.self.now in
    omega (
      arith,
      c.loop-i.invariant.1,
      count_le (13 * c.loop-i.i) (λ p. member (get_or s.lists (p / 13) 0) (p % 13)),
      c.in-Some.ensures.1,
      count_le 13 (member (get_or s.lists c.loop-i.i 0)),
      c.loop-i-test.true,
    )

pub loop-i-preserved : goal.loop-i-preserved
unfolding listed_by
loop-i-preserved c =
    let inv = c.loop-i.invariant in (
      search_turn _ inv.0 c.loop-i-test.true refl c.in-Some.ensures.0,
      listed_more c.args.self.now c.loop-i.i inv.1 c.in-Some.ensures.1,
    )

pub returns : goal.returns
unfolding listed_by
returns c =
    let s = c.args.self.now in
    let inv = c.loop-i.invariant in
    let at_end : c.loop-i.i ≡ 13 = omega (arith, c.loop-i-test.false, c.loop-i.auto.i-end) in
    let all =
    inv.1 ∙ ap (λ (i : ℕ). count (13 * i) (λ p. member (get_or s.lists (p / 13) 0) (p % 13))) at_end in
    ap₂ (λ (a b : ℕ). not (eqb a b)) (c.from.ensures ∙ c.count_kept.ensures) all
    ∙ by_count s (any_none 13 _ (sym (search_ends _ inv.0 c.loop-i-test.false)))

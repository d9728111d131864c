-- `run::Reasons::count_listed` meets its contract: nobody is on an empty list. Otherwise a turn ends at a listed box
-- with a bad reason, counts a listed box with a good one, and passes over any other. Assumes nothing.
use mathlib.Core.Path.{◌≡◌, refl, sym, ap, ◌∙◌}
use mathlib.Core.Bool.{Bool, true, false, ◌&&◌}
use Prim.Native.Nat.{ℕ, ◌+◌, ◌*◌}
use native.Mathlib.Omega.{arith}
use Rattle.counting.specs.Sets.{member}
use Rattle.counting.proofs.Bools.{not_both, cond_true, cond_false}
use Rattle.counting.proofs.Count.{none_any, count_none, count_le, count_turn}
use Rattle.counting.proofs.Loops.{search_begins, search_turn, search_hits, count_begins, counts}
use Rattle.counting.proofs.Sets.{member_empty}
use Rattle.run.specs.declared.Reason.{Reason}
use Rattle.run.specs.declared.Reasons.{Reasons}
use Rattle.run.specs.Inside.{bad_listing}
use Rattle.run.specs.Iteration.{reason_in}
use Rattle.run.specs.State.{bad_reason}
use Rattle.run.proofs.Reasons.count_listed.Goals as goal
use Rattle.run.proofs.Reasons.count_listed.Goals.{
  In-loop-k,
  Then-list-eq0,
  then-is_member+else-is_bad,
  else-is_member,
}

-- what is tested of a listed box is what the definition tests
bad_is : (t done list : ℕ) (reasons : Reasons) (i k : ℕ) {r : Reason} {b : Bool} → b ≡ bad_reason t done true r →
    r ≡ reason_in reasons (13 * i + k) → member list k ≡ true →
    b ≡ bad_listing t done list (λ k. reason_in reasons (13 * i + k)) k
unfolding bad_listing
bad_is t done list reasons i k e is on =
    e ∙ ap (λ (r : Reason). bad_reason t done true r) is
    ∙ ap (λ (b : Bool). b && bad_reason t done true (reason_in reasons (13 * i + k))) (sym on)

-- nobody is on an empty list
empty : (c : Then-list-eq0) (k : ℕ) → member c.args.list k ≡ false
empty c k = ap (λ (list : ℕ). member list k) c.if-list-eq0.true ∙ member_empty k

pub returns-then-list-eq0 : goal.returns-then-list-eq0
unfolding bad_listing
returns-then-list-eq0 c =
    let on = empty (goal.at.returns-then-list-eq0 c).Then-list-eq0 in
    (none_any 13 _ (λ k l. not_both _ (on k)), sym (count_none 13 _ (λ k l. on k)))

pub loop-k-init : goal.loop-k-init
loop-k-init c = (search_begins _, count_begins _)

pub returns-then-is_bad : goal.returns-then-is_bad
returns-then-is_bad c =
    let a = c.args in
    let on = sym c.is_member.ensures ∙ c.if-is_member.true in
    let is = bad_is _ _ _ a.self.now a.i _ c.is_bad.ensures c.at.ensures on in
    sym (search_hits _ c.loop-k-test.true is c.if-is_bad.true)

pub overflow_add-listed : goal.overflow_add-listed
overflow_add-listed c =
    omega (arith, c.loop-k.invariant.1.1, count_le c.loop-k.k (member c.args.list), c.loop-k-test.true)

pub loop-k-preserved : goal.loop-k-preserved
unfolding bad_listing
loop-k-preserved c =
    let a = c.args in
    let inv = c.loop-k.invariant in
    let l = c.loop-k-test.true in
    elim c.if-is_member.branch [
      | then-is_member+else-is_bad w ↦
          let on = sym c.is_member.ensures ∙ w.if-is_member.true in (
            search_turn _ inv.0 l (bad_is _ _ _ a.self.now a.i _ w.is_bad.ensures w.at.ensures on) w.if-is_bad.false,
            rw w.listed-is (counts _ inv.1 l (sym (cond_true 1 0 on))),
          )
      | else-is_member w ↦
          let off = sym c.is_member.ensures ∙ w.if-is_member.false in
          let same = count_turn c.loop-k.k (member a.list) refl (sym (cond_false 1 0 off)) in (
            search_turn _ inv.0 l refl (not_both _ off),
            rw w.listed-is (omega arith, inv.1.1 ∙ omega (arith, same)),
          )
    ]

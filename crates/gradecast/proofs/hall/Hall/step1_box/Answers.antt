-- `Hall::step1_box` meets its contract: what a sound box hears from each leader is V, and the place that is read is
-- the one of the leader and the box. Assumes nothing.
use mathlib.Core.Path.{sym, ap, ◌∙◌}
use Prim.Native.Nat.{ℕ}
use native.Mathlib.Omega.{arith}
use lib.ListN.{get_or}
use Rattle.gradecast.specs.Steps.{hears, sends, heard1}
use Rattle.gradecast.proofs.Cells.{put_turn, put_ends, put_skipped, put_same}
use Rattle.gradecast.proofs.Sound.{of_faulty, of_sound_lem}
use Rattle.gradecast.proofs.Places.{first_fits}
use Rattle.gradecast.proofs.hall.Hall.step1_box.Goals as goal

pub returns-then-is_member : goal.returns-then-is_member
returns-then-is_member c =
    let is_faulty = sym c.is_member.ensures ∙ c.if-is_member.true in
    put_skipped c.args.self.size.high c.requires _ (λ k l. of_faulty _ _ _ _ is_faulty)

pub hear-requires : goal.hear-requires
hear-requires c =
    let hall = c.args.self in
    omega (arith, hall.ready.whole, c.place_of_first-place.ensures.1, first_fits hall.settings.n)

pub loop-k-preserved : goal.loop-k-preserved
unfolding heard1
loop-k-preserved c =
    let a = c.args in
    let hall = a.self in
    let k = c.loop-k.k in
    let row : ℕ → ℕ =
    λ m.
    hears (get_or hall.lists.now a.i 0) k (sends hall.settings.faulty hall.table.now k m (get_or hall.rows.now k 0)) in
    put_turn hall.size.high c.requires _ k _ c.loop-k.invariant c.loop-k-test.true
    (c.hear.ensures ∙ ap row c.place_of_first-place.ensures.0)

pub returns : goal.returns
returns c =
    let high = c.args.self.size.high in
    let is_sound = sym c.is_member.ensures ∙ c.if-is_member.false in
    put_same high c.requires _ _ (λ k l. sym (of_sound_lem _ _ _ _ is_sound))
    (put_ends high c.requires _ (omega arith) c.loop-k.invariant)

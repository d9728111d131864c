-- `File::put_rows` meets its contract: the line of a place stands behind those of the places before it. Assumes
-- nothing.
use mathlib.Core.Path.{sym, ap, subst}
use Prim.Native.Nat.{◌+◌, ◌≤◌}
use native.Mathlib.Numerals.{add-one}
use native.Mathlib.Omega.{arith}
use lib.ListN.{length, get_or}
use Rattle.listing.specs.File.{heading}
use Rattle.listing.specs.Inside.{Put}
use Rattle.listing.proofs.Text.{put_nothing, put_then}
use Rattle.showing.specs.Show.{places_text}
use Rattle.showing.proofs.Laws.{put_within}
use Rattle.showing.proofs.File.put_rows.Goals as goal

pub loop-place-init : goal.loop-place-init
unfolding places_text
loop-place-init c = (put_nothing _ _, omega arith)

pub loop-place-preserved : goal.loop-place-preserved
unfolding places_text
loop-place-preserved c =
    let a = c.args in
    let e = c.put_place-end.ensures in
    let h = c.loop-place in
    let room : h.end + c.put_place-end.result ≤ length a.out.now =
    omega (arith, e.most, h.invariant.1, c.loop-place-test.true, c.requires.room) in
    let more = put_then h.invariant.0 (put_within h.out _ _ h.end _ e.text) room in (
      subst (Put _ _ _ _)
          (ap (places_text (heading a.self.now).n a.m (λ k. get_or a.rows.now k 0)) (sym (add-one h.place)))
          more,
      omega (arith, e.most, h.invariant.1),
    )

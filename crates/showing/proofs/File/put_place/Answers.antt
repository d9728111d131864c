-- `File::put_place` meets its contract: a place that holds 0 has no line, and the line of any other has at most 40
-- bytes, so it has its place. Assumes nothing.
use mathlib.Core.Path.{ap, ◌∙◌}
use Prim.Native.Nat.{ℕ}
use native.Mathlib.Omega.{arith}
use lib.ListN.{length}
use Rattle.sizes.proofs.Laws.{table_le}
use Rattle.listing.specs.File.{heading}
use Rattle.listing.proofs.Text.{put_nothing}
use Rattle.says.specs.Say.{say_reply, say_writes}
use Rattle.showing.proofs.Laws.{say_most, say_size, say_put, place_none, place_some, table_m}
use Rattle.showing.proofs.GoodFiles.{boxes, sent_of, headed_of}
use Rattle.showing.proofs.File.put_place.Goals as goal

pub returns-then-nothing : goal.returns-then-nothing
returns-then-nothing c =
    let a = c.args in
    record {
      text = rw (place_none (heading a.self.now).n a.m a.place a.row c.if-nothing.true) (put_nothing _ _);
      most = omega arith;
    }

pub overflow_cast-place : goal.overflow_cast-place
overflow_cast-place c =
    omega (arith, c.requires.place.1, table_le (headed_of c.self.invariant c.self.view_is).high)

pub returns : goal.returns
returns c =
    let a = c.args in
    let p = c.requires.place in
    let g = c.self.invariant in
    let v = c.self.view_is in
    let n = (heading a.self.now).n in
    let h = headed_of g v in
    let few = table_m a.self.now (sent_of g v) a.m p.0 in
    let fits = c.ranges.row.fits in
    let room = c.requires.room in
    let size = length a.out.now in
    let value = c.write_say.ensures.value ∙ ap (λ (k : ℕ). say_reply k a.m a.place a.row size) (boxes g v) in
    let after = c.write_say.ensures.out_after
    ∙ ap (λ (k : ℕ). say_writes k a.m a.place a.row a.out.now) (boxes g v) in
    record {
      text = rw (place_some n a.m a.place a.row c.if-nothing.false)
          (say_put n a.m a.place a.row h.low h.high few p.1 fits _ _ _ room value after);
      most = omega (
        arith,
        say_most n a.m a.place a.row h.low h.high few p.1 fits,
        say_size n a.m a.place a.row h.low h.high few p.1 fits _ _ room value,
      );
    }

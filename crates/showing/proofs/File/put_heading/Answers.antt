-- `File::put_heading` meets its contract: the line `run` has at most 18 bytes and the line `rows` behind it at most
-- 278, so both have their places, and there they are put. Assumes nothing.
use mathlib.Core.Path.{ap, ap₂, subst}
use mathlib.Core.List.{List, [], ◌∷◌, ◌++◌}
use Prim.Native.Nat.{ℕ, ◌+◌, ◌^◌, ◌≤◌, ◌<◌}
use native.Mathlib.Omega.{arith}
use lib.ListN.{length, take}
use lib.Seq.{length-take-le}
use Rattle.runfile.specs.declared.Heading.{Heading}
use Rattle.lines.specs.Line.{line_of}
use Rattle.listing.specs.Listing.{run_word, run_line}
use Rattle.listing.specs.Inside.{Put}
use Rattle.listing.proofs.Text.{put_line, put_then, run_most}
use Rattle.says.specs.Say.{rows_word}
use Rattle.showing.specs.Show.{heading_text}
use Rattle.showing.proofs.Laws.{rows_most}
use Rattle.showing.proofs.GoodFiles.{said, boxes, faulty_small, headed_of, rows_read, rows_small}
use Rattle.showing.proofs.File.put_heading.Goals as goal
use Rattle.showing.proofs.File.put_heading.Goals.{After-self}

few : (c : After-self) → c.self.inside.heading.n ≤ 13
few c = omega (arith, boxes c.self.invariant c.self.view_is, (headed_of c.self.invariant c.self.view_is).high)

pub shared_ref_as_front-put_line : goal.shared_ref_as_front-put_line
shared_ref_as_front-put_line c = few (goal.at.shared_ref_as_front-put_line c).After-self

pub returns : goal.returns
unfolding run_line heading_text
returns c =
    let g = c.self.invariant in
    let v = c.self.view_is in
    let second = c.put_line in
    let one = c.put_line-end in
    let h = c.self.inside.heading in
    let rows = take h.n c.self.inside.rows in
    let out = c.args.out.now in
    let much = few (goal.at.returns c).After-self in
    let t : h.t ≤ 4 = omega (arith, ap (λ (k : Heading). k.t) (said g v), (headed_of g v).few) in
    let faulty : h.faulty < 2 ^ 16 = omega (arith, faulty_small g v) in
    let first = put_line run_word (h.n ∷ h.t ∷ h.faulty ∷ []) out one.new.text 0 one.result 18
    (run_most h.n h.t h.faulty (omega (arith, much)) (omega (arith, t)) faulty) (omega (arith, c.requires))
    one.ensures.value one.ensures.text_after in
    let room : one.result + 278 ≤ length one.new.text = omega (arith, first.1, one.auto.text, c.requires) in
    let long = length-take-le h.n c.self.inside.rows (omega (arith, much, c.self.told)) in
    let next = put_line rows_word rows one.new.text second.new.text one.result second.result 278
    (rows_most rows (omega (arith, much, long)) (rows_small g v)) room
    second.ensures.value second.ensures.text_after in
    subst (Put out second.new.text 0 second.result)
    (ap₂ (λ (k : Heading) (xs : List ℕ). run_line k.n k.t k.faulty ++ line_of rows_word xs)
    (said g v) (rows_read g v))
    (put_then first.0 next.0 (omega (arith, first.1, next.1, c.requires)))

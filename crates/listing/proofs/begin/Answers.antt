-- `listing::begin` meets its contract: a refused heading is the refusal, and otherwise the start is made of what the
-- heading says and of the n rows that it wrote. Assumes nothing.
use mathlib.Core.Path.{◌≡◌, sym, ap, ◌∙◌}
use Prim.Native.Nat.{◌≤◌}
use native.Mathlib.Omega.{arith}
use lib.ListN.{length}
use lib.Seq.{length-take-le}
use Rattle.runfile.specs.declared.Heading.{Heading}
use Rattle.run.specs.declared.Next.{Next}
use Rattle.listing.specs.File.{heading, reply_after, state_after, refused_start}
use Rattle.listing.proofs.Heading.{first_refused, first_passed, heading_high, start_reply_lem}
use Rattle.listing.proofs.begin.Goals as goal
use Rattle.listing.proofs.begin.Goals.{After-read_heading-heading, After-start-first, Else-heading-ne0}

-- the reply of the heading reader is what the heading says
is_heading : (c : After-read_heading-heading) → c.read_heading-heading.result ≡ heading c.args.bytes.now
unfolding heading
is_heading c = c.read_heading-heading.ensures.value

-- where the heading was not refused
abbrev read_of : Else-heading-ne0 → After-read_heading-heading
read_of c = (goal.at.Else-heading-ne0 c).After-read_heading-heading

ok : (c : Else-heading-ne0) → (heading c.args.bytes.now).refusal ≡ 0
ok c = sym (ap (λ (r : Heading). r.refusal) (is_heading (read_of c))) ∙ c.if-heading-ne0.false

-- the rows that were written have room for n of them
room_of : (c : Else-heading-ne0) → c.read_heading-heading.result.n ≤ length c.read_heading-heading.new.rows
room_of c =
    omega (
      arith,
      heading_high c.args.bytes.now (ok c),
      ap (λ (r : Heading). r.n) (is_heading (read_of c)),
      c.read_heading-heading.auto.rows,
    )

pub returns-then-heading-ne0 : goal.returns-then-heading-ne0
unfolding refused_start
returns-then-heading-ne0 c =
    let number = ap (λ (r : Heading). r.refusal)
    (is_heading (goal.at.returns-then-heading-ne0 c).After-read_heading-heading) in (
      number ∙ sym (first_refused _ _ (λ z. c.if-heading-ne0.true (number ∙ z))),
      c.if-heading-ne0.true,
    )

pub slice_bounds-rows-end : goal.slice_bounds-rows-end
slice_bounds-rows-end c = room_of (goal.at.slice_bounds-rows-end c).Else-heading-ne0

pub slice_bounds-start-end : goal.slice_bounds-start-end
slice_bounds-start-end c = sym (length-take-le _ _ (room_of (goal.at.slice_bounds-start-end c).Else-heading-ne0))

-- the start's reply
first_of : (c : After-start-first) → c.start-first.result ≡ reply_after c.args.bytes.now 0
first_of c =
    let d = (goal.at.After-start-first c).Else-heading-ne0 in
    let h = (read_of d).read_heading-heading in
    start_reply_lem c.args.bytes.now (ok d) _ _ _ (is_heading (read_of d)) h.ensures.rows_after c.start-first.ensures

number_of_first : (c : After-start-first) → c.start-first.result.refusal ≡ refused_start c.args.bytes.now
unfolding refused_start
number_of_first c =
    ap (λ (r : Next). r.refusal) (first_of c)
    ∙ sym (first_passed _ _ (ok (goal.at.After-start-first c).Else-heading-ne0))

pub returns-then-first-ne0 : goal.returns-then-first-ne0
returns-then-first-ne0 c = (number_of_first (goal.at.returns-then-first-ne0 c).After-start-first, c.if-first-ne0.true)

pub returns : goal.returns
unfolding state_after
returns c =
    let s = (goal.at.returns c).After-start-first in
    (sym (number_of_first s) ∙ c.if-first-ne0.false, ap (λ (r : Next). r.run) (first_of s))

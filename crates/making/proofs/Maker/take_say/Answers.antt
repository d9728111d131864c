-- `making::Maker::take_say` meets its contract: a line that is understood has five numbers at least, so that it has
-- a last, and a row that is refused leaves the file as it was. Assumes nothing.
use mathlib.Core.Bool.{true}
use mathlib.Core.Path.{◌≡◌, ap, ◌∙◌}
use Prim.Native.Nat.{ℕ, ◌≤◌}
use native.Mathlib.Omega.{arith}
use lib.ListN.{length}
use Rattle.runfile.specs.Write.{row_refusal}
use Rattle.says.specs.Say.{row_in}
use Rattle.making.specs.declared.Maker.{Maker}
use Rattle.making.specs.Make.{Progress, progress, settled, is_refused, row_said, say_taken, not_understood}
use Rattle.making.proofs.Stages.{say_said, said_short, some_numbers, row_stays}
use Rattle.std.proofs.lemmas.Grind.{common_steps}
use Rattle.making.proofs.Maker.take_say.Goals as goal
use Rattle.making.proofs.Maker.take_say.Goals.{After-place_of-place, Else-not-place}

-- what stood before the line
abbrev before_of : After-place_of-place → Progress
before_of c = progress c.args.self c.args.file.now

-- the line is understood
abbrev place_of : Else-not-place → After-place_of-place
place_of c = (goal.at.Else-not-place c).After-place_of-place

long : (c : Else-not-place) → 5 ≤ length c.args.numbers.now
long c = some_numbers _ _ _ _ (place_of c).place_of-place.ensures c.if-not-place.false

understood : (c : Else-not-place) →
    let p = place_of c in
    let a = c.args in
    row_said (before_of p) p.place_of-place.result.at (row_in a.numbers.now)
    ≡ say_taken (before_of p) true a.numbers.now
understood c =
    let p = place_of c in
    let a = p.args in
    say_said (before_of p) a.numbers.now _ p.place_of-place.ensures
    c.if-place-ne0.false c.if-not-place.false

pub returns-then-place-ne0 : goal.returns-then-place-ne0
unfolding say_taken is_refused
returns-then-place-ne0 c = grind (arith, common_steps)

pub returns-then-not-place : goal.returns-then-not-place
unfolding say_taken not_understood
returns-then-not-place c = grind (arith, common_steps)

pub overflow_sub-row : goal.overflow_sub-row
overflow_sub-row c = omega (arith, long c)

pub bounds-numbers-numbers : goal.bounds-numbers-numbers
bounds-numbers-numbers c = omega (arith, long (goal.at.bounds-numbers-numbers c).Else-not-place)

pub returns-then-refusal-ne0 : goal.returns-then-refusal-ne0
unfolding is_refused
returns-then-refusal-ne0 c =
    let u = (goal.at.returns-then-refusal-ne0 c).Else-not-place in
    let p = place_of u in
    let a = p.args in
    let e = c.write_row-refusal.ensures in
    let row = row_in a.numbers.now in
    let at = p.place_of-place.result.at in
    let refusal = row_refusal at (length a.file.now) in
    let some : refusal ≡ 0 → ⊥ = λ z. c.if-refusal-ne0.true (e.value ∙ z) in
    ap (λ (m : Maker). progress m c.write_row-refusal.new.out)
    (c.refused-then-refusal-ne0.ensures ∙ ap (λ (k : ℕ). settled a.self k a.self.fault) e.value)
    ∙ ap (progress (settled a.self refusal a.self.fault)) (e.out_after ∙ row_stays row at a.file.now some)
    ∙ said_short (before_of p) at row some
    ∙ understood u

pub returns : goal.returns
unfolding say_taken row_said
returns c = grind (arith, common_steps)

-- `Line::put_part` meets its contract: the number has at most 3 digits, so the line has its place, and what stands
-- before its newline is the words and the number. Assumes nothing.
use mathlib.Core.Path.{◌≡◌, ap, ◌∙◌}
use mathlib.Core.List.{List, [], ◌∷◌, ◌++◌}
use Prim.Native.Nat.{ℕ, ◌+◌, ◌-◌, ◌≤◌}
use native.Mathlib.Omega.{arith}
use lib.ListN.{length}
use lib.Seq.{length-take-le}
use Rattle.lines.specs.Line.{field, line_of}
use Rattle.listing.specs.Inside.{Put}
use Rattle.listing.proofs.Text.{put_line}
use Rattle.why.proofs.Reasons.{part_most, part_some, part_behind}
use Rattle.why.proofs.Line.put_part.Goals as goal
use Rattle.why.proofs.Line.put_part.Goals.{After-put_line-end}

-- how much is there
before : (c : After-put_line-end) → c.self.inside.size ≡ length c.args.self.now
before c =
    omega (
      arith,
      ap length c.self.view_is,
      length-take-le c.self.inside.size c.self.inside.bytes (omega (arith, c.self.told, c.self.invariant)),
    )

-- where the line was put
put_of : (c : After-put_line-end) →
    Put c.self.inside.bytes c.put_line-end.new.text c.self.inside.size c.put_line-end.result
    (line_of c.args.words.now (c.args.number ∷ []))
    × (c.put_line-end.result ≤ c.self.inside.size + (length c.args.words.now + 5))
put_of c =
    let a = c.args in
    put_line a.words.now (a.number ∷ []) _ _ _ _ (length a.words.now + 5)
    (part_most a.words.now a.number c.ranges.number.fits) (omega (arith, before c, c.requires, c.self.told))
    c.put_line-end.ensures.value c.put_line-end.ensures.text_after

pub overflow_sub-self : goal.overflow_sub-self
overflow_sub-self c = omega (arith, (put_of c).0.ends, part_some c.args.words.now c.args.number)

pub invariant_of-self : goal.invariant_of-self
invariant_of-self c =
    let p = (goal.at.invariant_of-self c).After-put_line-end in omega (arith, (put_of p).1, before p, p.requires)

pub returns-clause-text : goal.returns-clause-text
returns-clause-text c =
    let p = (goal.at.returns-clause-text c).After-put_line-end in
    part_behind c.args.words.now c.args.number (put_of p).0 (omega (arith, c.self.told, c.self.invariant))
    ∙ ap (λ (xs : List ℕ). xs ++ (c.args.words.now ++ field c.args.number)) c.self.view_is

pub returns-clause-most : goal.returns-clause-most
returns-clause-most c =
    let p = (goal.at.returns-clause-most c).After-put_line-end in
    omega (
      arith,
      length-take-le (c.put_line-end.result - 1) c.put_line-end.new.text
          (omega (arith, (put_of p).1, before p, p.requires, c.self.told, c.put_line-end.auto.text)),
      (put_of p).1,
      before p,
    )

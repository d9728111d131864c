-- There is room for one number more, which is put behind those that stand there. Assumes nothing.
use mathlib.Core.Path.{ap, sym, ◌∙◌}
use Prim.Native.Nat.{◌+◌, ◌≤◌}
use native.Mathlib.Omega.{arith}
use lib.ListN.{length, get_or}
use Rattle.lines.specs.Line.{field, fields, placed}
use Rattle.lines.proofs.Lines.{fields_turn, fields_longer, fields_more}
use Rattle.lines.proofs.Placed.{placed_none, placed_then}
use borrow.Author.Rules.{rules}
use Rattle.lines.proofs.put_numbers.Goals as goal
use Rattle.lines.proofs.put_numbers.Goals.{In-loop-number}

room_of : (c : In-loop-number) →
    c.args.at + length (fields c.args.numbers.now (c.loop-number.number-index + 1)) ≤ length c.args.out.now
room_of c =
    let numbers = c.args.numbers.now in
    omega (arith, fields_more numbers (c.loop-number.number-index + 1) (length numbers) (search rules))

pub loop-number-init : goal.loop-number-init
unfolding fields
loop-number-init c = record { end = search rules; out = placed_none _ _ }

pub put_number-end-requires : goal.put_number-end-requires
put_number-end-requires c =
    omega (
      arith,
      room_of (goal.at.put_number-end-requires c).In-loop-number,
      fields_longer c.args.numbers.now c.loop-number.number-index,
      c.loop-number.auto.out,
    )

pub loop-number-preserved : goal.loop-number-preserved
loop-number-preserved c =
    let numbers = c.args.numbers.now in
    let k = c.loop-number.number-index in
    let turn = fields_turn numbers k in
    record {
      end = omega (arith, c.put_number-end.ensures.value, fields_longer numbers k);
      out = c.put_number-end.ensures.out_after
          ∙ placed_then c.args.out.now c.loop-number.out c.args.at (fields numbers k) (field (get_or numbers k 0))
          c.loop-number.end c.loop-number.invariant.out c.loop-number.invariant.end
          (omega (arith, room_of (goal.at.loop-number-preserved c).In-loop-number, ap length turn))
          ∙ ap (placed c.args.out.now c.args.at) (sym turn);
    }

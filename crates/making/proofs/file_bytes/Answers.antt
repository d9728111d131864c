-- `making::file_bytes` meets its contract: where n and t pass, n is 1 to 13 and t small, and the place behind t + 1
-- tables is the length. Assumes nothing.
use mathlib.Core.Path.{◌≡◌, refl, sym, ◌∙◌}
use native.Mathlib.Omega.{arith}
use borrow.Author.Tests.{eq-eqb}
use Rattle.sizes.specs.Sizes.{Sized, size_refusal}
use Rattle.sizes.proofs.Laws.{passes_sized}
use Rattle.listing.proofs.Behind.{begins_inside}
use Rattle.making.specs.Make.{file_bytes}
use Rattle.making.proofs.file_bytes.Goals as goal
use Rattle.making.proofs.file_bytes.Goals.{In_ok-check_size}

sized_of : (c : In_ok-check_size) → Sized c.args.n c.args.t
sized_of c = passes_sized _ _ (sym c.in_ok-check_size.ensures)

pub overflow_add-t : goal.overflow_add-t
overflow_add-t c = let s = sized_of c in omega (arith, s.high, s.tolerated)

pub returns : goal.returns
unfolding file_bytes
returns c =
    let d = (goal.at.returns c).In_ok-check_size in
    let s = sized_of d in
    let passes : size_refusal d.args.n d.args.t ≡ 0 = sym d.in_ok-check_size.ensures in
    record {
      refused = d.in_ok-check_size.ensures;
      bytes = begins_inside _ _ _ c.table_begins.ensures s.low s.high ∙ rw (eq-eqb _ 0 passes) refl;
    }

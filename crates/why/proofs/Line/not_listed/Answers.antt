-- `Line::not_listed` meets its contract: the bytes that are copied to the front are the line. Assumes nothing.
use mathlib.Core.Path.{◌≡◌, subst, ◌∙◌}
use mathlib.Core.List.{List, ◌++◌}
use Prim.Native.Nat.{ℕ}
use native.Mathlib.Omega.{arith}
use lib.ListN.{length, take, drop, replicate, length-replicate}
use Rattle.lines.proofs.Placed.{placed_front, placed_found}
use Rattle.why.specs.Answer.{not_listed_line}
use Rattle.why.proofs.Line.not_listed.Goals as goal

pub invariant_of-result : goal.invariant_of-result
invariant_of-result c = omega (arith, c.copy-size.ensures.value)

pub returns : goal.returns
unfolding not_listed_line
returns c =
    let bytes : List ℕ = replicate 60 0 in
    let long = length-replicate {A = ℕ} 60 0 in
    let size : c.copy-size.result ≡ length not_listed_line = omega (arith, c.copy-size.ensures.value, long) in
    let out = c.copy-size.new.out in
    let put = subst (λ (k : ℕ). out ≡ take k not_listed_line ++ drop k bytes) size c.copy-size.ensures.out_after in
    rw (size, put ∙ placed_front bytes not_listed_line) (placed_found bytes not_listed_line)

-- `run::Reasons::count_listed`: after k turns none of the first k is listed with a bad reason, and those of them that
-- are listed are counted.
use Prim.Native.Nat.{◌+◌, ◌*◌}
use Rattle.counting.specs.Sets.{member}
use Rattle.counting.proofs.Loops.{NoneYet, Counted}
use Rattle.run.specs.Inside.{bad_listing}
use Rattle.run.specs.Iteration.{reason_in}
use Rattle.run.proofs.Reasons.count_listed.Given as goal

abbrev pub invariant-loop-k : goal.invariant-loop-k
invariant-loop-k l =
    NoneYet 13 (bad_listing l.t l.done l.list (λ k. reason_in l.self (13 * l.i + k))) l.k ×
    Counted 13 (member l.list) l.k l.listed

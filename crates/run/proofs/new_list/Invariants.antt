-- `run::new_list`: after k turns the list is the set of the leaders below k that join.
use mathlib.Core.Path.{◌≡◌}
use mathlib.Core.Bool.{◌||◌}
use lib.Dec.{ltb}
use lib.ListN.{get_or}
use Rattle.counting.specs.Sets.{member, set_of}
use Rattle.run.proofs.new_list.Given as goal

abbrev pub invariant-loop-k : goal.invariant-loop-k
invariant-loop-k l =
    l.list ≡ set_of l.k (λ j. member l.old j || ltb (get_or l.confidences j 0) 2)

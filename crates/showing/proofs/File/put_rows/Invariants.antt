-- `File::put_rows` meets its contract: after each turn the lines of the places before this one stand there, 40 bytes
-- at most for each. Assumes nothing.
use Prim.Native.Nat.{◌*◌, ◌≤◌}
use lib.ListN.{get_or}
use Rattle.listing.specs.File.{heading}
use Rattle.listing.specs.Inside.{Put}
use Rattle.showing.specs.Show.{places_text}
use Rattle.showing.proofs.File.put_rows.Given as goal

abbrev pub invariant-loop-place : goal.invariant-loop-place
invariant-loop-place l =
    Put l.initial.out l.out 0 l.end
    (places_text (heading l.self).n l.m (λ k. get_or l.rows k 0) l.place)
    × (l.end ≤ 40 * l.place)

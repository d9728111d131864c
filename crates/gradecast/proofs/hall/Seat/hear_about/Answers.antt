-- `Seat::hear_about` meets its contract: the place is the one of sender, receiver and leader, and what a sound sender
-- says stands in its cell. Assumes nothing.
use mathlib.Core.Path.{ap, ◌∙◌}
use Prim.Native.Nat.{ℕ, ◌+◌, ◌*◌}
use native.Mathlib.Omega.{arith}
use lib.ListN.{get_or}
use Rattle.sizes.proofs.Laws.{table_le}
use Rattle.gradecast.specs.Steps.{hears, sends}
use Rattle.gradecast.specs.Inside.{heard_from}
use Rattle.gradecast.proofs.hall.Seat.hear_about.Goals as goal
use Rattle.gradecast.proofs.hall.Seat.hear_about.Goals.{After-place_from-place}

pub place_from-place-requires : goal.place_from-place-requires
place_from-place-requires c =
    let seat = c.args.self in
    let p = c.requires in (
      omega (arith, table_le seat.hall.size.high, seat.fits),
      p.is_box,
      record { is_box = seat.below; is_leader = p.is_leader },
    )

pub returns : goal.returns
unfolding heard_from
returns c =
    let a = c.args in
    let hall = a.self.hall in
    let own = get_or a.self.said.now (a.j * hall.settings.n + a.k) 0 in
    let row : ℕ → ℕ = λ m. hears a.self.list a.j (sends hall.settings.faulty hall.table.now a.j m own) in
    c.hear.ensures ∙ ap row c.place_from-place.ensures.0

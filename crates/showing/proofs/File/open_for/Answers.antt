-- `File::open_for` meets its contract: the file's refusal comes first, and behind it the room is held against what the
-- part may need. Assumes nothing.
use mathlib.Core.Path.{◌≡◌, sym, ap, ◌∙◌}
use mathlib.Core.List.{List}
use Prim.Native.Nat.{ℕ}
use native.Mathlib.Omega.{arith}
use Rattle.std.proofs.lemmas.Result.{err_from_is_err_and}
use Rattle.showing.specs.Inside.{part_of}
use Rattle.showing.specs.Show.{part_room}
use Rattle.showing.proofs.Laws.{refused_early, refused_short, refused_none}
use Rattle.showing.proofs.File.open_for.Goals as goal
use Rattle.showing.proofs.File.open_for.Goals.{After-part_room}

-- what the part may need
need : (c : After-part_room) → c.part_room.result ≡ part_room c.args.bytes.now (part_of c.args.table)
need c =
    c.part_room.ensures ∙ ap (λ (xs : List ℕ). part_room xs (part_of c.args.table)) c.in_ok-file.ensures.1

pub returns-in_err-file : goal.returns-in_err-file
returns-in_err-file c =
    let p = err_from_is_err_and c.from_residual.result c.from_residual.ensures.1 in
    let e = c.in_err-file.ensures in
    rw (p.1, p.2) (e.0 ∙ sym (refused_early _ _ _ (λ z. e.1 (e.0 ∙ z))), e.1)

pub returns-then-room-part_room : goal.returns-then-room-part_room
returns-then-room-part_room c =
    let much = need (goal.at.returns-then-room-part_room c).After-part_room in
    rw c.from.ensures (
      sym (refused_short _ _ _ c.in_ok-file.ensures.0 (omega (arith, much, c.if-room-part_room.true))),
      λ z. absurd (omega (arith, z)),
    )

pub returns : goal.returns
returns c =
    let much = need (goal.at.returns c).After-part_room in (
      refused_none _ _ _ c.in_ok-file.ensures.0 (omega (arith, much, c.if-room-part_room.false)),
      c.in_ok-file.ensures.1,
    )

-- `making::Maker::take_rows` meets its contract: the heading and the zeros go to as much of the file as they need,
-- which is none where there is not enough. Assumes nothing.
use mathlib.Core.Path.{◌≡◌, sym, ap, ◌∙◌}
use mathlib.Core.List.{List, ◌++◌}
use Prim.Native.Nat.{ℕ}
use lib.ListN.{length, take, drop}
use Rattle.std.proofs.lemmas.List.{take-append-drop, length-take-le}
use Rattle.runfile.specs.Write.{write_heading_refusal}
use Rattle.making.specs.declared.Maker.{Maker}
use Rattle.making.specs.Make.{progress, settled, reached, is_refused, rows_refusal}
use Rattle.making.proofs.Stages.{rows_refused, rows_good}
use Rattle.making.proofs.Files.{room_whole, rows_filed}
use Rattle.making.proofs.Maker.take_rows.Goals as goal
use Rattle.making.proofs.Maker.take_rows.Goals.{After-file_room-end}

-- the part that is lent
part_long : (c : After-file_room-end) →
    length (take c.file_room-end.result c.args.file.now) ≡ c.file_room-end.result
part_long c =
    length-take-le c.file_room-end.result c.args.file.now c.file_room-end.ensures.1

pub write_empty-requires : goal.write_empty-requires
write_empty-requires c =
    let r = (goal.at.write_empty-requires c).After-file_room-end in
    let a = r.args in
    let e = r.file_room-end.ensures.0 in
    let long = part_long r in
    λ some. long ∙ e ∙ room_whole a.self.n a.self.t (length a.file.now) (λ z. some (long ∙ e ∙ z))

pub returns-in-Err : goal.returns-in-Err
unfolding is_refused rows_refusal
returns-in-Err c =
    let r = (goal.at.returns-in-Err c).After-file_room-end in
    let a = r.args in
    let s = progress a.self a.file.now in
    let end = r.file_room-end.result in
    let e = c.in-Err.ensures in
    let number = rows_refusal a.self a.rows.now (length a.file.now) in
    let is : c.in-Err.refusal ≡ number =
    e.0
    ∙ ap (write_heading_refusal a.self.n a.self.t a.self.faulty a.rows.now)
    (part_long r ∙ r.file_room-end.ensures.0) in
    ap (λ (m : Maker). progress m (c.write_empty.new.file ++ drop end a.file.now))
    (c.refused.ensures ∙ ap (λ (k : ℕ). settled a.self k a.self.fault) is)
    ∙ ap (λ (xs : List ℕ). progress (settled a.self number a.self.fault) (xs ++ drop end a.file.now)) e.2
    ∙ ap (progress (settled a.self number a.self.fault)) (take-append-drop end a.file.now)
    ∙ rows_refused s a.rows.now (λ z. e.1 (is ∙ z))

pub returns : goal.returns
unfolding rows_refusal reached
returns c =
    let r = (goal.at.returns c).After-file_room-end in
    let a = r.args in
    let end = r.file_room-end.result in
    let e = c.in_default.ensures in
    let passes : write_heading_refusal a.self.n a.self.t a.self.faulty a.rows.now end ≡ 0 =
    ap (write_heading_refusal a.self.n a.self.t a.self.faulty a.rows.now) (sym (part_long r)) ∙ e.0 in
    let none : rows_refusal a.self a.rows.now (length a.file.now) ≡ 0 =
    ap (write_heading_refusal a.self.n a.self.t a.self.faulty a.rows.now) (sym r.file_room-end.ensures.0) ∙ passes in
    ap (progress (reached a.self 2 a.self.n a.self.t a.self.faulty))
    (rows_filed a.self a.rows.now a.file.now _ end r.file_room-end.ensures.0 passes e.1)
    ∙ rows_good (progress a.self a.file.now) a.rows.now none

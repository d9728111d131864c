-- `gradecast::steps` meets its contract: it refuses with zeros, and else gives what all steps find. Assumes nothing.
use mathlib.Core.Path.{◌≡◌, sym, ap, ap₂, ◌∙◌}
use mathlib.Core.List.{List}
use Prim.Native.Nat.{ℕ}
use Rattle.sizes.proofs.Numbers.{named}
use Rattle.gradecast.specs.declared.Settings.{Settings}
use Rattle.gradecast.specs.Cast.{cast_of}
use Rattle.gradecast.proofs.Replies.{steps_ready, steps_sized, cast_refused, cast_taken}
use Rattle.gradecast.proofs.steps.Reads as Reads
use Rattle.gradecast.proofs.steps.Goals as goal

-- the contract admits one reply
pub only_one : (κs : _) (a : _) (r s : _) (x y : _) → Reads.Post κs a r x → Reads.Post κs a s y → r ≡ s
only_one κs a r s x y p q = p ∙ sym q

pub returns-in-Err : goal.returns-in-Err
returns-in-Err c =
    cast_refused _ _ _ _ _ _ _ (c.from.ensures ∙ c.in-Err.ensures) (λ z. named _ (sym c.from.ensures ∙ z))

pub new-requires : goal.new-requires
new-requires c =
    let passed = sym c.in_default.ensures in
    (steps_ready _ _ _ passed, steps_sized c.args.settings _ passed)

pub returns : goal.returns
returns c =
    let hall = c.new.result in
    let a = c.args in
    let s = a.settings in
    let e = c.new.ensures in
    c.all_steps.ensures
    ∙ ap (λ (s : Settings). cast_of s.n s.t s.faulty hall.rows.now hall.lists.now hall.table.now) e.0
    ∙ ap (λ (rows : List ℕ). cast_of s.n s.t s.faulty rows hall.lists.now hall.table.now) e.1
    ∙ ap₂ (cast_of s.n s.t s.faulty a.rows.now) e.2 e.3
    ∙ cast_taken _ _ _ _ _ _ (sym c.in_default.ensures)

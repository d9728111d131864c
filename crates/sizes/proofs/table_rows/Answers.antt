-- `sizes::table_rows` meets its contract: inside 1 to 13 it reads the table, whose rule one computed test gives;
-- outside both sides are 0. Assumes nothing.
use mathlib.Core.Path.{◌≡◌, refl, sym, ◌∙◌}
use mathlib.Core.Bool.{false}
use mathlib.Core.List.{List, [], ◌∷◌}
use Prim.Native.Nat.{ℕ}
use borrow.Author.Rules.{rules}
use Rattle.counting.specs.Count.{any}
use Rattle.sizes.specs.Sizes.{table_rows}
use Rattle.sizes.proofs.Laws.{by_n_low, by_n_high, table_rule, wrong}
use Rattle.sizes.proofs.table_rows.Reads as Reads
use Rattle.sizes.proofs.table_rows.Goals as goal

numbers : List ℕ
numbers = 3 ∷ 20 ∷ 63 ∷ 144 ∷ 275 ∷ 468 ∷ 735 ∷ 1088 ∷ 1539 ∷ 2100 ∷ 2783 ∷ 3600 ∷ 4563 ∷ []

right : any 13 (wrong numbers table_rows) ≡ false
unfolding numbers any table_rows
right = refl

-- the contract admits one reply
pub only_one : (κs : _) (a : _) (r s : _) (x y : _) → Reads.Post κs a r x → Reads.Post κs a s y → r ≡ s
only_one κs a r s x y p q = p ∙ sym q

pub returns-in-1-to-13 : goal.returns-in-1-to-13
unfolding numbers
returns-in-1-to-13 c = table_rule numbers table_rows right c.args.n (search rules) (search rules)

pub returns-in_default : goal.returns-in_default
returns-in_default c = by_n_low table_rows c.args.n (search rules)

pub returns-in_default-2 : goal.returns-in_default-2
returns-in_default-2 c = by_n_high table_rows c.args.n (search rules)

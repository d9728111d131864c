-- What the private functions say of their parts of the work. No promise of the crate names any of it.
use Rattle.std.specs.Prelude.{ℕ, List}
use Rattle.counting.specs.Most.{support}
use Rattle.tally.specs.declared.Lead.{Lead}

-- a row with its support in xs
unfoldable pub lead_of : List ℕ → ℕ → Lead
lead_of xs row = record { row = row; support = support xs row }

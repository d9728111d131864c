-- What the private functions say of their parts of the work. No promise of the crate names any of it.
use Rattle.std.specs.Prelude.{ℕ, suc, ◌≡◌, ◌≢◌, ◌<◌, List, get_or, Option, Some, None, Result, Ok, Err, replicate}
use Rattle.runfile.specs.declared.Heading.{Heading}
use Rattle.runfile.specs.Reply.{heading_writes}
use Rattle.listing.specs.File.{heading}
use Rattle.listing.specs.Listing.{ends_with}

-- the heading of a good file, which is bytes, was read, its rows to thirteen places
pub record GoodRead (bytes : List ℕ) (h : Heading) (rows : List ℕ) : Type 0 where
  pub sent : ends_with bytes ≡ 0
  pub small : (i : ℕ) → get_or bytes i 0 < 256
  pub said : h ≡ heading bytes
  pub written : rows ≡ heading_writes bytes (replicate 13 0)

-- a file is refused by this number, or is the file of these bytes where the number is 0
abbrev pub Opened : ℕ → List ℕ → Result (List ℕ) ℕ → Type 0
Opened number bytes (Ok file) = (number ≡ 0) × (file ≡ bytes)
Opened number bytes (Err refusal) = (refusal ≡ number) × (refusal ≢ 0)

-- which part it is: the heading, or a table
abbrev pub part_of : Option ℕ → ℕ
part_of None = 0
part_of (Some m) = suc m

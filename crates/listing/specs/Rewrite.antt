-- A whole run file, put together from what it holds.
use Rattle.std.specs.Prelude.{ℕ, zero, suc, ◌+◌, List, [], ◌++◌}
use Rattle.runfile.specs.Write.{heading_file, table_file}

-- the first m of many texts, one behind the other
unfoldable pub joined : (ℕ → List ℕ) → ℕ → List ℕ
joined texts zero = []
joined texts (suc m) = joined texts m ++ texts m

-- the bytes of a file: the heading, and behind it tables 0 to t
unfoldable pub file_from : ℕ → ℕ → ℕ → List ℕ → (ℕ → List ℕ) → List ℕ
file_from n t faulty rows tables = heading_file n t faulty rows ++ joined (λ m. table_file n (tables m)) (t + 1)

-- What a private function says of its part of the work. No promise of the crate names it.
use Rattle.std.specs.Prelude.{ℕ, List, ◌∷◌, ◌++◌}
use Rattle.runfile.specs.File.{in_bytes, mark, the_version}

-- the heading's 9 bytes before its rows
unfoldable pub first_nine : ℕ → ℕ → ℕ → List ℕ
first_nine n t faulty = mark ++ (in_bytes 2 the_version ++ (n ∷ t ∷ in_bytes 2 faulty))

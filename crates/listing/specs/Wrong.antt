-- Wrong lines `at`, which theorems refute. No promise rests on them.
use Rattle.std.specs.Prelude.{List, [], ◌∷◌, ℕ, ◌+◌, ◌-◌, ◌%◌}
use Rattle.lines.specs.Line.{line_of}
use Rattle.listing.specs.Listing.{at_word}

-- box 9 and above taken for box 1 and above
unfoldable pub boxes_by_eight : ℕ → ℕ → ℕ → ℕ → List ℕ
boxes_by_eight iteration i row list = line_of at_word (iteration ∷ (i % 8 + 1) ∷ row ∷ list ∷ [])

-- the iteration printed from 0
unfoldable pub iterations_from0 : ℕ → ℕ → ℕ → ℕ → List ℕ
iterations_from0 iteration i row list = line_of at_word ((iteration - 1) ∷ (i + 1) ∷ row ∷ list ∷ [])

-- `run::Run::step5_places`: after i turns the rows and the lists of the first i boxes stand as they are to, and the
-- other places still hold 0.
use Prim.Native.Nat.{ℕ}
use lib.ListN.{get_or, replicate}
use Rattle.counting.proofs.Loops.{Filled}
use Rattle.gradecast.specs.declared.Cast.{Cast}
use Rattle.run.specs.declared.Run.{Run}
use Rattle.run.specs.Inside.{part, row_from, list_from}
use Rattle.run.specs.Iteration.{entry}
use Rattle.run.proofs.Run.step5_places.Given as goal

-- the row and the list of place i
abbrev pub row : Run → Cast → ℕ → ℕ
row s cast =
    entry s.n s.faulty
    (λ i. row_from (get_or s.rows i 0) (part s.n cast.rows i) (part s.n cast.confidences i))

abbrev pub list : Run → Cast → ℕ → ℕ
list s cast = entry s.n s.faulty (λ i. list_from (get_or s.lists i 0) (part s.n cast.confidences i))

abbrev pub invariant-loop-i : goal.invariant-loop-i
invariant-loop-i l =
    Filled l.self.n (row l.self l.cast) (replicate 13 0) l.i l.rows ×
    Filled l.self.n (list l.self l.cast) (replicate 13 0) l.i l.lists

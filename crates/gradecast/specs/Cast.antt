-- Steps 1 to 4 as one reply: the messages, and what every sound box makes of every leader.
use Rattle.std.specs.Prelude.{ℕ, ◌*◌, ◌/◌, ◌%◌, cond, not, List, [], ◌∷◌, eqb, length, replicate}
use Rattle.counting.specs.Count.{front}
use Rattle.counting.specs.Refuse.{first_of}
use Rattle.counting.specs.Refuse.Refusal.{refuse}
use Rattle.sizes.specs.Sizes.{outside, too_many, sound, table_rows}
use Rattle.gradecast.specs.declared.Cast.{Cast}
use Rattle.gradecast.specs.Steps.{grade_row, confidence, support_for, messages}

-- what a sound box i has for leader k; nothing in a faulty box's place
unfoldable pub of_sound : ℕ → (ℕ → ℕ → ℕ) → ℕ → ℕ → ℕ
of_sound faulty f i k = cond (sound faulty i) (f i k) 0

-- n rows of n numbers in 169 places, of which the first q are there: f i k stands at place i * n + k
unfoldable pub cells_to : ℕ → ℕ → (ℕ → ℕ → ℕ) → List ℕ
cells_to q n f = front q (λ p. f (p / n) (p % n)) (replicate 169 0)

-- all of them
unfoldable pub cells : ℕ → (ℕ → ℕ → ℕ) → List ℕ
cells n f = cells_to (n * n) n f

-- what steps 1 to 4 find where they are not refused
unfoldable pub cast_of : ℕ → ℕ → ℕ → List ℕ → List ℕ → List ℕ → Cast
cast_of n t faulty rows lists table =
    record {
      refusal = 0;
      sent = messages n t faulty rows lists table;
      rows = cells n (of_sound faulty (grade_row n t faulty rows lists table));
      confidences = cells n (of_sound faulty (confidence n t faulty rows lists table));
      supports = cells n (of_sound faulty (support_for n t faulty rows lists table));
    }

-- the refusals of steps 1 to 4: 4, 5, 11
unfoldable pub cast_refusal : ℕ → ℕ → List ℕ → ℕ
cast_refusal n t table =
    first_of
    (refuse 4 (outside n) ∷
    refuse 5 (too_many n t) ∷
    refuse 11 (not (eqb (length table) (table_rows n))) ∷
    [])

-- refused steps give 0 for all but the refusal's number
unfoldable pub no_cast : ℕ → Cast
no_cast refusal =
    record {
      refusal = refusal;
      sent = 0;
      rows = replicate 169 0;
      confidences = replicate 169 0;
      supports = replicate 169 0;
    }

-- the whole reply of steps 1 to 4
unfoldable pub cast_reply : ℕ → ℕ → ℕ → List ℕ → List ℕ → List ℕ → Cast
cast_reply n t faulty rows lists table =
    cond (eqb (cast_refusal n t table) 0) (cast_of n t faulty rows lists table) (no_cast (cast_refusal n t table))

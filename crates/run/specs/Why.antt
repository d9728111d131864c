-- The call that says why a box is on a list, with its refusals. Box numbers count from 1 here, as in what people read.
use Rattle.std.specs.Prelude.{ℕ, ◌-◌, Bool, cond, ◌||◌, [], ◌∷◌, eqb, ltb}
use Rattle.counting.specs.Refuse.{first_of}
use Rattle.counting.specs.Refuse.Refusal.{refuse}
use Rattle.counting.specs.Sets.{member}
use Rattle.sizes.specs.Sizes.{outside, too_many, stray, sound_zero}
use Rattle.run.specs.declared.Run.{Run}
use Rattle.run.specs.declared.Why.{Why}
use Rattle.run.specs.Iteration.{no_reason, reason_at}
use Rattle.run.specs.State.{overdone, bad_state}

-- a box number outside 1 to n
unfoldable pub no_box : ℕ → ℕ → Bool
no_box n number = ltb number 1 || ltb n number

-- a box that cannot be asked: none of the n, or a faulty one
unfoldable pub not_asked : Run → ℕ → Bool
not_asked s asked = no_box s.n asked || member s.faulty (asked - 1)

-- the refusals of the call: 4, 5, 6, 9, 14, 15
unfoldable pub why_refusal : Run → ℕ → ℕ → ℕ
why_refusal s asked listed =
    first_of
    (refuse 4 (outside s.n) ∷
    refuse 5 (too_many s.n s.t) ∷
    refuse 6 (stray s.n s.faulty) ∷
    refuse 9 (sound_zero s.n s.faulty s.rows) ∷
    refuse 14 (overdone s || bad_state s) ∷
    refuse 15 (not_asked s asked || no_box s.n listed) ∷
    [])

-- the state as it came, and the reason: nothing where the box is not listed, and where the call is refused
unfoldable pub why_reply : Run → ℕ → ℕ → Why
why_reply s asked listed =
    record {
      refusal = why_refusal s asked listed;
      run = s;
      reason = cond (eqb (why_refusal s asked listed) 0) (reason_at s (asked - 1) (listed - 1)) no_reason;
    }

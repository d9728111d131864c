-- The number of a box as a text has it, and the line that says why a box is on a list. A text is a list of bytes.
use Rattle.std.specs.Prelude.{ℕ, Bool, cond, ◌&&◌, List, [], ◌∷◌, ◌++◌, eqb, ltb, length, Option, Some, None}
use Rattle.run.specs.declared.Next.{Next}
use Rattle.run.specs.declared.Reason.{Reason}
use Rattle.run.specs.declared.Why.{Why}
use Rattle.run.specs.Iteration.{no_reason}
use Rattle.run.specs.Why.{why_reply}
use Rattle.lines.specs.Line.{field, line_of, placed, read_on}
use Rattle.lines.specs.Read.{is_digits}
use Rattle.listing.specs.Listing.{refused_word, outcome_of}
use Rattle.why.specs.declared.Answered.{Answered}

-- a box number is 1 to 20 decimal digits and nothing else
unfoldable pub is_box_number : List ℕ → Bool
is_box_number text = ltb 0 (length text) && ltb (length text) 21 && is_digits text

-- 256 stands for every value above 255
unfoldable pub capped : ℕ → ℕ
capped value = cond (ltb value 256) value 256

-- the reply: the value of the text where it is a box number
unfoldable pub number_reply : List ℕ → Option ℕ
number_reply text = cond (is_box_number text) (Some (capped (read_on 0 text))) None

-- a newline
abbrev pub newline : List ℕ
newline = 10 ∷ []

-- `listed in iteration`
abbrev pub listed_words : List ℕ
listed_words =
    108 ∷ 105 ∷ 115 ∷ 116 ∷ 101 ∷ 100 ∷ 32 ∷ 105 ∷ 110 ∷ 32 ∷ 105 ∷ 116 ∷ 101 ∷ 114 ∷ 97 ∷ 116 ∷ 105 ∷ 111 ∷ 110 ∷ []

-- ` with confidence`
abbrev pub confidence_words : List ℕ
confidence_words =
    32 ∷ 119 ∷ 105 ∷ 116 ∷ 104 ∷ 32 ∷ 99 ∷ 111 ∷ 110 ∷ 102 ∷ 105 ∷ 100 ∷ 101 ∷ 110 ∷ 99 ∷ 101 ∷ []

-- ` and support`
abbrev pub support_words : List ℕ
support_words = 32 ∷ 97 ∷ 110 ∷ 100 ∷ 32 ∷ 115 ∷ 117 ∷ 112 ∷ 112 ∷ 111 ∷ 114 ∷ 116 ∷ []

-- `not listed`
abbrev pub not_listed_words : List ℕ
not_listed_words = 110 ∷ 111 ∷ 116 ∷ 32 ∷ 108 ∷ 105 ∷ 115 ∷ 116 ∷ 101 ∷ 100 ∷ []

-- the line of a reason: the iteration, and the confidence and the support of the leader there
unfoldable pub reason_line : ℕ → ℕ → ℕ → List ℕ
reason_line iteration confidence support =
    listed_words ++ field iteration
    ++ (confidence_words ++ field confidence)
    ++ (support_words ++ field support)
    ++ newline

-- the line of a box that is on no list
unfoldable pub not_listed_line : List ℕ
not_listed_line = not_listed_words ++ newline

-- `refused` and its number
unfoldable pub refused_line : ℕ → List ℕ
refused_line refusal = line_of refused_word (refusal ∷ [])

-- the line of a reason; iteration 0 says that the box is not listed
unfoldable pub listed_line : Reason → List ℕ
listed_line r =
    cond (eqb r.iteration 0) not_listed_line (reason_line r.iteration r.confidence r.support)

-- the line of a reply
unfoldable pub why_line : Why → List ℕ
why_line w = cond (eqb w.refusal 0) (listed_line w.reason) (refused_line w.refusal)

-- the question put to an outcome: its refusal and no reason, or else the reply of its last state
unfoldable pub why_after : Next → ℕ → ℕ → Why
why_after last asked listed =
    cond (eqb last.refusal 0) (why_reply last.run asked listed)
    (record { refusal = last.refusal; run = last.run; reason = no_reason })

module _ (bytes : List ℕ) (asked listed : ℕ) where
  -- the question put to a file
  unfoldable pub why_of : Why
  why_of = why_after (outcome_of bytes) asked listed

  -- the line that says why
  unfoldable pub answer_of : List ℕ
  answer_of = why_line why_of

  -- the reply to a slice of so many bytes: refusal 10 where the line does not fit, else its length and the number
  -- behind `refused`, or 0
  unfoldable pub answer_reply : ℕ → Answered
  answer_reply room =
      cond (ltb room (length answer_of))
      (record { refusal = 10; size = 0; ends = 0 })
      (record { refusal = 0; size = length answer_of; ends = why_of.refusal })

  -- the slice afterwards: the line at its front, or as it was where the call is refused
  unfoldable pub answer_writes : List ℕ → List ℕ
  answer_writes slice = cond (ltb (length slice) (length answer_of)) slice (placed slice 0 answer_of)

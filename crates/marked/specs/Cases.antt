-- The marked cases of docs/SCOPE.md as one list: what the definitions give, and the numbers that are printed there.
-- Boxes count from 0 here.
use Rattle.std.specs.Prelude.{ℕ, zero, suc, ◌≡◌, List, [], ◌∷◌, ◌++◌, take, set, replicate}
use Rattle.tally.specs.Reply.{vote_reply, grade_reply}
use Rattle.gradecast.specs.Steps.{place1, place2, place3, confidence, grade_row, support_for}
use Rattle.gradecast.specs.Lies.{silent}
use Rattle.run.specs.declared.Run.{Run}
use Rattle.run.specs.declared.Next.{Next}
use Rattle.run.specs.declared.Why.{Why}
use Rattle.run.specs.State.{start_reply, after}
use Rattle.run.specs.Why.{why_reply}
use Rattle.listing.specs.Listing.{listing_of}

-- a case: the numbers that the definitions give, and the numbers of docs/SCOPE.md; or what they give for any slice of
-- rows, and a number that never arises
pub data Case : Type 0 where
  gives : List ℕ → List ℕ → Case
  never : (List ℕ → ℕ) → ℕ → Case

-- every case of the list gives what is printed
abbrev pub Hold : List Case → Type 0
Hold [] = Unit
Hold (Case.gives got printed ∷ rest) = (got ≡ printed) × Hold rest
Hold (Case.never got number ∷ rest) = ((rows : List ℕ) → got rows ≡ number → ⊥) × Hold rest

-- a reply in numbers: the refusal, the messages sent so far, then the rows and the lists of boxes 1 to n
abbrev pub shown : Next → List ℕ
shown r = r.refusal ∷ r.run.sent ∷ take r.run.n r.run.rows ++ take r.run.n r.run.lists

-- what box i makes of leader k: row, confidence and support
abbrev pub graded : Run → List ℕ → ℕ → ℕ → List ℕ
graded s table i k =
    grade_row s.n s.t s.faulty s.rows s.lists table i k ∷
    confidence s.n s.t s.faulty s.rows s.lists table i k ∷
    support_for s.n s.t s.faulty s.rows s.lists table i k ∷
    []

-- case S: box 4 sends, all for leader 4, in step 1 20 to boxes 1 and 2 and 99 to box 3, in step 2 20 to box 1 and 99
-- to box 2, in step 3 20 to box 2
abbrev pub lies_of_s : List ℕ
lies_of_s =
    set
    (set
    (set (set (set (set (silent 4) (place1 4 3 0) 20) (place1 4 3 1) 20) (place1 4 3 2) 99) (place2 4 3 0 3) 20)
    (place2 4 3 1 3)
    99)
    (place3 4 3 1 3)
    20

-- in iteration 1 box 4 lies, in iteration 2 it is silent
abbrev pub tables_of_s : ℕ → List ℕ
tables_of_s zero = lies_of_s
tables_of_s (suc m) = silent 4

-- rows 10, 20, 30, and nothing for the faulty box
abbrev pub rows_of_s : List ℕ
rows_of_s = 10 ∷ 20 ∷ 30 ∷ 0 ∷ []

-- case S after m iterations: n = 4, t = 1, box 4 faulty
abbrev pub case_s : ℕ → Next
case_s = after (start_reply 4 1 8 rows_of_s) tables_of_s

-- the answer to why a box is listed, in numbers: the refusal, then iteration, confidence and support
abbrev pub told : Why → List ℕ
told r = r.refusal ∷ r.reason.iteration ∷ r.reason.confidence ∷ r.reason.support ∷ []

-- what a box says of another, by the state of a reply; both count from 1 here, as in the call
abbrev pub says : Next → ℕ → ℕ → List ℕ
says r asked listed = told (why_reply r.run asked listed)

-- what a box says of boxes 1 to 3
abbrev pub says_of3 : Next → ℕ → List ℕ
says_of3 r asked = says r asked 1 ++ (says r asked 2 ++ says r asked 3)

-- rows below 256 in bytes, eight for each
abbrev pub in_bytes : List ℕ → List ℕ
in_bytes [] = []
in_bytes (row ∷ rows) = 0 ∷ 0 ∷ 0 ∷ 0 ∷ 0 ∷ 0 ∷ 0 ∷ row ∷ in_bytes rows

-- case S as a run file: HNB, version 1, n = 4, t = 1, box 4 faulty, the rows, and the two tables
abbrev pub file_of_s : List ℕ
file_of_s =
    72 ∷ 78 ∷ 66 ∷ 0 ∷ 1 ∷ 4 ∷ 1 ∷ 0 ∷ 8 ∷
    in_bytes rows_of_s ++ (in_bytes lies_of_s ++ in_bytes (silent 4))

-- the eight lines of case S, as they are printed: run 4 1 8; at 1 1 10 8; at 1 2 20 8; at 1 3 10 8; at 2 1 10
-- 8; at 2 2 10 8; at 2 3 10 8; sent 138
abbrev pub lines_of_s : List ℕ
lines_of_s =
    114 ∷ 117 ∷ 110 ∷ 32 ∷ 52 ∷ 32 ∷ 49 ∷ 32 ∷ 56 ∷ 10 ∷
    97 ∷ 116 ∷ 32 ∷ 49 ∷ 32 ∷ 49 ∷ 32 ∷ 49 ∷ 48 ∷ 32 ∷ 56 ∷ 10 ∷
    97 ∷ 116 ∷ 32 ∷ 49 ∷ 32 ∷ 50 ∷ 32 ∷ 50 ∷ 48 ∷ 32 ∷ 56 ∷ 10 ∷
    97 ∷ 116 ∷ 32 ∷ 49 ∷ 32 ∷ 51 ∷ 32 ∷ 49 ∷ 48 ∷ 32 ∷ 56 ∷ 10 ∷
    97 ∷ 116 ∷ 32 ∷ 50 ∷ 32 ∷ 49 ∷ 32 ∷ 49 ∷ 48 ∷ 32 ∷ 56 ∷ 10 ∷
    97 ∷ 116 ∷ 32 ∷ 50 ∷ 32 ∷ 50 ∷ 32 ∷ 49 ∷ 48 ∷ 32 ∷ 56 ∷ 10 ∷
    97 ∷ 116 ∷ 32 ∷ 50 ∷ 32 ∷ 51 ∷ 32 ∷ 49 ∷ 48 ∷ 32 ∷ 56 ∷ 10 ∷
    115 ∷ 101 ∷ 110 ∷ 116 ∷ 32 ∷ 49 ∷ 51 ∷ 56 ∷ 10 ∷
    []

-- a run with boxes that say nothing in the faulty places
abbrev pub quiet : ℕ → ℕ → ℕ → List ℕ → ℕ → Next
quiet n t faulty rows = after (start_reply n t faulty rows) (λ m. silent n)

-- row, confidence and support of a grade over n rows of which so many hold 6 and the others nothing
abbrev pub grade_by : ℕ → ℕ → ℕ → List ℕ
grade_by t support others =
    (grade_reply (replicate support 6 ++ replicate others 0) t).row ∷
    (grade_reply (replicate support 6 ++ replicate others 0) t).confidence ∷
    (grade_reply (replicate support 6 ++ replicate others 0) t).support ∷
    []

-- refusal and row of a vote
abbrev pub vote_gives : ℕ → List ℕ → List ℕ
vote_gives t rows = (vote_reply rows t).refusal ∷ (vote_reply rows t).row ∷ []

-- the marked cases, in their order
abbrev pub marked : List Case
marked =
    -- case S: messages 75, then 63 more; all but box 2 hold 10 after iteration 1, all after iteration 2
    Case.gives (shown (case_s 1)) (0 ∷ 75 ∷ 10 ∷ 20 ∷ 10 ∷ 0 ∷ 8 ∷ 8 ∷ 8 ∷ 0 ∷ []) ∷
    Case.gives (shown (case_s 2)) (0 ∷ 138 ∷ 10 ∷ 10 ∷ 10 ∷ 0 ∷ 8 ∷ 8 ∷ 8 ∷ 0 ∷ []) ∷
    -- box 2 grades leader 4 with 20 at confidence 1 and support 2, boxes 1 and 3 with confidence 0 and support 1
    Case.gives (graded (case_s 0).run lies_of_s 1 3) (20 ∷ 1 ∷ 2 ∷ []) ∷
    Case.gives (graded (case_s 0).run lies_of_s 0 3) (0 ∷ 0 ∷ 1 ∷ []) ∷
    Case.gives (graded (case_s 0).run lies_of_s 2 3) (0 ∷ 0 ∷ 1 ∷ []) ∷
    -- why box 4 is listed, after the whole run: since iteration 1, by boxes 1 and 3 with confidence 0 and support 1,
    -- by box 2 with confidence 1 and support 2
    Case.gives (says (case_s 2) 1 4) (0 ∷ 1 ∷ 0 ∷ 1 ∷ []) ∷
    Case.gives (says (case_s 2) 2 4) (0 ∷ 1 ∷ 1 ∷ 2 ∷ []) ∷
    Case.gives (says (case_s 2) 3 4) (0 ∷ 1 ∷ 0 ∷ 1 ∷ []) ∷
    -- boxes 1 to 3 are on nobody's list
    Case.gives (says_of3 (case_s 2) 1) (replicate 12 0) ∷
    Case.gives (says_of3 (case_s 2) 2) (replicate 12 0) ∷
    Case.gives (says_of3 (case_s 2) 3) (replicate 12 0) ∷
    -- box 4 is faulty and can't be asked
    Case.gives (says (case_s 2) 4 1) (15 ∷ 0 ∷ 0 ∷ 0 ∷ []) ∷
    -- the whole listing of its file
    Case.gives (listing_of file_of_s) lines_of_s ∷
    -- rows 50, 50, 50, box 4 silent: 63 and 63 messages
    Case.gives (shown (quiet 4 1 8 (50 ∷ 50 ∷ 50 ∷ 0 ∷ []) 1)) (0 ∷ 63 ∷ 50 ∷ 50 ∷ 50 ∷ 0 ∷ 8 ∷ 8 ∷ 8 ∷ 0 ∷ []) ∷
    Case.gives (shown (quiet 4 1 8 (50 ∷ 50 ∷ 50 ∷ 0 ∷ []) 2)) (0 ∷ 126 ∷ 50 ∷ 50 ∷ 50 ∷ 0 ∷ 8 ∷ 8 ∷ 8 ∷ 0 ∷ []) ∷
    -- the same with rows 10, 20, 30: all end with 10
    Case.gives (shown (quiet 4 1 8 rows_of_s 2)) (0 ∷ 126 ∷ 10 ∷ 10 ∷ 10 ∷ 0 ∷ 8 ∷ 8 ∷ 8 ∷ 0 ∷ []) ∷
    -- no faulty box, rows 7, 7, 9, 9: all end with 7, lists 0, 216 messages
    Case.gives (shown (quiet 4 1 0 (7 ∷ 7 ∷ 9 ∷ 9 ∷ []) 2)) (0 ∷ 216 ∷ 7 ∷ 7 ∷ 7 ∷ 7 ∷ 0 ∷ 0 ∷ 0 ∷ 0 ∷ []) ∷
    -- n = 1, t = 0, row 5: one iteration, row 5, no message
    Case.gives (shown (quiet 1 0 0 (5 ∷ []) 1)) (0 ∷ 0 ∷ 5 ∷ 0 ∷ []) ∷
    -- grade, n = 7, t = 2: support 2, 3, 4, 5, so stated, gives 0, 1, 1, 2
    Case.gives (grade_by 2 2 5) (0 ∷ 0 ∷ 2 ∷ []) ∷
    Case.gives (grade_by 2 3 4) (6 ∷ 1 ∷ 3 ∷ []) ∷
    Case.gives (grade_by 2 4 3) (6 ∷ 1 ∷ 4 ∷ []) ∷
    Case.gives (grade_by 2 5 2) (6 ∷ 2 ∷ 5 ∷ []) ∷
    -- grade, n = 5, t = 1: support 3 gives 2, though n − t is 4
    Case.gives (grade_by 1 3 2) (6 ∷ 2 ∷ 3 ∷ []) ∷
    -- grade, n = 3, t = 0: support 1 gives 2; confidence 1 never arises when t is 0
    Case.gives (grade_by 0 1 2) (6 ∷ 2 ∷ 1 ∷ []) ∷
    Case.never (λ rows. (grade_reply rows 0).confidence) 1 ∷
    -- vote, n = 4, t = 1: rows 6, 6, 0, 6 give 6; rows 6, 6, 0, 0 give 0
    Case.gives (vote_gives 1 (6 ∷ 6 ∷ 0 ∷ 6 ∷ [])) (0 ∷ 6 ∷ []) ∷
    Case.gives (vote_gives 1 (6 ∷ 6 ∷ 0 ∷ 0 ∷ [])) (0 ∷ 0 ∷ []) ∷
    []

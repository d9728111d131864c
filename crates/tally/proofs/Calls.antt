-- Replies of vote, grade and choice that meet the contracts, as the toolchain states them. There are some for all
-- arguments: what the definitions give meets the contract. Assumes nothing.
use mathlib.Core.Path.{◌≡◌, refl}
use mathlib.Core.List.{List, []}
use Prim.Native.Nat.{ℕ}
use denote.Ref.{Bor}
use denote.MutBor.{MutBor}
use Rattle.tally.specs.declared.Voted.{Voted}
use Rattle.tally.specs.declared.Graded.{Graded}
use Rattle.tally.specs.declared.Chosen.{Chosen}
use Rattle.tally.specs.Reply.{vote_reply, grade_reply, choice_reply}
use Rattle.tally.proofs.vote.Reads as VoteReads
use Rattle.tally.proofs.grade.Reads as GradeReads
use Rattle.tally.proofs.choose.Reads as ChooseReads

-- a slice of these numbers, lent
abbrev pub lent : List ℕ → Bor (List ℕ)
lent numbers = record { ref_ptr = (0, 0); now = numbers }

abbrev pub lent_mut : List ℕ → MutBor (List ℕ)
lent_mut numbers = record { ref_ptr = (0, 0); ghost_name = 0; now = numbers }

-- r is a reply of `vote` to these rows and t
pub data VoteCall : List ℕ → ℕ → Voted → Type 1 where
  call : (κs : _) (a : _) (r : _) (x : _) → VoteReads.Post κs a r x → VoteCall a.0.now a.1.0 r

pub vote_call_is : {rows : List ℕ} {t : ℕ} {r : Voted} → VoteCall rows t r → r ≡ vote_reply rows t
vote_call_is (VoteCall.call κs a r x p) = p

pub vote_call : (rows : List ℕ) (t : ℕ) → VoteCall rows t (vote_reply rows t)
vote_call rows t = VoteCall.call ([], tt) (lent rows, (t, tt)) (vote_reply rows t) (lent rows, (t, tt)) refl

-- r is a reply of `grade` to these rows and t
pub data GradeCall : List ℕ → ℕ → Graded → Type 1 where
  call : (κs : _) (a : _) (r : _) (x : _) → GradeReads.Post κs a r x → GradeCall a.0.now a.1.0 r

pub grade_call_is : {rows : List ℕ} {t : ℕ} {r : Graded} → GradeCall rows t r → r ≡ grade_reply rows t
grade_call_is (GradeCall.call κs a r x p) = p

pub grade_call : (rows : List ℕ) (t : ℕ) → GradeCall rows t (grade_reply rows t)
grade_call rows t = GradeCall.call ([], tt) (lent rows, (t, tt)) (grade_reply rows t) (lent rows, (t, tt)) refl

-- r is a reply of `choose` to these rows and confidences
pub data ChooseCall : List ℕ → List ℕ → Chosen → Type 1 where
  call : (κs : _) (a : _) (r : _) (x : _) → ChooseReads.Post κs a r x → ChooseCall a.0.now a.1.0.now r

pub choose_call_is : {rows confidences : List ℕ} {r : Chosen} → ChooseCall rows confidences r →
    r ≡ choice_reply rows confidences
choose_call_is (ChooseCall.call κs a r x p) = p

pub choose_call : (rows confidences : List ℕ) → ChooseCall rows confidences (choice_reply rows confidences)
choose_call rows confidences =
    ChooseCall.call ([], ([], tt)) (lent rows, (lent confidences, tt)) (choice_reply rows confidences)
    (lent rows, (lent confidences, tt)) refl

-- Why a box is on a list, as it is true of the run itself: the replies of which the first is a start's and each next
-- one an iteration's. Boxes count from 0. The claim is made for every set of faulty boxes, more than t too, and for
-- everything that they send.
use Rattle.std.specs.Prelude.{ℕ, suc, ◌<◌, ◌≡◌, true, false, List, get_or}
use Rattle.counting.specs.Sets.{member}
use Rattle.gradecast.specs.Steps.{support_for}
use Rattle.run.specs.declared.Next.{Next}
use Rattle.run.specs.declared.Reason.{Reason}
use Rattle.run.specs.Iteration.{no_reason}
use Rattle.agreement.specs.Demand.{rows_after, lists_after, confidence_in}

module _ (n t faulty : ℕ) (tables : ℕ → List ℕ) (reply : ℕ → Next) where
  -- the support that box i finds for leader k, in the iteration that follows m others
  abbrev pub support_in : ℕ → ℕ → ℕ → ℕ
  support_in m i k = support_for n t faulty (rows_after reply m) (lists_after reply m) (tables m) i k

  -- the reason is the iteration in which box i listed box k: one of those done, counted from 1, with the confidence
  -- and the support found in it, which is confidence 0 or 1; and in every iteration before it the confidence is 2
  pub record TrueReason (done i k : ℕ) (r : Reason) : Type 0 where
    pub before : ℕ
    pub is_done : before < done
    pub number : r.iteration ≡ suc before
    pub found : r.confidence ≡ confidence_in n t faulty tables reply before i k
    pub backed : r.support ≡ support_in before i k
    pub low : r.confidence < 2
    pub earliest : (m : ℕ) → m < before → confidence_in n t faulty tables reply m i k ≡ 2

  -- what box i keeps of box k after so many iterations: nothing where it is not listed, and then every confidence so
  -- far is 2
  pub record Reasoned (done i k : ℕ) (r : Reason) : Type 0 where
    pub listed : member (get_or (lists_after reply done) i 0) k ≡ true → TrueReason done i k r
    pub not_listed : member (get_or (lists_after reply done) i 0) k ≡ false → r ≡ no_reason
    pub always_sure : member (get_or (lists_after reply done) i 0) k ≡ false →
        (m : ℕ) → m < done → confidence_in n t faulty tables reply m i k ≡ 2

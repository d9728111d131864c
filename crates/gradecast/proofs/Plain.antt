-- What every box hears alike. From a sender that is neither faulty nor on a list a box hears what the sender says, so
-- the rows that were put down once are what it hears; and they stay there while the other senders' rows are put down.
-- Assumes nothing.
use mathlib.Core.Path.{◌≡◌, refl, sym, ap, ◌∙◌}
use mathlib.Core.Bool.{Bool, true, false, ◌||◌}
use mathlib.Core.List.{List}
use mathlib.Core.Logic.{⊎_elim}
use Prim.Native.Nat.{ℕ, ◌+◌, ◌*◌, ◌<◌}
use native.Mathlib.Numerals.{add-one}
use native.Mathlib.Omega.{arith}
use lib.Bits.{bit_or}
use lib.ListN.{get_or}
use Rattle.counting.specs.Count.{any}
use Rattle.counting.specs.Sets.{member}
use Rattle.counting.proofs.Bools.{never, or_false_left, or_false_right}
use Rattle.counting.proofs.Count.{any_none, at_or_below}
use Rattle.counting.proofs.Sets.{member_or}
use Rattle.gradecast.specs.Steps.{sends, hears}
use Rattle.gradecast.specs.declared.Settings.{Settings}
use Rattle.gradecast.specs.Inside.{heard_from, SendersTo, FromSender, said_by, odd_to, OddSet, PlainHeard}

-- the set of the faulty boxes, to which one list after the other is put
module _ (faulty : ℕ) (lists : List ℕ) where
  pub odd_none : OddSet 0 faulty lists faulty
  unfolding odd_to any
  odd_none j = go (member faulty j)
    where
      go : (b : Bool) → b ≡ (b || false)
      go true = refl
      go false = refl

  pub odd_turn : (i odd : ℕ) → OddSet i faulty lists odd → OddSet (i + 1) faulty lists (bit_or odd (get_or lists i 0))
  unfolding odd_to any
  odd_turn i odd h j =
      member_or odd (get_or lists i 0) j
      ∙ rw (h j, add-one)
      (regroup (member faulty j) (any i (λ a. member (get_or lists a 0) j)) (member (get_or lists i 0) j))
    where
      regroup : (a b c : Bool) → ((a || b) || c) ≡ (a || (b || c))
      regroup true b c = refl
      regroup false b c = refl

  -- a box that is not among them is on no list
  pub not_odd_listed : (j : ℕ) → odd_to 13 faulty lists j ≡ false → (i : ℕ) → i < 13 →
      member (get_or lists i 0) j ≡ false
  unfolding odd_to
  not_odd_listed j h = any_none 13 listed (or_false_right (member faulty j) (any 13 listed) h)
    where
      listed : ℕ → Bool
      listed a = member (get_or lists a 0) j

module _ (s : Settings) (lists said : List ℕ) where
  module _
      (base : ℕ) (table : List ℕ) {i list : ℕ} (is_box : i < 13) (its_own : list ≡ get_or lists i 0)
    where
      -- what the box hears from each sender about each leader
      abbrev heard_by : ℕ → ℕ → ℕ
      heard_by = heard_from base s list table said i

      -- from a sender that is neither faulty nor listed
      plain_heard : (k j : ℕ) → odd_to 13 s.faulty lists j ≡ false → heard_by k j ≡ said_by s.n said k j
      unfolding heard_from hears sends odd_to
      plain_heard k j h =
          rw (
            its_own,
            not_odd_listed s.faulty lists j h i is_box,
            or_false_left (member s.faulty j) (any 13 (λ a. member (get_or lists a 0) j)) h,
          )
          refl

      -- so its rows are there already
      pub plain_turn : (j : ℕ) (heard : List ℕ) → j < s.n → odd_to 13 s.faulty lists j ≡ false →
          PlainHeard s lists said heard → SendersTo s.n j heard_by heard → SendersTo s.n (j + 1) heard_by heard
      plain_turn j heard hj o plain h = λ k b hk l. ⊎_elim (at k b hk) (h k b hk) (at_or_below b j (omega arith))
        where
          at : (k b : ℕ) → k < s.n → b ≡ j → get_or heard (k * s.n + b) 0 ≡ heard_by k b
          at k b hk q =
              let ob = ap (odd_to 13 s.faulty lists) q ∙ o in
              plain k b hk (omega arith) ob ∙ sym (plain_heard k b ob)

  -- the rows of another sender leave them as they are
  pub plain_stays : (j : ℕ) (g : ℕ → ℕ) (heard last : List ℕ) → odd_to 13 s.faulty lists j ≡ true →
      FromSender s.n j s.n g heard last → PlainHeard s lists said heard → PlainHeard s lists said last
  plain_stays j g heard last o p h =
      λ k b hk hb plain.
      p.stays k b hb (λ q. never (ap (odd_to 13 s.faulty lists) q ∙ o) plain) ∙ h k b hk hb plain

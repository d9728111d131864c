-- What a box hears in step 2 or 3. It is put down sender by sender, each sender's rows one below the other, so that a
-- leader's column is a part of its own. That column is the one of the definitions: the cell at j * n + k is what box
-- j sends about leader k where j is sound, and a faulty box's cell is never heard. Assumes nothing.
use mathlib.Core.Path.{◌≡◌, refl, sym, ap, ◌∙◌}
use mathlib.Core.List.{List}
use mathlib.Core.Logic.{⊎_elim}
use Prim.Native.Nat.{ℕ, ◌+◌, ◌-◌, ◌*◌, ◌/◌, ◌%◌, ◌≤◌, ◌<◌}
use native.Mathlib.Omega.{arith}
use lib.Arith.{digits_div, digits_mod}
use lib.ListN.{length, get_or, take, drop, set, length-drop}
use lib.Seq.{get_or-set_same, get_or-set_other, length-take-le}
use Rattle.counting.specs.Count.{build}
use Rattle.counting.proofs.Count.{at_or_below}
use Rattle.tally.specs.Tally.{vote_of, support_of, graded_row}
use Rattle.tally.specs.Reply.{vote_reply, grade_reply}
use Rattle.sizes.specs.Sizes.{Sized}
use Rattle.tally.proofs.Taken.{vote_row, grade_row_lem, grade_support}
use Rattle.gradecast.specs.Steps.{place_from, place2, place3, sends, hears, heard2, column2, voted}
use Rattle.gradecast.specs.Steps.{heard3, column3, grade_row, support_for}
use Rattle.gradecast.specs.Cast.{of_sound, cells}
use Rattle.gradecast.specs.declared.Settings.{Settings}
use Rattle.gradecast.specs.Inside.{RightSize, heard_from, SendersTo, AllHeard, FromSender, column_of}
use Rattle.gradecast.specs.Inside.{SaidSecond, SaidThird}
use Rattle.gradecast.proofs.Cells.{cells_at, part_fits, place_fits, part_built}
use Rattle.gradecast.proofs.Sound.{sends_sound}

-- two digits in base n are told by their number
digits_high : {n : ℕ} (a b c d : ℕ) → b < n → d < n → a * n + b ≡ c * n + d → a ≡ c
digits_high {n} a b c d hb hd e = sym (digits_div a hb) ∙ ap (λ (m : ℕ). m / n) e ∙ digits_div c hd

digits_low : {n : ℕ} (a b c d : ℕ) → b < n → d < n → a * n + b ≡ c * n + d → b ≡ d
digits_low {n} a b c d hb hd e = sym (digits_mod a hb) ∙ ap (λ (m : ℕ). m % n) e ∙ digits_mod c hd

-- a loop that puts down the rows of sender j one by one, as g gives them: after k of n turns the first k are there,
-- and the other senders' rows stand as they did first
pub sender_begins : (n j : ℕ) (g : ℕ → ℕ) (first : List ℕ) → FromSender n j 0 g first first
sender_begins n j g first = record { put = λ k l. absurd (omega arith); stays = λ k other l d. refl }

module _ {n j : ℕ} (high : n ≤ 13) (below : j < n) (g : ℕ → ℕ) {first : List ℕ} where
  pub sender_turn : (k : ℕ) (heard : List ℕ) {v : ℕ} → length heard ≡ 169 → FromSender n j k g first heard → k < n →
      v ≡ g k → FromSender n j (k + 1) g first (set heard (k * n + j) v)
  sender_turn k heard {v} whole h l e =
      record { put = λ a la. ⊎_elim (at a) (before a) (at_or_below a k (omega arith)); stays = stays }
    where
      at : (a : ℕ) → a ≡ k → get_or (set heard (k * n + j) v) (a * n + j) 0 ≡ g a
      at a q =
          ap (λ (m : ℕ). get_or (set heard (k * n + j) v) (m * n + j) 0) q
          ∙ get_or-set_same heard (k * n + j) v 0 (omega (arith, place_fits high l below, whole))
          ∙ e
          ∙ ap g (sym q)

      before : (a : ℕ) → a < k → get_or (set heard (k * n + j) v) (a * n + j) 0 ≡ g a
      before a la =
          get_or-set_other heard (k * n + j) (a * n + j) v 0
          (λ q. absurd (omega (arith, digits_high a j k j below below q)))
          ∙ h.put a la

      stays : (a other : ℕ) → other < n → (other ≡ j → ⊥) →
          get_or (set heard (k * n + j) v) (a * n + other) 0 ≡ get_or first (a * n + other) 0
      stays a other lo d =
          get_or-set_other heard (k * n + j) (a * n + other) v 0 (λ q. d (digits_low a other k j lo below q))
          ∙ h.stays a other lo d

-- all of them are there
pub sender_ends : {n j k : ℕ} (g : ℕ → ℕ) {first heard : List ℕ} → n ≤ k → FromSender n j k g first heard →
    FromSender n j n g first heard
sender_ends g l h = record { put = λ a la. h.put a (omega (arith, la, l)); stays = h.stays }

-- one more sender's rows are there
pub senders_turn : {n j : ℕ} (g : ℕ → ℕ → ℕ) {heard last : List ℕ} → j < n → SendersTo n j g heard →
    FromSender n j n (λ k. g k j) heard last → SendersTo n (j + 1) g last
senders_turn {n} {j} g {heard} {last} hj h p =
    λ k b hk l. ⊎_elim (at k b hk) (below k b hk) (at_or_below b j (omega arith))
  where
    at : (k b : ℕ) → k < n → b ≡ j → get_or last (k * n + b) 0 ≡ g k b
    at k b hk q = ap (λ (m : ℕ). get_or last (k * n + m) 0) q ∙ p.put k hk ∙ ap (g k) (sym q)

    below : (k b : ℕ) → k < n → b < j → get_or last (k * n + b) 0 ≡ g k b
    below k b hk l = p.stays k b (omega arith) (λ q. absurd (omega arith)) ∙ h k b hk l

-- the part that the code takes for leader k, from k * n to k * n + n, is k's column
pub part_column : (n k : ℕ) (heard : List ℕ) → take (k * n + n - k * n) (drop (k * n) heard) ≡ column_of n heard k
unfolding column_of
part_column n k heard =
    let whole : k * n + n - k * n ≡ n = omega arith in
    ap (λ (m : ℕ). take m (drop (k * n) heard)) whole

-- vote and grade over a leader's column
module _
    (s : Settings) {k : ℕ} (size : RightSize s) (leader : k < s.n) (heard : List ℕ) (all : length heard ≡ 169)
  where
    abbrev n : ℕ
    n = s.n

    abbrev t : ℕ
    t = s.t

    column_fits : Sized (length (column_of n heard k)) t
    unfolding column_of
    column_fits =
        let left = length-drop (k * n) heard in
        let m = length-take-le n (drop (k * n) heard) (omega (arith, left, part_fits size.high leader, all)) in
        record {
          low = omega (arith, m, size.low);
          high = omega (arith, m, size.high);
          tolerated = omega (arith, m, size.tolerated);
        }

    module _ {part : List ℕ} (is_column : part ≡ column_of n heard k) where
      pub column_vote : (vote_reply part t).row ≡ vote_of t (column_of n heard k)
      column_vote =
          ap (λ (xs : List ℕ). (vote_reply xs t).row) is_column ∙ vote_row (column_of n heard k) t column_fits

      pub column_row : (grade_reply part t).row ≡ graded_row t (column_of n heard k)
      column_row =
          ap (λ (xs : List ℕ). (grade_reply xs t).row) is_column ∙ grade_row_lem (column_of n heard k) t column_fits

      pub column_support : (grade_reply part t).support ≡ support_of (column_of n heard k)
      column_support =
          ap (λ (xs : List ℕ). (grade_reply xs t).support) is_column
          ∙ grade_support (column_of n heard k) t column_fits

-- what a box makes of the columns that it heard
module _
    (s : Settings) (lists table said heard : List ℕ) (i : ℕ)
    (high : s.n ≤ 13) (size : length heard ≡ 169) (rows : List ℕ)
  where
    -- for any step: said holds what the sound boxes send, and so a box hears what they send about a leader
    module _
        (base : ℕ) (f : ℕ → ℕ → ℕ) (e : said ≡ cells s.n (of_sound s.faulty f))
        (k : ℕ) (leader : k < s.n)
      where
        abbrev heard_of : ℕ → ℕ
        heard_of j = hears (get_or lists i 0) j (sends s.faulty table j (place_from base s.n j i k) (f j k))

        heard_is : (j : ℕ) → j < s.n → heard_from base s (get_or lists i 0) table said i k j ≡ heard_of j
        unfolding heard_from
        heard_is j l =
            ap (λ (m : ℕ). hears (get_or lists i 0) j (sends s.faulty table j (place_from base s.n j i k) m))
            (ap (λ (xs : List ℕ). get_or xs (j * s.n + k) 0) e ∙ cells_at s.n (of_sound s.faulty f) j k l leader)
            ∙ ap (hears (get_or lists i 0) j) (sends_sound s.faulty table f j k (place_from base s.n j i k))

        -- and that is the leader's column
        column_is : AllHeard base s (get_or lists i 0) table said i heard →
            column_of s.n heard k ≡ build s.n heard_of
        unfolding column_of
        column_is h =
            part_built s.n k heard_of heard high leader size (λ j l. h k j leader l ∙ heard_is j l)

    pub votes_heard : AllHeard (s.n * s.n) s (get_or lists i 0) table said i heard →
        SaidSecond s lists table said rows → (k : ℕ) → k < s.n →
        vote_of s.t (column_of s.n heard k) ≡ voted s.n s.t s.faulty rows lists table i k
    unfolding voted column2 heard2 place2
    votes_heard h e k l = ap (vote_of s.t) (column_is _ _ e k l h)

    module _
        (h : AllHeard (s.n * s.n + s.n * s.n * s.n) s (get_or lists i 0) table said i heard)
        (e : SaidThird s lists table said rows) (k : ℕ) (l : k < s.n)
      where
        pub rows_heard : graded_row s.t (column_of s.n heard k) ≡
            grade_row s.n s.t s.faulty rows lists table i k
        unfolding grade_row column3 heard3 place3
        rows_heard = ap (graded_row s.t) (column_is _ _ e k l h)

        pub supports_heard : support_of (column_of s.n heard k) ≡
            support_for s.n s.t s.faulty rows lists table i k
        unfolding support_for column3 heard3 place3
        supports_heard = ap support_of (column_is _ _ e k l h)

    -- what the box hears from one sender about one leader in step 3
    pub third_heard : SaidThird s lists table said rows → (k j : ℕ) → k < s.n → j < s.n →
        heard_from (s.n * s.n + s.n * s.n * s.n) s (get_or lists i 0) table said i k j ≡
        heard3 s.n s.t s.faulty rows lists table i j k
    unfolding heard3 place3
    third_heard e k j lk lj = heard_is _ _ e k lk j lj

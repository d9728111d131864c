-- The leaders that must be counted, and what a box has of the others with no counting. Where at most t boxes are
-- faulty and no list holds a sound box, every sound box hears a sound leader's row in step 1, hears it again from
-- every sound box in steps 2 and 3, and so votes for it and grades it with that row. Its support is the sound boxes
-- and the faulty ones that say the same, which were counted while they were heard. Where a sound leader's row is 0
-- this does not hold: a faulty box may name a row for it, and that has support. So such a leader is counted.
-- Assumes nothing.
use mathlib.Core.Path.{◌≡◌, refl, sym, ap, ap₂, ◌∙◌, subst}
use mathlib.Core.Bool.{Bool, true, false, ◌&&◌}
use mathlib.Core.List.{List}
use mathlib.Core.Logic.{⊎_elim}
use Prim.Native.Nat.{ℕ, ◌*◌, ◌+◌, ◌≤◌, ◌<◌}
use native.Mathlib.Omega.{arith}
use lib.Dec.{eqb}
use lib.ListN.{length, get_or}
use borrow.Author.Tests.{eqb-false}
use Rattle.counting.specs.Count.{sum, count}
use Rattle.counting.specs.Sets.{member, set_of}
use Rattle.counting.proofs.Bools.{either, never, or_false_left, or_false_right, cond_true, cond_false}
use Rattle.counting.proofs.Count.{count_ext}
use Rattle.counting.proofs.Sets.{member_set_of}
use Rattle.tally.specs.Tally.{vote_of, support_of, graded_row}
use Rattle.gradecast.specs.declared.Settings.{Settings}
use Rattle.gradecast.specs.declared.hall.Seat.{Seat}
use Rattle.gradecast.specs.Steps.{heard3}
use Rattle.gradecast.specs.Cast.{of_sound, cells}
use Rattle.gradecast.specs.Fair.{SoundBox, faulty_boxes}
use Rattle.gradecast.specs.Inside.{RightSize, heard_from, AllHeard, said_by, column_of, Calm, Trusted, AskedFor}
use Rattle.gradecast.specs.Inside.{PutTo, on_leader, echoes_to}
use Rattle.gradecast.specs.Seats.{must_count, votes, rows_found, supports_found, InStep2, InStep3}
use Rattle.gradecast.specs.Seats.{heard_by, AllHeardBy, said_here, Echoed, vote_by, row_by, support_by}
use Rattle.gradecast.proofs.Boxes.{sound_not_faulty, not_faulty_sound}
use Rattle.gradecast.proofs.Cells.{cells_at, put_skipped, put_same}
use Rattle.gradecast.proofs.Columns.{votes_heard, rows_heard, supports_heard, third_heard}
use Rattle.gradecast.proofs.Echoes.{echoes_at}
use Rattle.gradecast.proofs.Plain.{not_odd_listed}
use Rattle.gradecast.proofs.Properties.{heard1_is, sound_voted, sound_firm, sound_support}
use Rattle.gradecast.proofs.Sound.{of_faulty, of_sound_lem}

-- the set 65535 has every box
in_all : (k : ℕ) → k < 16 → member 65535 k ≡ true
unfolding set_of sum
in_all k l = member_set_of 16 (λ j. true) k l

-- it is enough to ask all
pub all_asked : (s : Settings) (odd : ℕ) → s.n ≤ 13 → AskedFor s odd 65535
all_asked s odd high = λ lists o k l out. never (in_all k (omega arith)) out

-- it is enough to ask the faulty ones, where there are few and no other box is odd
pub faulty_asked : (s : Settings) (odd : ℕ) → RightSize s → faulty_boxes s.n s.faulty ≤ s.t →
    odd ≡ s.faulty → AskedFor s odd s.faulty
faulty_asked s odd size few e =
    λ lists o k l out.
    record {
      leader = record { below = l; is_sound = not_faulty_sound s.faulty k out };
      few = omega (arith, few);
      none_odd = λ j. sym (o j) ∙ ap (λ (set : ℕ). member set j) e;
    }

-- where a leader need not be asked all is calm
calm_of : {s : Settings} {lists : List ℕ} {k : ℕ} → RightSize s → Trusted s lists k →
    Calm s.n s.t s.faulty lists
calm_of {s} {lists} size trust =
    record {
      tolerated = omega (arith, size.tolerated);
      few = trust.few;
      none_listed =
          λ i j si sj.
          not_odd_listed s.faulty lists j
          (trust.none_odd j ∙ sound_not_faulty s.faulty j sj.is_sound) i
          (omega (arith, si.below, size.high));
    }

-- what a box makes of a leader that is to be counted, and of one that is not
module _
    (to-count : Bool) (s : Settings) (counted : ℕ → List ℕ → ℕ) (plain : ℕ) (heard : List ℕ) (k : ℕ)
  where
    -- the count
    abbrev count_on : ℕ
    count_on = counted s.t (column_of s.n heard k)

    pub on_counted : to-count ≡ true → on_leader to-count s counted plain heard k ≡ count_on
    unfolding on_leader
    on_counted h = cond_true count_on plain h

    pub on_other : to-count ≡ false → on_leader to-count s counted plain heard k ≡ plain
    unfolding on_leader
    on_other h = cond_false count_on plain h

    -- v, where the count and the plain answer are both v
    on_leader_lem : {v : ℕ} → count_on ≡ v → (to-count ≡ false → plain ≡ v) →
        on_leader to-count s counted plain heard k ≡ v
    on_leader_lem a b = ⊎_elim (λ h. on_counted h ∙ a) (λ h. on_other h ∙ b h) (either to-count)

-- what the box in this seat puts to its cells: nothing where it is faulty, and where it is sound what it makes
module _ (seat : Seat) where
  pub seat_faulty : {first : List ℕ} → member seat.hall.settings.faulty seat.i ≡ true → (f : ℕ → ℕ → ℕ) →
      PutTo seat.hall.settings.n seat.i seat.hall.settings.n
      (of_sound seat.hall.settings.faulty f seat.i) first first
  seat_faulty h f = put_skipped seat.hall.size.high seat.below _ (λ k l. of_faulty _ f _ k h)

  pub seat_sound : {first last : List ℕ} (f g : ℕ → ℕ) → ((k : ℕ) → k < seat.hall.settings.n → f k ≡ g k) →
      PutTo seat.hall.settings.n seat.i seat.hall.settings.n f first last →
      PutTo seat.hall.settings.n seat.i seat.hall.settings.n g first last
  seat_sound f g same put = put_same seat.hall.size.high seat.below g f same put

-- what a sound box has of each leader
module _
    (seat : Seat) (heard : List ℕ) (size : length heard ≡ 169)
    (is_sound : member seat.hall.settings.faulty seat.i ≡ false)
  where
    abbrev s : Settings
    s = seat.hall.settings

    abbrev i : ℕ
    i = seat.i

    abbrev n : ℕ
    n = s.n

    abbrev rows : List ℕ
    rows = seat.hall.rows.now

    abbrev lists : List ℕ
    lists = seat.hall.lists.now

    abbrev table : List ℕ
    table = seat.hall.table.now

    abbrev said : List ℕ
    said = seat.said.now

    this_box : SoundBox n s.faulty i
    this_box = record { below = seat.below; is_sound = not_faulty_sound s.faulty i is_sound }

    -- it hears by its own list, in the step whose rows begin there
    by_list : (base : ℕ) → seat.base ≡ base → AllHeardBy seat heard →
        AllHeard base s (get_or lists i 0) table said i heard
    by_list base begins h =
        subst (λ (at : ℕ). AllHeard at s (get_or lists i 0) table said i heard) begins
        (subst (λ (list : ℕ). AllHeard seat.base s list table said i heard) seat.its_own h)

    -- what it said stands in its own cell
    own_cell : (f : ℕ → ℕ → ℕ) → said ≡ cells n (of_sound s.faulty f) → (k : ℕ) → k < n → said_by n said k i ≡ f i k
    own_cell f e k l =
        ap (λ (xs : List ℕ). get_or xs (i * n + k) 0) e
        ∙ cells_at n (of_sound s.faulty f) i k seat.below l
        ∙ of_sound_lem s.faulty f i k is_sound

    -- the number f i k, where it is what the box counts, and what it has with no counting of a leader that is not
    -- to be counted
    made : (to-count : Bool) (counted : ℕ → List ℕ → ℕ) (plain : ℕ) (f : ℕ → ℕ → ℕ) (k : ℕ) →
        counted s.t (column_of n heard k) ≡ f i k → (to-count ≡ false → plain ≡ f i k) →
        on_leader to-count s counted plain heard k ≡ of_sound s.faulty f i k
    made to-count counted plain f k by_count with_none =
        on_leader_lem to-count s counted plain heard k by_count with_none ∙ sym (of_sound_lem s.faulty f i k is_sound)

    module _
        (h : AllHeardBy seat heard) (in_step : InStep2 seat) (k : ℕ) (l : k < n)
      where
        -- its vote
        pub votes_made : vote_by seat heard k ≡ votes seat.hall i k
        votes_made =
            made _ vote_of _ _ k
            (votes_heard s _ _ _ _ _ seat.hall.size.high size rows (by_list _ in_step.begins h) in_step.second k l)
            (λ out.
            let trust = seat.hall.enough k l out in
            let calm = calm_of seat.hall.size trust in
            own_cell _ in_step.second k l
            ∙ heard1_is calm rows table i k this_box trust.leader
            ∙ sym (sound_voted calm rows table i k this_box trust.leader))

    module _
        (h : AllHeardBy seat heard) (in_step : InStep3 seat) (k : ℕ) (l : k < n)
      where
        -- what it said about k itself
        abbrev own : ℕ
        own = said_by n said k i

        -- where k need not be counted
        trusted : must_count seat.hall own k ≡ false → Trusted s lists k
        trusted out = seat.hall.enough k l (or_false_right (eqb own 0) (member seat.hall.asked k) out)

        -- all is calm then
        calm : must_count seat.hall own k ≡ false → Calm n s.t s.faulty lists
        calm out = calm_of seat.hall.size (trusted out)

        -- what it said is the leader's row, and not 0
        said_row : (out : must_count seat.hall own k ≡ false) → own ≡ get_or rows k 0
        said_row out =
            own_cell _ in_step.third k l ∙ sound_voted (calm out) rows table i k this_box (trusted out).leader

        not_zero : must_count seat.hall own k ≡ false → get_or rows k 0 ≡ 0 → ⊥
        not_zero out z =
            eqb-false own 0 (or_false_left (eqb own 0) (member seat.hall.asked k) out) (said_row out ∙ z)

        -- its grade: the row
        pub rows_made : row_by seat heard k ≡ rows_found seat.hall i k
        rows_made =
            made _ graded_row _ _ k
            (rows_heard s _ _ _ _ _ seat.hall.size.high size rows (by_list _ in_step.begins h) in_step.third k l)
            (λ out.
            said_row out
            ∙ sym (sound_firm (calm out) rows table i k this_box (trusted out).leader (not_zero out)).1)

        -- what it hears is step 3's
        hears_third : (j : ℕ) → j < n → heard_by seat k j ≡ heard3 n s.t s.faulty rows lists table i j k
        hears_third j lj =
            ap₂ (λ (at list : ℕ). heard_from at s list table said i k j) in_step.begins seat.its_own
            ∙ third_heard s lists table said heard i seat.hall.size.high size rows in_step.third k j l lj

        -- the echoes are the faulty boxes that say the leader's row too
        echoes_are : (out : must_count seat.hall own k ≡ false) →
            echoes_to (said_here seat) (heard_by seat) seat.hall.odd n k ≡
            count n
            (λ j. member s.faulty j && eqb (heard3 n s.t s.faulty rows lists table i j k) (get_or rows k 0))
        unfolding echoes_to
        echoes_are out =
            count_ext n _ _
            (λ j lj.
            rw (seat.hall.odd_set j, (trusted out).none_odd j, hears_third j lj, said_row out) refl)

        -- and the support
        pub supports_made : {echoes : List ℕ} → Echoed seat echoes →
            support_by seat heard k echoes ≡ supports_found seat.hall i k
        supports_made counted =
            made _ (λ t. support_of) _ _ k
            (supports_heard s _ _ _ _ _ seat.hall.size.high size rows (by_list _ in_step.begins h) in_step.third k l)
            (λ out.
            ap₂ ◌+◌ seat.hall.all_sound
            (echoes_at _ _ _ seat.hall.size.high n counted k l ∙ echoes_are out)
            ∙ sym (sound_support (calm out) rows table i k this_box (trusted out).leader (not_zero out)))

-- `making::is_empty` meets its contract: a byte of the line without its carriage return stands at the same place of
-- the line, and no other byte is left but that carriage return. Assumes nothing.
use mathlib.Core.Path.{◌≡◌, refl, sym, ap, ◌∙◌}
use mathlib.Core.Bool.{Bool, true, false, not, ◌&&◌, true≢false}
use mathlib.Core.List.{List}
use Prim.Native.Nat.{ℕ, ◌+◌, ◌-◌, ◌≤◌, ◌<◌}
use native.Mathlib.Decide.{dec_lt}
use native.Mathlib.Omega.{arith}
use denote.Ref.{Bor}
use lib.Dec.{eqb}
use lib.ListN.{length, get_or, take}
use lib.Seq.{get_or-take, length-take-le}
use borrow.Author.Rules.{rules}
use borrow.Author.Tests.{tests, eq-eqb, eqb-true}
use Rattle.counting.proofs.Bools.{same, both, not_of_false, not_true, and_left, and_right, cond_true}
use Rattle.counting.proofs.Count.{any_none, none_any}
use Rattle.lines.specs.Read.{bare}
use Rattle.lines.proofs.Pieces.{bare_take, bare_told, bare_within}
use Rattle.std.proofs.lemmas.Iterator.{cases_from_all, YieldsList-from_slice}
use Rattle.std.specs.Bool.{MatchBool}
use Rattle.std.specs.List.{AllWithin, HoldsAt}
use Rattle.making.specs.Make.{not_blank, is_empty}
use Rattle.making.proofs.is_empty.Goals as goal

-- a byte that is not shown is a space, or it is the carriage return at the end
hidden : (space last : Bool) → (not space && not last) ≡ false → space ≡ false → last ≡ true
hidden true last h e = absurd (true≢false e)
hidden false true h e = refl
hidden false false h e = sym h

shown_not : (space last : Bool) → space ≡ true → (not space && not last) ≡ false
shown_not true last e = refl
shown_not false last e = absurd (true≢false (sym e))

last_not : (space last : Bool) → last ≡ true → (not space && not last) ≡ false
last_not true last e = refl
last_not false true e = refl
last_not false false e = absurd (true≢false (sym e))

module _ (line : List ℕ) where
  abbrev left : List ℕ
  left = bare line

  same_place : (k : ℕ) → k < length left → get_or left k 0 ≡ get_or line k 0
  same_place k l =
      ap (λ (xs : List ℕ). get_or xs k 0) (sym (bare_take line)) ∙ get_or-take (length left) line k 0 l

  -- what is left out is a carriage return at the end
  record Returned (k : ℕ) : Type 0 where
    return : get_or line k 0 ≡ 13
    end : k + 1 ≡ length line

  left_out : (k : ℕ) → k < length line → length left ≤ k → Returned k
  unfolding bare
  left_out k l h = go (eqb (get_or line (length line - 1) 0) 13) refl h
    where
      go : (b : Bool) → eqb (get_or line (length line - 1) 0) 13 ≡ b → length left ≤ k → Returned k
      go true e h =
          let short : length left ≡ length line - 1 =
          ap length (cond_true (take (length line - 1) line) line e) ∙ length-take-le _ line (omega arith) in
          let at : length line - 1 ≡ k = omega (arith, short) in
          record {
            return = ap (λ (i : ℕ). get_or line i 0) (sym at) ∙ eqb-true _ 13 e;
            end = omega (arith, at);
          }
      go false e h = absurd (omega (arith, l, (rw e at h)))

  returned_short : (k : ℕ) → get_or line k 0 ≡ 13 → k + 1 ≡ length line → length left ≤ k
  unfolding bare
  returned_short k r e =
      let at : length line - 1 ≡ k = omega arith in
      let test : eqb (get_or line (length line - 1) 0) 13 ≡ true =
      eq-eqb _ 13 (ap (λ (i : ℕ). get_or line i 0) at ∙ r) in
      let short : length left ≡ length line - 1 =
      ap length (cond_true (take (length line - 1) line) line test) ∙ length-take-le _ line (omega arith) in
      omega (arith, short)

  spaces_empty : ((k : ℕ) → k < length left → get_or left k 0 ≡ 32) → is_empty line ≡ true
  unfolding is_empty not_blank
  spaces_empty h = not_of_false (none_any (length line) (not_blank line) blank)
    where
      blank : (k : ℕ) → k < length line → not_blank line k ≡ false
      blank k l = go (dec_lt k (length left))
        where
          go : Dec (k < length left) → not_blank line k ≡ false
          go (yes inside) = shown_not _ _ (eq-eqb _ 32 (sym (same_place k inside) ∙ h k inside))
          go (no outside) =
              let r = left_out k l (omega (arith, outside)) in
              last_not _ _ (both (eq-eqb _ 13 r.return) (eq-eqb _ _ r.end))

  empty_spaces : is_empty line ≡ true → (k : ℕ) → k < length left → get_or left k 0 ≡ 32
  unfolding is_empty not_blank
  empty_spaces h k inside = go (eqb (get_or line k 0) 32) refl
    where
      l : k < length line
      l = omega (arith, bare_within line, inside)

      blank : not_blank line k ≡ false
      blank = any_none (length line) (not_blank line) (not_true _ h) k l

      go : (b : Bool) → eqb (get_or line k 0) 32 ≡ b → get_or left k 0 ≡ 32
      go true e = same_place k inside ∙ eqb-true _ 32 e
      go false e =
          let last = hidden _ _ blank e in
          let short =
          returned_short k (eqb-true _ 13 (and_left _ _ last))
          (eqb-true _ _ (and_right (eqb (get_or line k 0) 13) _ last)) in
          absurd (omega (arith, short, inside))

  -- so the answer of the chain is the definition's
  told : (r : Bool) →
      MatchBool r (AllWithin (λ byte. byte ≡ 32) left 0 (length left))
      ((k : ℕ) × (k < length left) × HoldsAt (λ byte. byte ≡ 32 → ⊥) left k) →
      r ≡ is_empty line
  told true h = sym (spaces_empty (λ k l. h k 0 (omega arith) l))
  told false (k, l, d) = same _ _ (λ e. absurd (true≢false (sym e))) (λ e. absurd (d 0 (empty_spaces e k l)))

pub returns : goal.returns
returns c =
    let line = c.args.line.now in
    let cut = ap (λ (text : Bor (List ℕ)). text.now) c.unwrap_or-bare.ensures
    ∙ bare_told c.args.line c.strip_suffix.result c.strip_suffix.ensures.cases in
    told line c.all.result
    (rw cut at (cases_from_all _ _ _ (λ byte. byte ≡ 32) (λ byte. byte ≡ 32 → ⊥) c.all.ensures.ran
    (YieldsList-from_slice _ c.iter.ensures.rest)
    (λ x q k. search (rules, tests)) (λ x q k. search (rules, tests))))

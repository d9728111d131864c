-- The heading reader ignores what follows the heading: two files that agree in the first 9 + 8n bytes, and have so
-- many, are read alike, refused ones too. Each number of the heading lies within those bytes, and of the length only
-- whether it reaches so far is asked. Where n is outside 1 to 13 the first 9 bytes are enough. Assumes nothing.
use mathlib.Core.Path.{◌≡◌, refl, sym, ap, ◌∙◌}
use mathlib.Core.Bool.{Bool, true, false}
use mathlib.Core.List.{List, ◌++◌}
use Prim.Native.Nat.{ℕ, ◌+◌, ◌*◌, ◌≤◌, ◌<◌}
use native.Mathlib.Decide.{ℕ_discrete}
use native.Mathlib.Omega.{arith}
use lib.Dec.{ltb}
use lib.ListN.{length, get_or, length-append, get_or-append}
use borrow.Author.Tests.{le-ltb, ne_eqb}
use Rattle.counting.specs.Count.{build, front}
use Rattle.counting.specs.Refuse.{first_of}
use Rattle.counting.proofs.Build.{build_ext}
use Rattle.sizes.specs.Sizes.{outside}
use Rattle.runfile.specs.File.{
  number,
  has_mark,
  version_of,
  n_of,
  t_byte,
  faulty_of,
  heading_bytes,
  row_from,
  heading_row,
}
use Rattle.runfile.specs.Reply.{
  heading_tests,
  heading_refusal,
  heading_of,
  heading_reply,
  heading_writes,
}
use Rattle.runfile.proofs.Bytes.{number_ext}
use Rattle.runfile.proofs.Laws.{heading_readable}

-- two files that agree in the first m bytes, which hold the heading
pub record SameHeading (m : ℕ) (a b : List ℕ) : Type 0 where
  pub reaches_a : m ≤ length a
  pub reaches_b : m ≤ length b
  pub same : (i : ℕ) → i < m → get_or a i 0 ≡ get_or b i 0
  pub fixed : 9 ≤ m
  pub whole : outside (n_of a) ≡ false → heading_bytes (n_of a) ≤ m

module _ (m : ℕ) (a b : List ℕ) (h : SameHeading m a b) where
  number_same : (at size : ℕ) → at + size ≤ m → number a at size ≡ number b at size
  number_same at size l = number_ext a b at at size (λ i k. h.same (at + i) (omega arith))

  byte_same : (i : ℕ) → i < 9 → get_or a i 0 ≡ get_or b i 0
  byte_same i l = h.same i (omega (arith, h.fixed))

  mark_same : has_mark a ≡ has_mark b
  unfolding has_mark
  mark_same = rw (byte_same 0 (omega arith), byte_same 1 (omega arith), byte_same 2 (omega arith)) refl

  version_same : version_of a ≡ version_of b
  unfolding version_of
  version_same = number_same 3 2 (omega (arith, h.fixed))

  pub n_same : n_of a ≡ n_of b
  unfolding n_of
  n_same = byte_same 5 (omega arith)

  t_same : t_byte a ≡ t_byte b
  unfolding t_byte
  t_same = byte_same 6 (omega arith)

  faulty_same : faulty_of a ≡ faulty_of b
  unfolding faulty_of
  faulty_same = number_same 7 2 (omega (arith, h.fixed))

  heading_same : heading_of a ≡ heading_of b
  unfolding heading_of
  heading_same = rw (version_same, n_same, t_same, faulty_same) refl

  -- the rows, where n is one that passes
  module _ (inside : outside (n_of a) ≡ false) where
    row_same : (k : ℕ) → k < n_of a → heading_row a k ≡ heading_row b k
    unfolding heading_row row_from heading_bytes
    row_same k l = let whole = h.whole inside in number_same (9 + 8 * k) 8 (omega (arith, whole))

    pub rows_same : build (n_of a) (heading_row a) ≡ build (n_of b) (heading_row b)
    rows_same = build_ext (n_of a) _ _ row_same ∙ ap (λ (n : ℕ). build n (heading_row b)) n_same

    whole_b : heading_bytes (n_of b) ≤ length b
    whole_b = rw (← n_same) (omega (arith, h.whole inside, h.reaches_b))

  refusal_same : (room : ℕ) → heading_refusal a room ≡ heading_refusal b room
  unfolding heading_refusal heading_tests first_of
  refusal_same room = go (outside (n_of a)) refl
    where
      long_a : ltb (length a) 9 ≡ false
      long_a = le-ltb (length a) 9 (omega (arith, h.fixed, h.reaches_a))

      long_b : ltb (length b) 9 ≡ false
      long_b = le-ltb (length b) 9 (omega (arith, h.fixed, h.reaches_b))

      go : (o : Bool) → outside (n_of a) ≡ o → heading_refusal a room ≡ heading_refusal b room
      go true e = rw (long_a, long_b, mark_same, version_same, ← n_same, e) refl
      go false e =
          rw (
            long_a,
            long_b,
            le-ltb (length a) (heading_bytes (n_of a)) (omega (arith, h.whole e, h.reaches_a)),
            le-ltb (length b) (heading_bytes (n_of b)) (whole_b e),
            rows_same e,
            mark_same,
            version_same,
            n_same,
            t_same,
            faulty_same,
          )
          refl

  -- the reply, and what is written
  pub heading_alike : (room : ℕ) → heading_reply a room ≡ heading_reply b room
  unfolding heading_reply
  heading_alike room = rw (refusal_same room, heading_same) refl

  pub writes_alike : (slice : List ℕ) → heading_writes a slice ≡ heading_writes b slice
  unfolding heading_writes front
  writes_alike slice = go (ℕ_discrete (heading_refusal a (length slice)) 0)
    where
      go : Dec (heading_refusal a (length slice) ≡ 0) → heading_writes a slice ≡ heading_writes b slice
      go (yes e) =
          let rows = rows_same (heading_readable a (length slice) e).inside in
          rw (refusal_same (length slice), rows, n_same) refl
      go (no d) =
          let given = ne_eqb (heading_refusal b (length slice)) 0 (λ z. d (refusal_same (length slice) ∙ z)) in
          rw (refusal_same (length slice), given) refl

-- what follows a heading is ignored
module _ (bytes more : List ℕ) (fixed : 9 ≤ length bytes)
    (whole : outside (n_of bytes) ≡ false → heading_bytes (n_of bytes) ≤ length bytes) where
  same_heading : SameHeading (length bytes) bytes (bytes ++ more)
  same_heading =
      record {
        reaches_a = omega arith;
        reaches_b = omega (arith, length-append bytes more);
        same = λ i l. sym (get_or-append bytes more 0 i l);
        fixed = fixed;
        whole = whole;
      }

  pub heading_ignores : (room : ℕ) → heading_reply (bytes ++ more) room ≡ heading_reply bytes room
  heading_ignores room = sym (heading_alike (length bytes) bytes (bytes ++ more) same_heading room)

  pub writes_ignores : (slice : List ℕ) → heading_writes (bytes ++ more) slice ≡ heading_writes bytes slice
  writes_ignores slice = sym (writes_alike (length bytes) bytes (bytes ++ more) same_heading slice)

-- A line written by a call and read by a call: the contracts of `write_line` and `read_line`, as the toolchain states
-- them, of one reply after another. What was written, lent without its newline, comes back as its word and its
-- numbers. A contract that said less of its reply would not do. And there are such calls: what the definitions give
-- meets the contracts. Assumes nothing.
use mathlib.Core.Path.{◌≡◌, refl, sym, ap, ap₂, ◌∙◌}
use mathlib.Core.List.{List, []}
use Prim.Native.Nat.{ℕ, ◌-◌, ◌≤◌, ◌<◌}
use native.Mathlib.Decide.{dec_lt}
use native.Mathlib.Omega.{arith}
use denote.Ref.{Bor}
use denote.MutBor.{MutBor}
use lib.ListN.{length, take}
use lib.Seq.{take-take}
use Rattle.lines.specs.declared.Written.{Written}
use Rattle.lines.specs.declared.Words.{Words}
use Rattle.lines.specs.Line.{line_of, placed, line_reply, line_writes}
use Rattle.lines.specs.Read.{read_reply, read_writes, PlainLine}
use Rattle.lines.proofs.Lines.{line_refused, line_given}
use Rattle.lines.proofs.Laws.{line_front}
use Rattle.lines.proofs.ReadBack.{whole, back_reply, back_writes, back_word, unended}
use Rattle.lines.proofs.write_line.Reads as WriteReads
use Rattle.lines.proofs.read_line.Reads as ReadReads

-- r is a reply of `write_line` to this slice, word and numbers, and `last` the slice afterwards
pub data WriteCall : List ℕ → List ℕ → List ℕ → Written → List ℕ → Type 1 where
  call : (κs : _) (a : _) (r : _) (x : _) → WriteReads.Post κs a r x →
      WriteCall a.0.now a.1.0.now a.1.1.0.now r x.0.now

-- r is a reply of `read_line` to this line and slice, and `last` the slice afterwards
pub data ReadCall : List ℕ → List ℕ → Words → List ℕ → Type 1 where
  call : (κs : _) (a : _) (r : _) (x : _) → ReadReads.Post κs a r x →
      ReadCall a.0.now a.1.0.now r x.1.0.now

pub write_call_is : {out word numbers : List ℕ} {r : Written} {last : List ℕ} → WriteCall out word numbers r last →
    (r ≡ line_reply word numbers (length out)) × (last ≡ line_writes word numbers out)
write_call_is (WriteCall.call κs a r x p) = p

pub read_call_is : {line slice : List ℕ} {r : Words} {last : List ℕ} → ReadCall line slice r last →
    (r ≡ read_reply line (length slice)) × (last ≡ read_writes line slice)
read_call_is (ReadCall.call κs a r x p) = p

-- a line that was not refused had room
had_room : (word numbers : List ℕ) (room : ℕ) → (line_reply word numbers room).refusal ≡ 0 →
    length (line_of word numbers) ≤ room
had_room word numbers room e = go (dec_lt room (length (line_of word numbers)))
  where
    go : Dec (room < length (line_of word numbers)) → length (line_of word numbers) ≤ room
    go (yes l) = absurd (omega (arith, ap (λ (w : Written). w.refusal) (line_refused word numbers room l), e))
    go (no d) = omega (arith, d)

-- so what it wrote, without the newline, is the word and the numbers
written_is : {out word numbers : List ℕ} {w : Written} {written : List ℕ} → WriteCall out word numbers w written →
    w.refusal ≡ 0 → take (w.size - 1) written ≡ whole word numbers
written_is {out} {word} {numbers} {w} {written} c e =
    let reply : w ≡ line_reply word numbers (length out) = (write_call_is c).0 in
    let room : length (line_of word numbers) ≤ length out =
    had_room word numbers (length out) (ap (λ (r : Written). r.refusal) (sym reply) ∙ e) in
    let size : w.size ≡ length (line_of word numbers) =
    ap (λ (r : Written). r.size) (reply ∙ sym (line_given word numbers (length out) room)) in
    let less : w.size - 1 ≤ w.size = omega arith in
    sym (take-take (w.size - 1) w.size written less)
    ∙ ap (take (w.size - 1))
    (ap₂ take size (write_call_is c).1 ∙ line_front word numbers out room)
    ∙ ap (λ (k : ℕ). take (k - 1) (line_of word numbers)) size
    ∙ unended word numbers

pub read_back : {out word numbers written slice last : List ℕ} {w : Written} {r : Words} →
    WriteCall out word numbers w written → w.refusal ≡ 0 → PlainLine word numbers →
    ReadCall (take (w.size - 1) written) slice r last → length numbers ≤ length slice →
    (r ≡ record { refusal = 0; word = length word; count = length numbers })
    × ((last ≡ placed slice 0 numbers) × (take r.word (take (w.size - 1) written) ≡ word))
read_back {out} {word} {numbers} {written} {slice} {last} {w} {r} c e h d l =
    let same : take (w.size - 1) written ≡ whole word numbers = written_is c e in
    let reply : r ≡ record { refusal = 0; word = length word; count = length numbers } =
    (read_call_is d).0
    ∙ ap (λ (text : List ℕ). read_reply text (length slice)) same
    ∙ back_reply word numbers h (length slice) l in (
      reply,
      (
        (read_call_is d).1
            ∙ ap (λ (text : List ℕ). read_writes text slice) same
            ∙ back_writes word numbers h slice l,
        ap₂ take (ap (λ (s : Words). s.word) reply) same ∙ back_word word numbers,
      ),
    )

-- there are such calls, with every argument
abbrev lent : List ℕ → Bor (List ℕ)
lent numbers = record { ref_ptr = (0, 0); now = numbers }

abbrev lent_mut : List ℕ → MutBor (List ℕ)
lent_mut numbers = record { ref_ptr = (0, 0); ghost_name = 0; now = numbers }

pub write_call : (out word numbers : List ℕ) →
    WriteCall out word numbers (line_reply word numbers (length out)) (line_writes word numbers out)
write_call out word numbers =
    WriteCall.call ([], ([], ([], tt))) (lent_mut out, (lent word, (lent numbers, tt)))
    (line_reply word numbers (length out))
    (lent_mut (line_writes word numbers out), (lent word, (lent numbers, tt)))
    (refl, refl)

pub read_call : (line slice : List ℕ) →
    ReadCall line slice (read_reply line (length slice)) (read_writes line slice)
read_call line slice =
    ReadCall.call ([], ([], tt)) (lent line, (lent_mut slice, tt)) (read_reply line (length slice))
    (lent line, (lent_mut (read_writes line slice), tt))
    (refl, refl)

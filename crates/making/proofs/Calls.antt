-- A text made by calls: the contracts of `no_text`, `take` and `finish`, as the toolchain states them, of one reply
-- after another. A text may be cut into any number of pieces, of any lengths: the last reply and the last file are
-- those that the definition over the lines of the whole text gives. So where it was cut does not matter. And where
-- `is_settled` says so, nothing that follows does. A contract that said less of its reply would not do. There are such
-- calls, for all pieces and slices. Assumes nothing.
use mathlib.Core.Path.{◌≡◌, refl, sym, ap, ◌∙◌}
use mathlib.Core.Bool.{Bool, true, false}
use mathlib.Core.List.{List, [], ◌∷◌, ◌++◌, flatten}
use Prim.Native.Nat.{ℕ, ◌≤◌}
use native.Mathlib.Omega.{arith}
use lib.Dec.{leb}
use lib.ListN.{length}
use borrow.Author.Tests.{le-ltb}
use Rattle.counting.proofs.Bools.{cond_true, cond_false}
use Rattle.tally.proofs.Calls.{lent, lent_mut}
use Rattle.making.specs.declared.Maker.{Maker}
use Rattle.making.specs.declared.Made.{Made}
use Rattle.making.specs.Make.{no_text}
use Rattle.making.specs.Text.{Reading, reading, bytes_taken, take_reply, is_settled, made_of, made_file}
use Rattle.making.proofs.Whole.{
  pieces_join,
  bytes_stay,
  bytes_lengths,
  reply_at,
  file_at,
  text_reply_lem,
  text_file,
  stopped_reply,
  stopped_file,
}
use Rattle.making.proofs.no_text.Reads as NoTextReads
use Rattle.making.proofs.take.Reads as TakeReads
use Rattle.making.proofs.finish.Reads as FinishReads
use Rattle.making.proofs.is_settled.Reads as SettledReads

-- r is a reply of `no_text`
pub data NoTextCall : Maker → Type 1 where
  call : (κs : _) (a : _) (r : _) (x : _) → NoTextReads.Post κs a r x → NoTextCall r

-- this maker, line and file are those after a call of `take` with these of before and a piece
pub data TakeCall : Reading → List ℕ → Reading → Type 1 where
  call : (κs : _) (a : _) (r : _) (x : _) → TakeReads.Post κs a r x →
      TakeCall (reading a.0 a.1.1.0.now a.1.1.1.0.now) a.1.0.now
      (reading r x.1.1.0.now x.1.1.1.0.now)

-- r is a reply of `finish` to this maker, line and file, and `last` the file afterwards
pub data FinishCall : Reading → Made → List ℕ → Type 1 where
  call : (κs : _) (a : _) (r : _) (x : _) → FinishReads.Post κs a r x →
      FinishCall (reading a.0 a.1.0.now a.1.1.0.now) r x.1.1.0.now

pub no_text_call_is : {r : Maker} → NoTextCall r → r ≡ no_text
no_text_call_is (NoTextCall.call κs a r x p) = p

pub take_call_is : {s r : Reading} {piece : List ℕ} → TakeCall s piece r →
    r ≡ take_reply s.maker piece s.line s.file
take_call_is (TakeCall.call κs a r x p) = p

pub finish_call_is : {s : Reading} {r : Made} {last : List ℕ} → FinishCall s r last →
    (r ≡ reply_at s) × (last ≡ file_at s)
finish_call_is (FinishCall.call κs a r x p) = p

-- one call after another, each on what the one before it gave
pub data TakeCalls : Reading → List (List ℕ) → Reading → Type 1 where
  none : (s : Reading) → TakeCalls s [] s
  next : {s r last : Reading} {piece : List ℕ} {pieces : List (List ℕ)} → TakeCall s piece r →
      TakeCalls r pieces last → TakeCalls s (piece ∷ pieces) last

-- a text in pieces, with a lent line and a lent file: nothing, then the pieces, then the end
pub record TextCalls (pieces : List (List ℕ)) (line file : List ℕ) (reply : Made) (last : List ℕ) : Type 1 where
  pub maker : Maker
  pub all : Reading
  pub begun : NoTextCall maker
  pub taken : TakeCalls (reading maker line file) pieces all
  pub finished : FinishCall all reply last

-- with a line of 1,001 places a call takes the bytes of its piece
take_bytes_is : (s : Reading) (piece : List ℕ) → 1001 ≤ length s.line →
    take_reply s.maker piece s.line s.file ≡ bytes_taken s piece
unfolding take_reply
take_bytes_is s piece room = go (leb 3 s.maker.stage) refl
  where
    go : (b : Bool) → leb 3 s.maker.stage ≡ b →
        take_reply s.maker piece s.line s.file ≡ bytes_taken s piece
    go true e = cond_true _ _ e ∙ sym (bytes_stay piece s e)
    go false e = cond_false _ _ e ∙ cond_false _ _ (le-ltb (length s.line) 1001 room)

-- so calls take the bytes of all pieces
take_calls_are : {s last : Reading} {pieces : List (List ℕ)} → 1001 ≤ length s.line → TakeCalls s pieces last →
    last ≡ bytes_taken s (flatten pieces)
unfolding flatten bytes_taken
take_calls_are room (TakeCalls.none s) = refl
take_calls_are room (TakeCalls.next {s} {r} {last} {piece} {pieces} c cs) =
    let one : r ≡ bytes_taken s piece = take_call_is c ∙ take_bytes_is s piece room in
    let long : length r.line ≡ length s.line =
    ap (λ (t : Reading). length t.line) one ∙ (bytes_lengths piece s).line_same in
    take_calls_are (omega (arith, long, room)) cs
    ∙ ap (λ (t : Reading). bytes_taken t (flatten pieces)) one
    ∙ sym (pieces_join s piece (flatten pieces))

-- what is known behind the last piece
abbrev taken_from : List ℕ → List ℕ → List (List ℕ) → Reading
taken_from line file pieces = bytes_taken (reading no_text line file) (flatten pieces)

all_is : {pieces : List (List ℕ)} {line file last : List ℕ} {reply : Made} → 1001 ≤ length line →
    (c : TextCalls pieces line file reply last) → c.all ≡ taken_from line file pieces
all_is {pieces} {line} {file} room c =
    take_calls_are room c.taken ∙ ap (λ (m : Maker). bytes_taken (reading m line file) (flatten pieces))
    (no_text_call_is c.begun)

-- the text of all pieces is made, wherever it was cut
pub text_made : {pieces : List (List ℕ)} {line file last : List ℕ} {reply : Made} → 1001 ≤ length line →
    TextCalls pieces line file reply last →
    (reply ≡ made_of (flatten pieces) file) × (last ≡ made_file (flatten pieces) file)
text_made {pieces} {line} {file} room c =
    let all = all_is room c in (
      (finish_call_is c.finished).0 ∙ ap reply_at all ∙ text_reply_lem (flatten pieces) line file room,
      (finish_call_is c.finished).1 ∙ ap file_at all ∙ text_file (flatten pieces) line file room,
    )

-- two ways to cut one text have one outcome and one file, whatever lines are lent
pub cut_anywhere : {a b : List (List ℕ)} {line other file p q : List ℕ} {r s : Made} → flatten a ≡ flatten b →
    1001 ≤ length line → 1001 ≤ length other → TextCalls a line file r p → TextCalls b other file s q →
    (r ≡ s) × (p ≡ q)
cut_anywhere {file = file} e l k c d =
    let one = text_made l c in
    let two = text_made k d in (
      one.0 ∙ ap (λ (text : List ℕ). made_of text file) e ∙ sym two.0,
      one.1 ∙ ap (λ (text : List ℕ). made_file text file) e ∙ sym two.1,
    )

-- r is a reply of `is_settled` to this maker and line
pub data SettledCall : Maker → List ℕ → Bool → Type 1 where
  call : (κs : _) (a : _) (r : _) (x : _) → SettledReads.Post κs a r x → SettledCall a.0 a.1.0.now r

pub settled_call_is : {m : Maker} {line : List ℕ} {r : Bool} → SettledCall m line r → r ≡ is_settled m line
settled_call_is (SettledCall.call κs a r x p) = p

-- where `is_settled` says so behind the last piece, the text is made whatever follows it
pub may_stop : {pieces : List (List ℕ)} {line file last : List ℕ} {reply : Made} → 1001 ≤ length line →
    (c : TextCalls pieces line file reply last) → SettledCall c.all.maker c.all.line true →
    (rest : List ℕ) →
    (reply ≡ made_of (flatten pieces ++ rest) file) × (last ≡ made_file (flatten pieces ++ rest) file)
may_stop {pieces} {line} {file} room c d rest =
    let all = all_is room c in
    let over : is_settled (taken_from line file pieces).maker (taken_from line file pieces).line ≡ true =
    ap (λ (t : Reading). is_settled t.maker t.line) (sym all) ∙ sym (settled_call_is d) in (
      (finish_call_is c.finished).0 ∙ ap reply_at all ∙ stopped_reply (flatten pieces) line file room rest over,
      (finish_call_is c.finished).1 ∙ ap file_at all ∙ stopped_file (flatten pieces) line file room rest over,
    )

-- there are such calls, with every argument
pub no_text_call : NoTextCall no_text
no_text_call = NoTextCall.call tt tt no_text tt refl

pub take_call : (s : Reading) (piece : List ℕ) → TakeCall s piece (take_reply s.maker piece s.line s.file)
take_call s piece =
    let r = take_reply s.maker piece s.line s.file in
    TakeCall.call ([], ([], ([], tt))) (s.maker, (lent piece, (lent_mut s.line, (lent_mut s.file, tt)))) r.maker
    (s.maker, (lent piece, (lent_mut r.line, (lent_mut r.file, tt)))) refl

pub settled_call : (m : Maker) (line : List ℕ) → SettledCall m line (is_settled m line)
settled_call m line = SettledCall.call ([], tt) (m, (lent line, tt)) (is_settled m line) (m, (lent line, tt)) refl

pub finish_call : (s : Reading) → FinishCall s (reply_at s) (file_at s)
finish_call s =
    FinishCall.call ([], ([], tt)) (s.maker, (lent s.line, (lent_mut s.file, tt))) (reply_at s)
    (s.maker, (lent s.line, (lent_mut (file_at s), tt))) (refl, refl)

take_calls : (pieces : List (List ℕ)) (s : Reading) → (last : Reading) × TakeCalls s pieces last
take_calls [] s = (s, TakeCalls.none s)
take_calls (piece ∷ pieces) s =
    let rest = take_calls pieces (take_reply s.maker piece s.line s.file) in
    (rest.0, TakeCalls.next (take_call s piece) rest.1)

pub text_calls : (pieces : List (List ℕ)) (line file : List ℕ) →
    (reply : Made) × (last : List ℕ) × TextCalls pieces line file reply last
text_calls pieces line file =
    let all = take_calls pieces (reading no_text line file) in (
      reply_at all.0,
      file_at all.0,
      record {
        maker = no_text;
        all = all.0;
        begun = no_text_call;
        taken = all.1;
        finished = finish_call all.0;
      },
    )

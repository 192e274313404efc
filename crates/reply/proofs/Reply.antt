-- The head and the result of a reply, written one after the other. Assumes nothing.
use Rattle.std.specs.Prelude.{Result, Ok, Err, is_ok}
use mathlib.Core.Path.{◌≡◌, refl, sym, ◌∙◌}
use mathlib.Core.Bool.{true, false}
use mathlib.Core.List.{List, [], ◌++◌, append-nil}
use Prim.Native.Nat.{ℕ, ◌+◌, ◌-◌, ◌≤◌, ◌<◌}
use native.Mathlib.Omega.{arith}
use lib.Dec.{leb}
use mir.Syntax.{w64}
use mir.Val.{Fits}
use lib.ListN.{length, take, drop, replicate, length-append}
use borrow.Author.Tests.{le-leb, lt-leb, leb-true}
use Rattle.theory.specs.Logic.{when◌then◌else◌, unless◌answer◌then◌}
use Rattle.theory.specs.Bytes.{put}
use Rattle.theory.proofs.Tests.{by_cases, never}
use Rattle.theory.proofs.Bytes.{length-put, put-append}
use Rattle.theory.proofs.Lent.{length-tail}
use Rattle.wire.specs.Le.{bytes}
use Rattle.protocol.specs.declared.Refusal.{Refusal}
use Rattle.protocol.specs.declared.Refusal.TheVariants.{ShortReply}
use Rattle.protocol.specs.Answers.{Answer, outcome_of, status_of, qualifier_of}
use Rattle.protocol.specs.declared.Body.{Body}
use Rattle.reply.specs.Result.{result_of, result_given}
use Rattle.reply.specs.Reply.{head_size, head_of, final_of, reply_of, replied, written}

pub head-long : (a : Answer) → length (head_of a) ≡ 8
unfolding head_of bytes
head-long a = refl

-- three writes make the head
pub head-written : (a : Answer) (s q : ℕ) (l l₁ l₂ l₃ : List ℕ) → s ≡ status_of a → q ≡ qualifier_of a
    → l₁ ≡ put 0 (bytes 2 s) l → l₂ ≡ put 2 (bytes 2 q) l₁ → l₃ ≡ put 4 (bytes 4 0) l₂ → l₃ ≡ put 0 (head_of a) l
unfolding head_of bytes
head-written a s q l l₁ l₂ l₃ es eq e₁ e₂ e₃ =
    let x = bytes 2 (status_of a) in
    let y = bytes 2 (qualifier_of a) in
    rw (e₃, e₂, e₁, es, eq) (sym (put-append 0 x (y ++ replicate 4 0) l ∙ put-append 2 y (replicate 4 0) (put 0 x l)))

-- ---- step 11 ----

module _ (a : Answer) (size room : ℕ) where
  final-refused : is_ok a ≡ false → final_of a size room ≡ a
  unfolding final_of when◌then◌else◌
  final-refused n = rw n

  final-short : is_ok a ≡ true → 8 ≤ room → room - 8 < size → final_of a size room ≡ Err ShortReply
  unfolding final_of when◌then◌else◌ unless◌answer◌then◌
  final-short n h k = rw (n, lt-leb (8 + size) room (omega arith))

  final-fits : is_ok a ≡ true → 8 ≤ room → size ≤ room - 8 → final_of a size room ≡ a
  unfolding final_of when◌then◌else◌ unless◌answer◌then◌
  final-fits n h k = rw (n, le-leb (8 + size) room (omega arith))

-- a success in the end has room
pub final-room : (a : Answer) (size room : ℕ) → is_ok (final_of a size room) ≡ true → 8 + size ≤ room
unfolding final_of when◌then◌else◌ unless◌answer◌then◌
final-room a size room =
    by_cases (is_ok a)
    (λ d. rw d (by_cases (leb (8 + size) room) (λ l. rw l (λ e. leb-true (8 + size) room l)) (λ l. rw l (λ e. never e))))
    (λ d. rw d (λ e. never (sym d ∙ e)))

-- ---- what is written ----

-- a refusal, and a success with no result, is the head alone
pub reply-refused : (a : Answer) (x : List ℕ) → is_ok a ≡ false → reply_of a x ≡ head_of a
unfolding reply_of when◌then◌else◌
reply-refused a x d = rw (d, append-nil)

pub reply-empty : (a : Answer) → reply_of a [] ≡ head_of a
unfolding reply_of when◌then◌else◌
reply-empty a = by_cases (is_ok a) (λ d. rw (d, append-nil)) (λ d. rw (d, append-nil))

pub reply-done : (a : Answer) (x : List ℕ) → is_ok a ≡ true → reply_of a x ≡ head_of a ++ x
unfolding reply_of when◌then◌else◌
reply-done a x d = rw d

-- x is the result
module _ (a : Answer) (x l : List ℕ) where
  pub refused-written : is_ok a ≡ false → (y : ℕ × List ℕ) → y ≡ written (reply_of a []) l → y ≡ written (replied a x (length l)) l
  unfolding replied
  refused-written n y e = e ∙ rw (final-refused a (length x) (length l) n, reply-refused a x n, reply-refused a [] n)

  module _ (n : is_ok a ≡ true) (h : head_size ≤ length l) (size : ℕ) (sized : size ≡ length x) where
    pub short-written : (y : ℕ × List ℕ) → length l - head_size < size → y ≡ written (reply_of (Err ShortReply) []) l
        → y ≡ written (replied a x (length l)) l
    unfolding replied
    short-written y k e =
        e ∙ rw (← sized, final-short a size (length l) n h k, reply-refused (Err ShortReply) x refl, reply-refused (Err ShortReply) [] refl)

    pub result-written : (l₁ l₂ : List ℕ) → size ≤ length l - head_size → l₁ ≡ put 0 (head_of a) l → l₂ ≡ put head_size x l₁
        → (head_size + size, l₂) ≡ written (replied a x (length l)) l
    unfolding replied written
    result-written l₁ l₂ k e₁ e₂ =
        let p : put 0 (head_of a ++ x) l ≡ put head_size x (put 0 (head_of a) l) = put-append 0 (head_of a) x l ∙ rw (head-long a) in
        rw (← sized, final-fits a size (length l) n h k, e₂, e₁, reply-done a x n, length-append, head-long a, p, sized)

-- there is room for the result, in the buffer as the head left it and in the tail that is lent to the result's writer
module _ (a : Answer) (l l' : List ℕ) (size : ℕ) (h : head_size ≤ length l) (k : size ≤ length l - head_size) (e : l' ≡ put 0 (head_of a) l) where
  pub result-fits : 8 + size ≤ length l'
  result-fits = rw (e, length-put) (omega arith)

  pub tail-fits : (q : ℕ) (list v : List ℕ) (body : Body) → size ≡ length (result_of q list v body)
      → length (result_of q list v body) ≤ length (take (length l' - 8) (drop 8 l'))
  tail-fits q list v body s = let f = result-fits in rw (length-tail 8 l', ← s) (omega arith)

-- and its length is a word
pub reply-word : (room size : ℕ) → head_size ≤ room → size ≤ room - head_size → Fits w64 room → Fits w64 (head_size + size)
reply-word room size h k f = omega arith

-- a reply with no result, which always fits
pub answer-only : (a : Answer) (l l' : List ℕ) → l' ≡ put 0 (head_of a) l → (head_size, l') ≡ written (reply_of a []) l
unfolding written
answer-only a l l' e = rw (e, reply-empty a, head-long a)

pub final-empty : (a : Answer) (room : ℕ) → head_size ≤ room → final_of a 0 room ≡ a
unfolding final_of when◌then◌else◌ unless◌answer◌then◌
final-empty a room h =
    let f : leb (head_size + 0) room ≡ true = le-leb head_size room h in
    by_cases (is_ok a) (λ d. rw (d, f)) (λ d. rw d)

pub replied-empty : (a : Answer) (room : ℕ) → head_size ≤ room → replied a [] room ≡ reply_of a []
unfolding replied
replied-empty a room h = rw (final-empty a room h)

-- ---- what is written of a reading, by its success or its refusal ----

module _ (x : Result Body Refusal) (q : ℕ) (list v l : List ℕ) where
  pub refusal-written : (a : Refusal) → x ≡ Err a → (y : ℕ × List ℕ) → y ≡ written (reply_of (Err a) []) l
      → y ≡ written (replied (outcome_of x) (result_given q list v x) (length l)) l
  refusal-written a h y e = rw h (refused-written (Err a) [] l refl y e)

  pub success-written : (b : Body) → x ≡ Ok b → (y : ℕ × List ℕ) → y ≡ written (replied (Ok tt) (result_of q list v b) (length l)) l
      → y ≡ written (replied (outcome_of x) (result_given q list v x) (length l)) l
  success-written b h y e = rw h e

-- What the reply's writer left, and what becomes of the card: steps 11 and 12. Assumes nothing.
use Rattle.std.specs.Prelude.{Ok, is_ok}
use mathlib.Core.Path.{◌≡◌, refl, ap, sym, ◌∙◌}
use mathlib.Core.Bool.{Bool, true, false, not}
use mathlib.Core.List.{List, []}
use Prim.Native.Nat.{ℕ, ◌≤◌, ◌<◌}
use lib.Dec.{leb}
use lib.ListN.{length}
use borrow.Author.Tests.{le-leb, lt-leb, not-true}
use Rattle.theory.specs.Logic.{when◌then◌else◌, unless◌answer◌then◌, ◌and◌}
use Rattle.theory.proofs.Tests.{by_cases, and-false}
use Rattle.theory.proofs.Bytes.{put-nil}
use Rattle.protocol.specs.Answers.{Answer}
use Rattle.card.specs.Layout.{with_in_use}
use Rattle.card.specs.Sound.{is_sound}
use Rattle.frame.specs.declared.Ask.TheVariants.{UseList}
use Rattle.reply.specs.Reply.{head_size, final_of, reply_of, replied, written}
use Rattle.reply.proofs.Reply.{final-empty, replied-empty}
use Rattle.admin.specs.Command.{effect, ask_in, perform, conclude, respond, delivered, command_of}

-- n and l' are what the writer left of the buffer l: answer a, result x
module _ (c : List ℕ) (a : Answer) (x l l' : List ℕ) (n : ℕ) (e : (n, l') ≡ written (replied a x (length l)) l) where
  -- the card that stands is `next` after a success, c after a refusal
  left : (next d : List ℕ) → d ≡ (when is_ok (final_of a (length x) (length l)) then next else c)
      → (n, (d, l')) ≡ delivered (conclude c (length l) (effect a next x)) l
  unfolding conclude delivered written
  left next d h = rw (h, ap (λ (y : ℕ × List ℕ). y.0) e, ap (λ (y : ℕ × List ℕ). y.1) e)

  -- nothing was to change
  pub kept : (n, (c, l')) ≡ delivered (conclude c (length l) (effect a c x)) l
  unfolding when◌then◌else◌
  kept = left c c (by_cases (is_ok (final_of a (length x) (length l))) (λ d. rw d) (λ d. rw d))

-- a reply with no result always fits
module _ (c : List ℕ) (a : Answer) (l l' : List ℕ) (n : ℕ) (room : head_size ≤ length l) (e : (n, l') ≡ written (reply_of a []) l) where
  full : (n, l') ≡ written (replied a [] (length l)) l
  full = e ∙ rw (replied-empty a (length l) room)

  pub answer-kept : (n, (c, l')) ≡ delivered (conclude c (length l) (effect a c [])) l
  answer-kept = kept c a [] l l' n full

  module _ (next : List ℕ) where
    pub refused : is_ok a ≡ false → (n, (c, l')) ≡ delivered (conclude c (length l) (effect a next [])) l
    unfolding when◌then◌else◌
    refused t = left c a [] l l' n full next c (rw (final-empty a (length l) room, t))

    pub changed : (d : List ℕ) → is_ok a ≡ true → d ≡ next → (n, (d, l')) ≡ delivered (conclude c (length l) (effect a next [])) l
    unfolding when◌then◌else◌
    changed d t h = left c a [] l l' n full next d (h ∙ rw (final-empty a (length l) room, t))

-- list use: its reply is 8 bytes, so it always stands
pub used : (c r l l' d : List ℕ) (mask n : ℕ) → (n, l') ≡ written (reply_of (Ok tt) []) l → head_size ≤ length l → d ≡ with_in_use c mask
    → (n, (d, l')) ≡ delivered (conclude c (length l) (perform c r (Ok (UseList mask)))) l
unfolding perform
used c r l l' d mask n e h k = changed c (Ok tt) l l' n h e (with_in_use c mask) d refl k

-- ---- step 1 ----

module _ (c r l : List ℕ) where
  silent : leb head_size (length l) and is_sound c ≡ false → ◌≡◌ {A = ℕ × (List ℕ × List ℕ)} (0, (c, l)) (command_of c r l)
  unfolding command_of respond delivered written unless◌answer◌then◌
  silent t = rw (t, put-nil 0 l)

  pub no_room : length l < head_size → ◌≡◌ {A = ℕ × (List ℕ × List ℕ)} (0, (c, l)) (command_of c r l)
  unfolding ◌and◌
  no_room h = silent (rw (lt-leb head_size (length l) h))

  pub unsound : (b : Bool) → b ≡ is_sound c → not b ≡ true → ◌≡◌ {A = ℕ × (List ℕ × List ℕ)} (0, (c, l)) (command_of c r l)
  unsound b e n = silent (rw (sym e ∙ not-true b n) (and-false (leb head_size (length l))))

  pub heard : head_size ≤ length l → is_sound c ≡ true → (y : ℕ × (List ℕ × List ℕ))
      → y ≡ delivered (conclude c (length l) (perform c r (ask_in c r))) l → y ≡ command_of c r l
  unfolding command_of respond delivered written unless◌answer◌then◌ ◌and◌
  heard h s y e = rw (le-leb head_size (length l) h, s) e

-- DEMAND 1: where nothing is written, what a command leaves of the buffer, and setup. Refusals: Refusals.antt. Assumes nothing.
use Rattle.std.specs.Prelude.{is_ok}
use mathlib.Core.Path.{◌≡◌, refl, ap, sym, ◌∙◌}
use mathlib.Core.Logic.{◌≢◌}
use mathlib.Core.Bool.{true, false}
use mathlib.Core.List.{List}
use Prim.Native.Nat.{ℕ, ◌≤◌}
use native.Mathlib.Omega.{arith}
use lib.Dec.{leb}
use lib.ListN.{length, replicate, length-append}
use borrow.Author.Tests.{lt-leb, eqb-true}
use Rattle.std.specs.Prelude.{Ok}
use Rattle.theory.specs.Logic.{◌and◌}
use Rattle.theory.proofs.Tests.{by_cases, both, unless-cases, false-and, and-false}
use Rattle.theory.proofs.Bytes.{put-nil, put_front}
use Rattle.theory.proofs.Lists.{get_or-same}
use Rattle.protocol.specs.Answers.{Answer, EventAnswer, event_number}
use Rattle.card.specs.Layout.{setup_of, counts_of}
use Rattle.card.specs.Sound.{is_sound}
use Rattle.card.proofs.HeaderLaws.{members-read}
use Rattle.card.proofs.FreshLaws.{setup-fresh}
use Rattle.card.proofs.CountLaws.{counts-fresh}
use Rattle.card.proofs.SoundLaws.{sound-of, is-sound, sound-fresh-card}
use Rattle.events.specs.Events.{setup_with, set_up, refused_setup}
use Rattle.reply.specs.Reply.{final_of, reply_of, written}
use Rattle.reply.proofs.Reply.{head-long, final-room, reply-refused, reply-done}
use Rattle.admin.specs.Command.{ask_in, perform, respond, delivered, command_of}
use Rattle.demands.specs.Claims.{NotWritten, Delivered, SetsUp}
use Rattle.admin.proofs.Respond.{respond-none, respond-cases}

-- ---- nothing written ----

untouched : (c r b : List ℕ) → leb 8 (length b) and is_sound c ≡ false → command_of c r b ≡ (0, (c, b))
unfolding command_of delivered written
untouched c r b e = rw (respond-none c r (length b) e, put-nil 0 b)

pub not-written : NotWritten
not-written = record {
  short_buffer = λ c r b h. untouched c r b (rw (lt-leb 8 (length b) h) (false-and _));
  unsound_card = λ c r b e. untouched c r b (rw e (and-false _));
}

-- ---- what is written ----

reply-short : (a : Answer) (x : List ℕ) (room : ℕ) → 8 ≤ room → length (reply_of (final_of a (length x) room) x) ≤ room
reply-short a x room h =
    by_cases (is_ok (final_of a (length x) room))
    (λ t. rw (reply-done _ x t, length-append, head-long) (final-room a (length x) room t))
    (λ t. rw (reply-refused _ x t, head-long) h)

respond-short : (c r : List ℕ) (room : ℕ) → length (respond c r room).1 ≤ room
respond-short c r room =
    respond-cases c r room (λ (y : List ℕ × List ℕ). length y.1 ≤ room) (omega arith)
    (λ h s. let e = perform c r (ask_in c r) in reply-short e.outcome e.result room h)

pub delivers : Delivered
unfolding command_of delivered written
delivers c r b =
    let h = respond-short c r (length b) in
    record { card = refl; reported = refl; within = h; buffer = put_front _ b h }

-- ---- setup ----

pub sets-up : SetsUp
unfolding set_up refused_setup
sets-up = record {
  done = λ b n q g s f.
      unless-cases (λ (y : EventAnswer × List ℕ). y.0 ≡ Ok tt → (is_sound y.1 ≡ true) × (setup_of y.1 ≡ setup_with n g s f) × (counts_of y.1 ≡ q)) _ _ _
      (λ t e. absurd (omega (arith, ap event_number e)))
      (λ t e.
      let p = both _ _ (both _ _ t).0 in
      let l = eqb-true _ _ p.1 in
      (is-sound _ (sound-fresh-card (setup_with n g s f) q 0 p.0 l), setup-fresh (setup_with n g s f) q 0 l, counts-fresh (setup_with n g s f) q 0 l p.0));
  refused = λ b n q g s f.
      unless-cases (λ (y : EventAnswer × List ℕ). y.0 ≢ Ok tt → y.1 ≡ replicate (length b) 0) _ _ _
      (λ t e. refl) (λ t e. absurd (e refl));
  zeros = zeros-unsound;
}
  where
    -- a sound card has a member
    zeros-unsound : (n : ℕ) → is_sound (replicate n 0) ≡ false
    zeros-unsound n =
        by_cases (is_sound (replicate n 0))
        (λ t.
        let z : (setup_of (replicate n 0)).members ≡ 0 = sym (members-read (replicate n 0)) ∙ get_or-same {A = ℕ} n 0 0 in
        absurd (omega (arith, (sound-of (replicate n 0) t).numbers.some_members)))
        (λ t. t)

-- DEMAND 3: isolation, by the mask of Mask.antt. The laws of one step, each about one card; theory's theorem makes of them
-- the claim about two whole sequences. Assumes nothing.
use mathlib.Core.Path.{◌≡◌, refl, ap, sym, ◌∙◌}
use mathlib.Core.Bool.{true, false}
use mathlib.Core.List.{List}
use Prim.Native.Nat.{ℕ, ◌≤◌}
use native.Mathlib.Omega.{arith}
use lib.Dec.{eqb}
use lib.ListN.{length}
use borrow.Author.Tests.{eqb-true, eqb-false}
use Rattle.theory.specs.Logic.{unless◌answer◌then◌}
use Rattle.theory.proofs.Tests.{by_cases, within_low}
use Rattle.theory.proofs.Unwinding.{Masking, isolated-by-mask}
use Rattle.protocol.specs.Answers.{event_number}
use Rattle.member.specs.Member.{fresh_of}
use Rattle.member.proofs.Record.{Shaped, fresh-shaped}
use Rattle.card.specs.Layout.{card_size, setup_of, is_member, member_in, is_marked, with_fresh}
use Rattle.card.specs.Sound.{is_sound}
use Rattle.card.proofs.HeaderLaws.{features-long, same-setup}
use Rattle.card.proofs.RecordLaws.{setup-with-record, record-eq}
use Rattle.card.proofs.SoundLaws.{sound-of, sound-has}
use Rattle.events.specs.Events.{hand_back as hand_back_of, wipe as wipe_of, reset_card, store}
use Rattle.events.proofs.Cases.{on-sound}
use Rattle.demands.specs.Calls.{Call, command, hand_back, wipe, card_reset, card_store, restore_begin, restore_feed, restore_finish, restore_drop, message, Reply, written, answered, responded, step, names, Resets, of_wipe, of_card}
use Rattle.demands.specs.Claims.{DifferAtMost, Isolation}
use Rattle.demands.proofs.Sound.{stays-sound}
use Rattle.demands.proofs.Named.{SameKept, named-leaves}
use Rattle.demands.proofs.MessageMask.{message-alike}
use Rattle.demands.proofs.RestoreMask.{begin-alike, feed-alike, finish-alike, drop-alike}
use Rattle.demands.proofs.Mask.{mask, blank-same, blank-shaped, mask-leaves, mask-mask, mask-again, mask-record, is_whole, masked-sound, masked-mark, masked-count, masked-counts, mask-none}
use Rattle.demands.proofs.CommandMask.{respond-answers}
use Rattle.demands.proofs.EventMask.{store-answers, back-answers}

-- the number that an event answers
unfoldable pub number_of : Reply → ℕ
number_of (written bs) = 0
number_of (answered n) = n
number_of (responded bs) = 0

-- ---- the laws of one step ----

module _ (m : ℕ) (low : 1 ≤ m) (c : List ℕ) (e : is_sound c ≡ true) where
  whole : length c ≡ card_size (setup_of c).members
  whole = is_whole m low c e

  sound : is_sound (mask m c) ≡ true
  sound = masked-sound m low c e

  -- an event for one member
  fresh-member : (q : ℕ) → Shaped (fresh_of q (setup_of c).features)
  fresh-member q = fresh-shaped q _ (features-long c (omega (arith, whole)))

  wipe-answers : (k g : ℕ) → is_member c k ≡ true
      → mask m (with_fresh (mask m c) k (setup_of c).features g) ≡ mask m (with_fresh c k (setup_of c).features g)
  wipe-answers k g t =
      rw (masked-count m low c e k (within_low _ _ k t)) (by_cases (eqb k m)
      (λ q. rw (eqb-true k m q) (ap (mask m) (mask-again m low c whole _ g (fresh-member _))))
      (λ q. mask-record m low c whole k _ g (within_low _ _ k t) (eqb-false k m q)))

  -- a call that does not name m answers from the masked card alike, and leaves the same masked card
  answers : (x : Call) → names m x ≡ false
      → ((step (mask m c) x).1 ≡ (step c x).1) × (mask m (step (mask m c) x).0 ≡ mask m (step c x).0)
  unfolding step hand_back_of wipe_of reset_card store unless◌answer◌then◌ names
  answers (command r room) n = let z = respond-answers m low c e r _ n in (ap written z.0, z.1)
  answers (hand_back k) n =
      rw (on-sound c k _ e, on-sound (mask m c) k _ sound, setup-with-record, masked-mark m low c e k) (by_cases (is_member c k)
      (λ t. rw t (by_cases (is_marked c k)
      (λ u. rw u (refl, mask-mask m low c whole))
      (λ u. rw u (refl, back-answers m low c e k t))))
      (λ t. rw t (refl, mask-mask m low c whole)))
  answers (wipe k g) n =
      rw (on-sound c k _ e, on-sound (mask m c) k _ sound, setup-with-record, masked-mark m low c e k) (by_cases (is_member c k)
      (λ t. rw t (by_cases (is_marked c k)
      (λ u. rw u (refl, wipe-answers k g t))
      (λ u. rw u (refl, mask-mask m low c whole))))
      (λ t. rw t (refl, mask-mask m low c whole)))
  answers (card_reset g) n = rw (e, sound, setup-with-record, masked-counts m low c e) (refl, refl)
  answers (card_store k t s value) n =
      rw (on-sound c k _ e, on-sound (mask m c) k _ sound, setup-with-record) (by_cases (is_member c k)
      (λ h.
      let z = store-answers m low c whole k (within_low _ _ k h) (eqb-false k m n) t _ value in
      rw h (ap (λ a. answered (event_number a)) z.0, z.1))
      (λ h. rw h (refl, mask-mask m low c whole)))
  answers (restore_begin k) n = let z = begin-alike m low c e k (eqb-false k m n) in (ap answered z.says, z.cards)
  answers (restore_feed k x) n = let z = feed-alike m low c e k (eqb-false k m n) x in (ap answered z.says, z.cards)
  answers (restore_finish k id) n = let z = finish-alike m low c e k (eqb-false k m n) id in (ap answered z.says, z.cards)
  answers (restore_drop k) n = let z = drop-alike m low c e k (eqb-false k m n) in (ap answered z.says, z.cards)
  answers (message x room) n = let z = message-alike m low c e x n room in (ap responded z.says, z.cards)

  -- a wipe of m that answers 0 finds it marked
  marked-too : (g : ℕ) → is_member c m ≡ true → (step c (wipe m g)).1 ≡ answered 0 → is_marked c m ≡ true
  unfolding step wipe_of unless◌answer◌then◌ number_of
  marked-too g t =
      rw (on-sound c m _ e, t) (by_cases (is_marked c m) (λ u q. u) (λ u. rw u (λ q. let z : ◌≡◌ {A = ℕ} 6 0 = ap number_of q in absurd (omega arith))))

  -- that wipe, and a reset of the whole card, leaves nothing of what was masked
  wiped : (x : Call) (y : Reply) → (step c x).1 ≡ y → Resets m x y → step (mask m c) x ≡ step c x
  unfolding step wipe_of reset_card unless◌answer◌then◌
  wiped _ _ q (of_wipe {generation}) =
      by_cases (is_member c m)
      (λ t.
      let u = marked-too generation t q in
      rw (on-sound c m _ e, on-sound (mask m c) m _ sound, setup-with-record, masked-mark m low c e m, masked-count m low c e m low, mask-again m low c whole _ generation (fresh-member (member_in c m).queues), t, u))
      (λ t. ap (λ d. step d (wipe m generation)) (mask-none m low c whole t))
  wiped _ _ q of_card = rw (e, sound, setup-with-record, masked-counts m low c e)

-- no reset names m
resets-unnamed : (m : ℕ) (x : Call) (y : Reply) → Resets m x y → names m x ≡ false
unfolding names
resets-unnamed m _ _ of_wipe = refl
resets-unnamed m _ _ of_card = refl

pub masking : (m : ℕ) → 1 ≤ m → Masking step (names m) (Resets m) (λ c. is_sound c ≡ true) (mask m)
masking m low = record {
  stays = stays-sound;
  hides = λ c x e n. mask-leaves m low c (whole m low c e) _ (named-leaves m c x n);
  answers = λ c x e. answers m low c e x;
  shown = resets-unnamed m;
  wiped = λ c x e. wiped m low c e x _ refl;
}

-- ---- the theorem ----

-- cards that differ in m's record at most, and not in its mark and its queue count, have the same mask
same-mask : (m : ℕ) (c d : List ℕ) → is_sound c ≡ true → is_sound d ≡ true → is_member c m ≡ true → DifferAtMost m c d → SameKept m c d
    → mask m c ≡ mask m d
same-mask m c d e f h b k =
    let g = same-setup c d m b.before in
    let low = within_low _ _ m h in
    let s = blank-shaped m low c (is_whole m low c e) in
    rw (blank-same m c d (sym g) k)
    (record-eq c m _ 0 s (sound-has c (sound-of c e) m h)
    ∙ (rw (b.before, b.after))
    ∙ sym (record-eq d m _ 0 s (sound-has d (sound-of d f) m (rw g at h))))

pub isolation : Isolation
isolation c₁ c₂ e₁ e₂ m h d k q =
    isolated-by-mask (masking m (within_low _ _ m h)) c₁ c₂ e₁ e₂
    (same-mask m c₁ c₂ e₁ e₂ h d (record { mark = sym k; count = sym q }))

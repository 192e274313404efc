-- Finish, drop, a feed that is too long, hand back, wipe and a reset of the card leave no holding place. Assumes nothing.
use mathlib.Core.Path.{◌≡◌, refl, ap, ◌∙◌}
use mathlib.Core.Bool.{true, false}
use mathlib.Core.List.{List}
use Prim.Native.Nat.{ℕ, ◌-◌}
use native.Mathlib.Omega.{arith}
use borrow.Author.Tests.{not-false, eqb-true}
use lib.ListN.{get_or}
use Rattle.std.specs.Prelude.{Err, is_ok}
use Rattle.theory.proofs.Tests.{unless-cases, within_low, within-high}
use Rattle.protocol.specs.declared.EventRefusal.TheVariants.{NotSound, WrongMark}
use Rattle.protocol.specs.Answers.{EventAnswer, event_number}
use Rattle.member.specs.declared.Member.{Member}
use Rattle.member.specs.Record.{member_of}
use Rattle.member.specs.Member.{fresh_of}
use Rattle.member.proofs.Record.{fresh-shaped, member_back}
use Rattle.card.specs.Layout.{setup_of, is_member, member_in, counts_of, fresh_card}
use Rattle.card.proofs.HeaderLaws.{features-long}
use Rattle.card.proofs.RecordLaws.{member-with-record}
use Rattle.card.proofs.FreshLaws.{member-bytes-fresh}
use Rattle.card.proofs.CountLaws.{counts-long}
use Rattle.card.proofs.SoundLaws.{Sound, sound-of, sound-long, sound-has}
use Rattle.events.specs.Events.{hand_back as hand_back_of, wipe as wipe_of, reset_card}
use Rattle.events.proofs.Cases.{on-member-cases, number-zero}
use Rattle.demands.specs.Calls.{answered, refused, step}
use Rattle.demands.specs.Holding.{HoldingEnded}
use Rattle.demands.proofs.Between.{back-member}
use Rattle.demands.proofs.OnlyHolding.{finish-ends, drop-ends, feed-ends}

-- what an event that is not refused leaves of member m
Ends : ℕ → EventAnswer × List ℕ → Type 0
Ends m y = refused (answered (event_number y.0)) ≡ false → (member_in y.1 m).held ≡ 0

-- a refusal is none
refusal-ends : (m : ℕ) (c : List ℕ) (a : EventAnswer) → is_ok a ≡ false → Ends m (a, c)
unfolding Ends refused
refusal-ends m c a d e = absurd (number-zero a d (eqb-true _ 0 (not-false _ e)))

fresh-ends : (c : List ℕ) (g m : ℕ) → Sound c → is_member c m ≡ true → (member_in (fresh_card (setup_of c) (counts_of c) g) m).held ≡ 0
unfolding member_in fresh_of counts_of
fresh-ends c g m s h =
    let f = features-long c (omega (arith, sound-long c s)) in
    let n = counts-long c 1 (setup_of c).members in
    ap (λ (x : Member). x.held) (ap member_of (member-bytes-fresh (setup_of c) (counts_of c) g f m (within_low _ _ m h) (omega (arith, within-high _ _ m h)))
    ∙ member_back _ (fresh-shaped (get_or (counts_of c) (m - 1) 0) (setup_of c).features f))

pub holding-ended : HoldingEnded
unfolding step hand_back_of wipe_of reset_card Ends fresh_of
holding-ended = record {
  finishes = λ c m id s h. finish-ends c m s h id;
  drops = λ c m s h. drop-ends c m s h;
  feeds = λ c m x s h. feed-ends c m s h x;
  hand_backs = λ c m.
      on-member-cases c m _ (Ends m) (refusal-ends m c) λ s h.
      unless-cases (Ends m) _ _ _ (λ t. refusal-ends m c (Err WrongMark) refl) (λ t e. ap (λ (x : Member). x.held) (back-member c m s h));
  wipes = λ c m g.
      on-member-cases c m _ (Ends m) (refusal-ends m c) λ s h.
      unless-cases (Ends m) _ _ _ (λ t. refusal-ends m c (Err WrongMark) refl) (λ t e.
      ap (λ (x : Member). x.held) (member-with-record c m _ g
      (fresh-shaped _ (setup_of c).features (features-long c (omega (arith, sound-long c (sound-of c s))))) (sound-has c (sound-of c s) m h)));
  card_resets = λ c g m h.
      unless-cases (Ends m) _ _ _ (λ t. refusal-ends m c (Err NotSound) refl) (λ t e. fresh-ends c g m (sound-of c t) h);
}

-- Every call on a sound card leaves a sound card. Assumes nothing.
use Rattle.std.specs.Prelude.{Result, Ok, Err}
use Rattle.protocol.specs.declared.Refusal.{Refusal}
use mathlib.Core.Path.{◌≡◌}
use mathlib.Core.Bool.{true}
use mathlib.Core.List.{List}
use Prim.Native.Nat.{ℕ}
use native.Mathlib.Omega.{arith}
use Rattle.theory.proofs.Tests.{within_low, unless-cases}
use Rattle.values.proofs.Kept.{done-allowed}
use Rattle.member.proofs.Sound.{sound-part, sound-handed-back}
use Rattle.changes.proofs.Kept.{change-sound}
use Rattle.card.specs.Layout.{setup_of, is_member, member_in, counts_of, no_bytes}
use Rattle.protocol.specs.Answers.{EventAnswer}
use Rattle.events.specs.Events.{with_handed_back, hand_back as hand_back_of, wipe as wipe_of, reset_card, store_in, store}
use Rattle.events.proofs.Cases.{if-done-cases, on-member-cases}
use Rattle.card.proofs.HeaderLaws.{features-long}
use Rattle.card.proofs.SoundLaws.{Sound, sound-of, is-sound, sound-long, sound-member-in, sound-with-member, sound-with-fresh, sound-with-configuration, sound-with-holding, sound-with-use, sound-fresh-card}
use Rattle.card.proofs.CountLaws.{counts-numbers}
use Rattle.frame.specs.declared.Ask.{Ask}
use Rattle.frame.specs.declared.Ask.TheVariants.{QueryList, UseList, Read, Change}
use Rattle.admin.specs.Command.{perform, respond}
use Rattle.demands.specs.Calls.{Call, command, hand_back, wipe, card_reset, card_store, restore_begin, restore_feed, restore_finish, restore_drop, message, step}
use Rattle.demands.specs.Claims.{StaysSound}
use Rattle.admin.proofs.Respond.{FactsIn, asked_of, card-cases}
use Rattle.admin.proofs.Marks.{named_here, named-unmarked}
use Rattle.message.proofs.Cases.{card-cases as message-cases}
use Rattle.staging.proofs.Kept.{begin-sound, feed-sound, finish-sound, drop-sound}

module _ (c : List ℕ) (s : Sound c) where
  perform-sound : (r : List ℕ) (a : Result Ask Refusal) → FactsIn c r a → Sound (perform c r a).card
  unfolding perform
  perform-sound r (Err a) f = s
  perform-sound r (Ok QueryList) f = s
  perform-sound r (Ok (UseList mask)) f = sound-with-use c mask s f.1
  perform-sound r (Ok (Read m op)) f = s
  perform-sound r (Ok (Change m op)) f =
      let x = sound-member-in c s m (named_here c r m f.0) in
      sound-with-member c m _ s f.0.low (change-sound _ _ _ op (member_in c m) _ f.1 (named-unmarked c r m f.0) x)

  pub respond-sound : (r : List ℕ) (room : ℕ) → Sound (respond c r room).0
  respond-sound r room = card-cases c r room Sound s (λ e. perform-sound r _ (asked_of c r))

  store-sound : (m t k : ℕ) (value : List ℕ) → is_member c m ≡ true → Sound (store_in c m t k value).1
  unfolding store_in
  store-sound m t k value h =
      if-done-cases (λ (y : EventAnswer × List ℕ). Sound y.1) _ _ c (λ d. s)
      (λ d. sound-with-member c m _ s (within_low _ _ m h) (sound-part _ _ _ _ (sound-member-in c s m h) t k value (done-allowed _ t k value d)))

-- the card after an event is sound
abbrev Leaves : EventAnswer × List ℕ → Type 0
Leaves y = Sound y.1

step-sound : (c : List ℕ) (x : Call) → Sound c → Sound (step c x).0
unfolding step hand_back_of with_handed_back wipe_of reset_card store
step-sound c (command r room) s = respond-sound c s r _
step-sound c (hand_back m) s =
    on-member-cases c m _ Leaves (λ a d. s) λ e h.
    let l = within_low _ _ m h in
    unless-cases Leaves _ _ _ (λ t. s) λ t.
    sound-with-holding _ m no_bytes (sound-with-member c m _ s l (sound-handed-back _ _ _ (member_in c m) (sound-member-in c s m h))) l
step-sound c (wipe m g) s =
    on-member-cases c m _ Leaves (λ a d. s) λ e h.
    unless-cases Leaves _ _ _ (λ t. s) (λ t. sound-with-fresh c m g s h)
step-sound c (card_reset g) s =
    unless-cases Leaves _ _ _ (λ t. s) λ t.
    sound-fresh-card (setup_of c) (counts_of c) g (counts-numbers c s) (features-long c (omega (arith, sound-long c s)))
step-sound c (card_store m t k value) s = on-member-cases c m _ Leaves (λ a d. s) (λ e h. store-sound c s m t _ value h)
step-sound c (restore_begin m) s = sound-of _ (begin-sound c m (is-sound c s))
step-sound c (restore_feed m x) s = sound-of _ (feed-sound c m (is-sound c s) x)
step-sound c (restore_finish m id) s = sound-of _ (finish-sound c m (is-sound c s) id (is-sound _ (respond-sound c s _ _)))
step-sound c (restore_drop m) s = sound-of _ (drop-sound c m (is-sound c s))
step-sound c (message x room) s = message-cases c x Sound s room (λ m y g e h t. sound-with-configuration c m y g s (within_low _ _ m h))

pub stays-sound : StaysSound
stays-sound c x e = is-sound _ (step-sound c x (sound-of c e))

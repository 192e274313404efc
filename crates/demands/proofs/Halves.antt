-- REQUEST 10: the two halves of a reset do what it did, and the examples hold. Assumes nothing.
use mathlib.Core.Path.{◌≡◌, refl, ap, sym, ◌∙◌}
use mathlib.Core.Bool.{true, false}
use mathlib.Core.List.{List}
use Prim.Native.Nat.{ℕ}
use native.Mathlib.Omega.{arith}
use Rattle.std.specs.Prelude.{Ok}
use Rattle.theory.specs.Logic.{unless◌answer◌then◌}
use Rattle.protocol.specs.Answers.{EventAnswer, event_number}
use Rattle.member.specs.declared.Member.{Member}
use Rattle.member.proofs.Record.{Shaped, fresh-shaped}
use Rattle.member.specs.Record.{member_size, holding_size, member_bytes}
use Rattle.member.specs.Member.{handed_back}
use Rattle.card.specs.Layout.{member_bytes_at, holding_at, setup_of, is_member, member_in, with_member, is_marked, with_holding, no_bytes, with_fresh, with_record}
use Rattle.card.specs.Sound.{is_sound}
use Rattle.card.proofs.HeaderLaws.{features-long}
use Rattle.card.proofs.RecordLaws.{record-over}
use Rattle.card.proofs.SoundLaws.{sound-of, sound-long}
use Rattle.events.specs.Events.{with_handed_back, hand_back as hand_back_of, wipe as wipe_of, reset_member}
use Rattle.events.proofs.Cases.{on-sound}
use Rattle.demands.specs.Calls.{hand_back, wipe, answered, of_event, step}
use Rattle.demands.specs.Halves.{DoesReset, TwoHalves, halves_examples, HalvesExamplesHold}
use Rattle.demands.proofs.EventMask.{back-setup, back-marked, back-queues}
use Rattle.demands.proofs.Sound.{stays-sound}
use Rattle.demands.proofs.Model.{model}

-- ---- both halves ----

module _ (c : List ℕ) (m g : ℕ) (s : is_sound c ≡ true) (h : is_member c m ≡ true) (u : is_marked c m ≡ false) where
  abbrev f : List ℕ
  f = (setup_of c).features

  back_is : hand_back_of c m ≡ (Ok tt, with_handed_back c m)
  unfolding hand_back_of unless◌answer◌then◌
  back_is = rw (on-sound c m _ s, h, u)

  pub back-card : (step c (hand_back m)).0 ≡ with_handed_back c m
  unfolding step
  back-card = ap (λ (y : EventAnswer × List ℕ). y.1) back_is

  pub back-sound : is_sound (with_handed_back c m) ≡ true
  back-sound = rw back-card at (stays-sound c (hand_back m) s)

  -- whatever the first half leaves in the record, the second covers
  covered : (x : Member) → Shaped x → with_record (with_handed_back c m) m x g ≡ with_record c m x g
  unfolding with_handed_back with_member with_holding
  covered x z =
      record-over _ m x g z holding_at holding_size no_bytes (omega arith)
      ∙ record-over c m x g z member_bytes_at member_size (member_bytes (handed_back (member_in c m))) (omega arith)

  back-covered : with_fresh (with_handed_back c m) m f g ≡ with_fresh c m f g
  back-covered =
      rw (back-queues m c (sound-of c s).long h)
      (covered _ (fresh-shaped _ f (features-long c (omega (arith, sound-long c (sound-of c s))))))

  wipe-is : wipe_of (with_handed_back c m) m g ≡ (Ok tt, with_fresh c m f g)
  unfolding wipe_of unless◌answer◌then◌
  wipe-is = rw (on-sound (with_handed_back c m) m _ back-sound, back-setup m c, h, back-marked m c (sound-of c s).long h, back-covered)

  reset-is : reset_member c m g ≡ (Ok tt, with_fresh c m f g)
  unfolding reset_member unless◌answer◌then◌
  reset-is = rw (on-sound c m _ s, h)

  does-reset : DoesReset c m g
  unfolding step
  does-reset = record {
    hands_back = ap (λ (y : EventAnswer × List ℕ). answered (event_number y.0)) back_is;
    wipes =
        ap (λ d. step d (wipe m g)) back-card
        ∙ ap of_event wipe-is
        ∙ sym (ap (λ (y : EventAnswer × List ℕ). (y.1, answered 0)) reset-is);
  }

pub two-halves : TwoHalves
two-halves = does-reset

-- ---- the examples ----

pub halves-examples-hold : HalvesExamplesHold
unfolding model halves_examples
halves-examples-hold = refl

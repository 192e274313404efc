-- The arms of a message, and what is known in each. Assumes nothing.
use Rattle.std.proofs.Common.{◌≡◌, ℕ, ◌+◌, ◌≤◌, Bool, true, false, not, leb, List, length, sym, ap, ◌∙◌}
use borrow.Author.Tests.{not-true, not-false}
use Rattle.std.specs.Prelude.{Option, Some, None}
use Rattle.theory.specs.Logic.{unless◌answer◌then◌}
use Rattle.theory.proofs.Tests.{by_cases, inside}
use Rattle.theory.proofs.Bytes.{put-nil}
use Rattle.card.specs.Layout.{card_size, HasRecord, setup_of}
use Rattle.card.specs.Sound.{is_sound}
use Rattle.card.proofs.SoundLaws.{sound-of, sound-has}
use Rattle.message.specs.declared.Access.{Access}
use Rattle.message.specs.declared.Access.TheVariants.{Read, Write}
use Rattle.message.specs.Format.{header_size, data_at}
use Rattle.message.specs.Message.{access_in, act_of, fitting, answer_of, delivered, message_of}
use Rattle.message.proofs.Asked.{Speaks, Facts, asked}

-- what a message leaves: the bytes of the response, the card, the buffer
abbrev Left : Type 0
Left = ℕ × (List ℕ × List ℕ)

module _ (c x l : List ℕ) (b : Bool) (sound : b ≡ is_sound c) where
  pub unsound : not b ≡ true → ◌≡◌ {A = Left} (0, (c, l)) (message_of c x l)
  unfolding message_of answer_of delivered unless◌answer◌then◌
  unsound n = rw (sym sound ∙ not-true b n, put-nil)

  module _ (n : not b ≡ false) where
    is : is_sound c ≡ true
    is = sym sound ∙ not-false b n

    pub card-long : length c ≡ card_size (setup_of c).members
    card-long = (sound-of c is).long

    module _ (o : Option Access) (Asked-is : o ≡ access_in c x) where
      heard : (y : Left) → y ≡ delivered (fitting c (length l) (act_of c x o)) l → y ≡ message_of c x l
      unfolding message_of answer_of unless◌answer◌then◌
      heard y e = rw (is, ← Asked-is) e

      pub nothing-asked : o ≡ None → ◌≡◌ {A = Left} (0, (c, l)) (message_of c x l)
      unfolding act_of fitting delivered unless◌answer◌then◌
      nothing-asked e = heard _ (rw e (by_cases (leb 0 (length l)) (λ t. rw (t, put-nil)) (λ t. rw (t, put-nil))))

      -- an access is asked
      module _ (a : Access) (some : o ≡ Some a) where
        pub arm-heard : (d : Access) → a ≡ d → (y : Left) → y ≡ delivered (fitting c (length l) (act_of c x (Some d))) l → y ≡ message_of c x l
        arm-heard d e y h = heard y (rw (some, e) h)

        facts : (d : Access) → a ≡ d → Facts (setup_of c).members x (Some d)
        facts d e = asked c x (Some d) (ap Some (sym e) ∙ sym some ∙ Asked-is)

        module _ (m offset k : ℕ) where
          has : Speaks (setup_of c).members x m → HasRecord c m
          has f = sound-has c (sound-of c is) m (inside 1 _ m f.low f.high)

          pub read-record : a ≡ Read m offset k → HasRecord c m
          read-record e = has (facts (Read m offset k) e)

          pub read-long : a ≡ Read m offset k → header_size ≤ length x
          read-long e = (facts (Read m offset k) e).long

          pub write-record : (sent : ℕ) → a ≡ Write m sent offset k → HasRecord c m
          write-record sent e = has (facts (Write m sent offset k) e).0

          pub write-long : (sent : ℕ) → a ≡ Write m sent offset k → data_at + k ≡ length x
          write-long sent e = (facts (Write m sent offset k) e).1

-- The calls keep a card sound. Assumes nothing.
use Rattle.std.specs.Prelude.{Result, Ok, Err}
use Rattle.protocol.specs.declared.Refusal.{Refusal}
use mathlib.Core.Path.{◌≡◌, refl, ◌∙◌}
use mathlib.Core.Bool.{true}
use mathlib.Core.List.{List}
use Prim.Native.Nat.{ℕ}
use native.Mathlib.Omega.{arith}
use lib.ListN.{length}
use borrow.Author.Tests.{leb-true}
use Rattle.theory.proofs.Tests.{unless-cases}
use Rattle.card.specs.Layout.{setup_of}
use Rattle.card.specs.Sound.{is_sound}
use Rattle.card.proofs.HeaderLaws.{setup-with-use}
use Rattle.card.proofs.MemberLaws.{setup-with-member}
use Rattle.card.proofs.SoundLaws.{is-sound}
use Rattle.frame.specs.declared.Ask.{Ask}
use Rattle.frame.specs.declared.Ask.TheVariants.{QueryList, UseList, Read, Change}
use Rattle.host.specs.Request.{set_parts}
use Rattle.reply.specs.Reply.{head_size}
use Rattle.admin.specs.Command.{perform, respond}
use Rattle.admin.proofs.Respond.{card-cases}
use Rattle.admin.proofs.Marks.{respond-mark}
use Rattle.staging.specs.Staging.{held_in, held_bytes, begin_of, feed_of, finish_of, drop_of}
use Rattle.staging.proofs.Refusals.{on-member-cases, on-open-cases}
use Rattle.staging.proofs.Places.{few-fed, number-sound, held-sound, gone-sound}

-- a command leaves the setup
perform-setup : (c r : List ℕ) (a : Result Ask Refusal) → setup_of (perform c r a).card ≡ setup_of c
unfolding perform
perform-setup c r (Err a) = refl
perform-setup c r (Ok QueryList) = refl
perform-setup c r (Ok (UseList mask)) = setup-with-use c mask
perform-setup c r (Ok (Read m op)) = refl
perform-setup c r (Ok (Change m op)) = setup-with-member c m _

pub respond-setup : (c r : List ℕ) (room : ℕ) → setup_of (respond c r room).0 ≡ setup_of c
respond-setup c r room = card-cases c r room (λ d. setup_of d ≡ setup_of c) refl (λ s. perform-setup c r _)

abbrev Leaves : ℕ × List ℕ → Type 0
Leaves y = is_sound y.1 ≡ true

module _ (c : List ℕ) (m : ℕ) (s : is_sound c ≡ true) where
  pub begin-sound : is_sound (begin_of c m).1 ≡ true
  unfolding begin_of
  begin-sound = on-member-cases c m _ Leaves (λ a. s) λ p.
      unless-cases Leaves _ _ _ (λ t. s) (λ t. is-sound _ (number-sound c m s p.member p.unmarked 1 (omega arith)))

  pub feed-sound : (x : List ℕ) → is_sound (feed_of c m x).1 ≡ true
  unfolding feed_of
  feed-sound x = on-open-cases c m _ Leaves (λ a. s) λ p.
      unless-cases Leaves _ _ _ (λ t. gone-sound c m s p.member p.unmarked)
      (λ t. held-sound c m s p.member p.unmarked _ (few-fed (held_in c m) (length x) (leb-true _ _ t)) _)

  pub drop-sound : is_sound (drop_of c m).1 ≡ true
  unfolding drop_of
  drop-sound = on-open-cases c m _ Leaves (λ a. s) (λ p. gone-sound c m s p.member p.unmarked)

  -- the command that finish is leaves a sound card
  pub finish-sound : (id : ℕ) → is_sound (respond c (set_parts m id (held_bytes c m)) head_size).0 ≡ true → is_sound (finish_of c m id).1 ≡ true
  unfolding finish_of
  finish-sound id f = on-open-cases c m _ Leaves (λ a. s) λ p.
      let r = set_parts m id (held_bytes c m) in
      gone-sound _ m f (rw (respond-setup c r head_size) p.member) (respond-mark c r head_size m ∙ p.unmarked)

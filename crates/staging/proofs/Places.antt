-- A holding place that is put in a card: what is there then, and that the card stays sound. Assumes nothing.
use mathlib.Core.Path.{◌≡◌, refl, ap, sym, ◌∙◌}
use mathlib.Core.Bool.{true, false}
use mathlib.Core.List.{List}
use Prim.Native.Nat.{ℕ, ◌+◌, ◌-◌, ◌≤◌}
use native.Mathlib.Omega.{arith}
use lib.ListN.{length, length-take}
use borrow.Author.Tests.{ltb-true}
use Rattle.theory.proofs.Tests.{by_cases, within_low}
use Rattle.member.specs.declared.Member.{Member}
use Rattle.member.specs.Record.{holding_size}
use Rattle.member.specs.Member.{with_held}
use Rattle.member.proofs.Sound.{sound-held}
use Rattle.card.specs.Layout.{holding_at, HasRecord, is_member, member_in, with_member, is_marked, holding_in, with_holding, no_bytes}
use Rattle.card.specs.Sound.{is_sound}
use Rattle.card.proofs.RecordBytesLaws.{bytes-long, bytes_back}
use Rattle.card.proofs.MemberLaws.{setup-with-member, setup-with-holding, length-with-member, member-same, member-over, member-with-holding, holding-same, holding-over, holding-swap}
use Rattle.card.proofs.MarkLaws.{marked-is, mark-with-member, mark-behind}
use Rattle.card.proofs.SoundLaws.{Sound, SoundIn, sound-of, is-sound, sound-has, sound-member-in, sound-with-member, sound-with-holding}
use Rattle.staging.specs.Staging.{held_in, is_open, held_bytes, with_held_bytes, without_held}

-- what is held with a fragment of x bytes more
pub few-fed : (n x : ℕ) → n - 1 + x ≤ holding_size → n + x ≤ 1 + holding_size
few-fed n x l = omega arith

module _ (c : List ℕ) (m : ℕ) where
  -- to put what is there changes nothing
  pub holding-back : with_holding c m (holding_in c m) ≡ c
  unfolding with_holding holding_in
  holding-back = bytes_back c m holding_at holding_size

  pub holding-long : HasRecord c m → length (holding_in c m) ≡ holding_size
  unfolding holding_in
  holding-long h = bytes-long c m holding_at holding_size h (omega arith)

  pub held-short : HasRecord c m → length (held_bytes c m) ≤ holding_size
  held-short h = omega (arith, length-take (held_in c m - 1) (holding_in c m), holding-long h)

module _ (c : List ℕ) (m : ℕ) (e : is_sound c ≡ true) (h : is_member c m ≡ true) where
  facts : Sound c
  facts = sound-of c e

  low : 1 ≤ m
  low = within_low _ _ m h

  pub has : HasRecord c m
  has = sound-has c facts m h

  -- what is held is no mark
  pub held-mark : (n : ℕ) (x : List ℕ) (k : ℕ) → is_marked (with_held_bytes c m n x) k ≡ is_marked c k
  unfolding with_held_bytes with_holding
  held-mark n x k =
      mark-behind (with_member c m (with_held (member_in c m) n)) m holding_at holding_size x (omega arith) low (omega arith) k
      ∙ mark-with-member c m (with_held (member_in c m) n) has refl k

  -- a member whose holding place is open is not marked
  pub open-unmarked : is_open c m ≡ true → is_marked c m ≡ false
  open-unmarked o = by_cases (is_marked c m)
      (λ t. let z = ((sound-member-in c facts m h).mark (sym (marked-is c m h) ∙ t)).no_place in absurd (omega (arith, ltb-true 0 (held_in c m) o)))
      (λ t. t)

-- of a member that is not marked
module _ (c : List ℕ) (m : ℕ) (e : is_sound c ≡ true) (h : is_member c m ≡ true) (u : is_marked c m ≡ false) where
  unmarked : (member_in c m).marked ≡ false
  unmarked = sym (marked-is c m h) ∙ u

  sound-there : SoundIn c (member_in c m)
  sound-there = sound-member-in c (facts c m e h) m h

  module _ (n : ℕ) (few : n ≤ 1 + holding_size) where
    member-sound : SoundIn c (with_held (member_in c m) n)
    member-sound = sound-held _ _ _ (member_in c m) sound-there unmarked n few

    pub number-sound : Sound (with_member c m (with_held (member_in c m) n))
    number-sound = sound-with-member c m _ (facts c m e h) (low c m e h) member-sound

    pub number_put : member_in (with_member c m (with_held (member_in c m) n)) m ≡ with_held (member_in c m) n
    number_put = member-same c m _ (has c m e h) member-sound.shaped

    module _ (x : List ℕ) where
      pub held-sound : is_sound (with_held_bytes c m n x) ≡ true
      unfolding with_held_bytes
      held-sound = is-sound _ (sound-with-holding _ m x number-sound (low c m e h))

      pub held-member : is_member (with_held_bytes c m n x) m ≡ true
      unfolding with_held_bytes
      held-member = rw (setup-with-holding, setup-with-member) h

      pub held_number : member_in (with_held_bytes c m n x) m ≡ with_held (member_in c m) n
      unfolding with_held_bytes
      held_number = member-with-holding _ m x m (low c m e h) (low c m e h) ∙ number_put

      pub held-bytes : length x ≡ holding_size → holding_in (with_held_bytes c m n x) m ≡ x
      unfolding with_held_bytes
      held-bytes l = holding-same _ m x (record { low = low c m e h; high = rw length-with-member (has c m e h).high }) l

      -- the last that is put stands
      pub held-over : (k : ℕ) (y : List ℕ) → k ≤ 1 + holding_size → length y ≡ holding_size
          → with_held_bytes (with_held_bytes c m n x) m k y ≡ with_held_bytes c m k y
      unfolding with_held_bytes
      held-over k y i l =
          let s = sound-held _ _ _ (member_in c m) sound-there unmarked k i in
          ap (λ (z : Member). with_holding (with_member (with_held_bytes c m n x) m (with_held z k)) m y) held_number
          ∙ ap (λ d. with_holding d m y) (holding-swap _ m x (with_held (member_in c m) k) ∙ ap (λ d. with_holding d m x) (member-over c m _ _ s.shaped))
          ∙ holding-over _ m x y l

  pub gone-sound : is_sound (without_held c m) ≡ true
  unfolding without_held
  gone-sound = held-sound 0 (omega arith) no_bytes

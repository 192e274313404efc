-- What the test of a card says, as plain facts, and what keeps a card sound. Assumes nothing.
use mathlib.Core.Path.{◌≡◌, refl, ap, ◌∙◌}
use mathlib.Core.Bool.{true}
use mathlib.Core.List.{List}
use Prim.Native.Nat.{ℕ, zero, suc, ◌+◌, ◌-◌, ◌^◌, ◌≤◌, ◌<◌}
use native.Mathlib.Omega.{arith}
use lib.Dec.{eqb}
use lib.ListN.{length}
use borrow.Author.Tests.{eqb-true, eqb-false, eq-eqb, leb-true, le-leb}
use Rattle.theory.proofs.Tests.{by_cases, both, and_i, inside, within_low, within-high, tests}
use Rattle.protocol.specs.Opcodes.{supported_only}
use Rattle.protocol.proofs.Masks.{mask_fits, fresh-only}
use Rattle.member.specs.declared.Member.{Member}
use Rattle.member.specs.Record.{member_size, member_bytes}
use Rattle.member.specs.Member.{features_size}
use Rattle.member.proofs.Record.{length-member}
use Rattle.member.proofs.Sound.{SoundMember, sound-record, sound-member, sound-fresh}
use Rattle.setups.specs.Setup.{in_ranges, is_count, in_numbers}
use Rattle.setups.proofs.Ranges.{all-at}
use Rattle.card.specs.declared.Setup.{Setup}
use Rattle.card.specs.Layout.{card_header_size, member_bytes_at, record_size, card_size, setup_of, in_use_of, is_member, HasRecord, with_record_bytes, member_bytes_in, with_in_use, member_in, with_member, with_configuration, with_holding, record_of, with_record, with_fresh, fresh_card}
use Rattle.card.specs.Sound.{sound_setup, sound_for, sound_up_to, is_sound}
use Rattle.card.proofs.RecordBytesLaws.{has-record, bytes-long, length-with-bytes, setup-with-bytes, use-with-bytes, bytes_same, bytes-other}
use Rattle.card.proofs.HeaderLaws.{length-with-use, setup-with-use, bytes-with-use, use-same, features-long}
use Rattle.card.proofs.MemberLaws.{length-with-holding, setup-with-holding, use-with-holding, bytes-with-holding}
use Rattle.card.proofs.RecordLaws.{record-bytes, member-bytes-with-record}
use Rattle.card.proofs.FreshLaws.{length-fresh, setup-fresh, use-fresh, member-bytes-fresh}
use Rattle.card.proofs.ConfigurationLaws.{length-with-configuration, setup-with-configuration, use-with-configuration, bytes-with-configuration}

-- ---- the test, as facts, and back ----

-- a setup in the ranges of SPEC 2.1
pub record Numbers (s : Setup) : Type 0 where
  pub some_members : 1 ≤ s.members
  pub few_members : s.members ≤ 16
  pub few_gets : s.gets ≤ 8
  pub few_sets : s.sets ≤ 8

pub numbers-of : (s : Setup) → sound_setup s ≡ true → Numbers s
unfolding sound_setup in_ranges
numbers-of s e =
    let p = both _ _ e in
    let q = both _ _ p.0 in
    record {
      some_members = within_low _ _ _ q.0;
      few_members = within-high _ _ _ q.0;
      few_gets = leb-true _ _ q.1;
      few_sets = leb-true _ _ p.1;
    }

pub numbers-sound : (s : Setup) → Numbers s → sound_setup s ≡ true
unfolding sound_setup in_ranges
numbers-sound s n =
    and_i _ _ (and_i _ _ (inside _ _ _ n.some_members n.few_members) (le-leb _ _ n.few_gets)) (le-leb _ _ n.few_sets)

pub record Sound (c : List ℕ) : Type 0 where
  pub long : length c ≡ card_size (setup_of c).members
  pub numbers : Numbers (setup_of c)
  pub supported : supported_only (in_use_of c) ≡ true
  pub each : (m : ℕ) → 1 ≤ m → m ≤ (setup_of c).members → sound_for (setup_of c) (member_bytes_in c m) ≡ true

up-to-sound : (s : Setup) (c : List ℕ) (n : ℕ) → ((m : ℕ) → 1 ≤ m → m ≤ n → sound_for s (member_bytes_in c m) ≡ true) → sound_up_to s c n ≡ true
unfolding sound_up_to
up-to-sound s c zero h = refl
up-to-sound s c (suc n) h = and_i _ _ (h (suc n) (omega arith) (omega arith)) (up-to-sound s c n (λ m l i. h m l (omega arith)))

sound-up-to : (s : Setup) (c : List ℕ) (n : ℕ) → sound_up_to s c n ≡ true → (m : ℕ) → 1 ≤ m → m ≤ n → sound_for s (member_bytes_in c m) ≡ true
unfolding sound_up_to
sound-up-to s c zero e m l h = absurd (omega arith)
sound-up-to s c (suc n) e m l h = by_cases (eqb m (suc n))
    (λ q. rw (eqb-true m (suc n) q) (both _ _ e).0)
    (λ q. sound-up-to s c n (both _ _ e).1 m l (omega tests))

pub sound-of : (c : List ℕ) → is_sound c ≡ true → Sound c
unfolding is_sound
sound-of c e =
    let p = both _ _ e in
    let q = both _ _ p.0 in
    let r = both _ _ q.0 in
    record { long = eqb-true _ _ r.0; numbers = numbers-of _ r.1; supported = q.1; each = sound-up-to _ c _ p.1 }

pub is-sound : (c : List ℕ) → Sound c → is_sound c ≡ true
unfolding is_sound
is-sound c s =
    and_i _ _ (and_i _ _ (and_i _ _ (eq-eqb _ _ s.long) (numbers-sound _ s.numbers)) s.supported) (up-to-sound _ c _ s.each)

-- ---- what a sound card has ----

-- member x is sound in card c
abbrev pub SoundIn : List ℕ → Member → Type 0
SoundIn c x = SoundMember (setup_of c).gets (setup_of c).sets (setup_of c).features x

module _ (c : List ℕ) (s : Sound c) where
  pub sound-long : card_header_size ≤ length c
  sound-long = let e = s.long in omega arith

  pub sound-has : (m : ℕ) → is_member c m ≡ true → HasRecord c m
  sound-has m e = has-record c m s.long (within_low _ _ m e) (within-high _ _ m e)

  pub sound-at : (m : ℕ) → is_member c m ≡ true → sound_for (setup_of c) (member_bytes_in c m) ≡ true
  sound-at m e = s.each m (within_low _ _ m e) (within-high _ _ m e)

  pub sound-member-in : (m : ℕ) → is_member c m ≡ true → SoundIn c (member_in c m)
  unfolding member_in
  sound-member-in m e = sound-member _ _ _ (member_bytes_in c m) (bytes-long c m member_bytes_at member_size (sound-has m e) (omega arith)) (sound-at m e)

-- a member's number fits the field of a request
pub member-small : (c : List ℕ) (m : ℕ) → is_sound c ≡ true → is_member c m ≡ true → m < 256 ^ 8
member-small c m s h = omega (arith, within-high 1 (setup_of c).members m h, (sound-of c s).numbers.few_members)

-- ---- what keeps a card sound ----

kept : (c d : List ℕ) → Sound c → length d ≡ length c → setup_of d ≡ setup_of c → supported_only (in_use_of d) ≡ true
    → ((m : ℕ) → 1 ≤ m → m ≤ (setup_of c).members → sound_for (setup_of c) (member_bytes_in d m) ≡ true) → Sound d
kept c d s n e u h = record { long = rw (n, e) s.long; numbers = rw e s.numbers; supported = u; each = rw e h }

-- bytes of member m's record are put, and then its member is sound
with-bytes : (c : List ℕ) (m at n : ℕ) (x : List ℕ) → Sound c → 1 ≤ m → at + n ≤ record_size
    → (HasRecord c m → sound_for (setup_of c) (member_bytes_in (with_record_bytes c m at n x) m) ≡ true) → Sound (with_record_bytes c m at n x)
with-bytes c m at n x s low i g =
    kept c _ s (length-with-bytes c m at n x) (setup-with-bytes c m at n x) (rw use-with-bytes s.supported) λ k l h.
    by_cases (eqb k m)
    (λ q. let j : m ≤ (setup_of c).members = omega tests in rw (eqb-true k m q) (g (has-record c m s.long low j)))
    (λ q. rw (bytes-other c m at n x i low k member_bytes_at member_size (omega arith) l (eqb-false k m q)) (s.each k l h))

-- a sound member
pub sound-with-member : (c : List ℕ) (m : ℕ) (x : Member) → Sound c → 1 ≤ m → SoundIn c x → Sound (with_member c m x)
unfolding with_member
sound-with-member c m x s low y = with-bytes c m member_bytes_at member_size (member_bytes x) s low (omega arith) λ h.
    rw (bytes_same c m member_bytes_at member_size (member_bytes x) h (omega arith) (length-member x y.shaped)) (sound-record _ _ _ x y)

-- a whole record of a sound member, and that of a fresh one
pub sound-with-record : (c : List ℕ) (m : ℕ) (x : Member) (g : ℕ) → Sound c → 1 ≤ m → SoundIn c x → Sound (with_record c m x g)
sound-with-record c m x g s low y =
    rw (record-bytes c m x g) (with-bytes c m 0 record_size (record_of x g) s low (omega arith) λ h.
    rw (← record-bytes c m x g, member-bytes-with-record c m x g y.shaped h) (sound-record _ _ _ x y))

pub sound-with-fresh : (c : List ℕ) (m g : ℕ) → Sound c → is_member c m ≡ true → Sound (with_fresh c m (setup_of c).features g)
sound-with-fresh c m g s h =
    let f = (setup_of c).features in
    let e = features-long c (omega (arith, sound-long c s)) in
    sound-with-record c m _ g s (within_low _ _ m h) (sound-fresh _ _ f _ (sound-member-in c s m h).count e)

-- what stands behind a member's bytes, whatever it is: its configuration and generation, the bytes of its holding place
pub sound-with-configuration : (c : List ℕ) (m : ℕ) (x : List ℕ) (g : ℕ) → Sound c → 1 ≤ m → Sound (with_configuration c m x g)
sound-with-configuration c m x g s low =
    kept c _ s (length-with-configuration c m x g) (setup-with-configuration c m x g) (rw use-with-configuration s.supported)
    (λ k l h. rw (bytes-with-configuration c m x g k low l) (s.each k l h))

pub sound-with-holding : (c : List ℕ) (m : ℕ) (x : List ℕ) → Sound c → 1 ≤ m → Sound (with_holding c m x)
sound-with-holding c m x s low =
    kept c _ s (length-with-holding c m x) (setup-with-holding c m x) (rw use-with-holding s.supported)
    (λ k l h. rw (bytes-with-holding c m x k low l) (s.each k l h))

-- another list with supported bits only is in use
pub sound-with-use : (c : List ℕ) (mask : ℕ) → Sound c → supported_only mask ≡ true → Sound (with_in_use c mask)
sound-with-use c mask s u =
    kept c _ s (length-with-use c mask) (setup-with-use c mask) (rw (use-same c mask (sound-long c s) (mask_fits mask u)) u)
    (λ k l h. rw (bytes-with-use c mask k member_bytes_at member_size) (s.each k l h))

-- a fresh card with a good count for each member
pub sound-fresh-card : (s : Setup) (qs : List ℕ) (g : ℕ) → in_numbers s.members qs s.gets s.sets ≡ true → length s.features ≡ features_size
    → Sound (fresh_card s qs g)
unfolding sound_setup in_numbers
sound-fresh-card s qs g e n =
    let f = setup-fresh s qs g n in
    let p = both _ _ e in
    let q = both _ _ p.0 in
    let l : length qs ≡ s.members = eqb-true _ _ q.1 in
    record {
      long = rw f (length-fresh s qs g n ∙ ap card_size l);
      numbers = rw f (numbers-of s q.0);
      supported = rw (use-fresh s qs g n) fresh-only;
      each =
          rw f (λ m a h. rw (member-bytes-fresh s qs g n m a (omega arith))
          (sound-record _ _ _ _ (sound-fresh s.gets s.sets s.features _ (all-at is_count qs (m - 1) p.1 (omega arith)) n)));
    }

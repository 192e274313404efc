-- THE ROUND TRIP, where the capture is accepted and where it is captured again apart: a live set object is all that acceptance
-- asks of the target's objects; a get object, parts get in use and a long enough buffer are asked where the target is captured.
-- RoundTrip.antt follows from it. Assumes nothing.
use Rattle.std.specs.Prelude.{◌≡◌, true, List, ℕ, ◌+◌, ◌≤◌, length, take, Some, Ok}
use Rattle.protocol.specs.declared.Mode.TheVariants.{Stopped}
use Rattle.protocol.specs.declared.ObjectKind.TheVariants.{Get, Set}
use Rattle.protocol.specs.Opcodes.{bit}
use Rattle.inventory.specs.Inventory.{parts_size}
use Rattle.member.specs.Objects.{lookup_of}
use Rattle.card.specs.Layout.{setup_of, in_use_of, is_member, member_in}
use Rattle.card.specs.Sound.{is_sound}
use Rattle.reply.specs.Reply.{head_of}
use Rattle.demands.specs.RoundTrip.{capture, restore}

-- Member m of a sound card c is captured through a live get object i, and parts get, 0x0f, is in use there. Member k of a sound
-- card d with the same setup has as many queues (02, request 9), is stopped and has a live set object j, and parts set, 0x10, is in
-- use there. (d may be c and k may be m.)
pub record Acceptable (c : List ℕ) (m i : ℕ) (d : List ℕ) (k j : ℕ) : Type 0 where
  pub sound_source : is_sound c ≡ true
  pub sound_target : is_sound d ≡ true
  pub same_setup : setup_of c ≡ setup_of d
  pub same_queues : (member_in c m).queues ≡ (member_in d k).queues
  pub source_member : is_member c m ≡ true
  pub target_member : is_member d k ≡ true
  pub source_get : lookup_of (member_in c m) i ≡ Some Get
  pub target_set : lookup_of (member_in d k) j ≡ Some Set
  pub stopped : (member_in d k).mode ≡ Stopped
  pub capture_in_use : bit (in_use_of c) 0x0f ≡ true
  pub set_in_use : bit (in_use_of d) 0x10 ≡ true

-- The capture succeeds and is a full one, a head of 8 bytes and all parts; the set is accepted; and a capture of the target through
-- any live get object l, if parts get is in use there too, gives the same bytes.
pub record AcceptedSame (c : List ℕ) (m i : ℕ) (d : List ℕ) (k j r₁ r₂ : ℕ) : Type 0 where
  pub captured : take 8 (capture c m i r₁) ≡ head_of (Ok tt)
  pub full : length (capture c m i r₁) ≡ 8 + parts_size (member_in c m).queues
  pub accepted : (restore d k j (capture c m i r₁) r₂).1 ≡ head_of (Ok tt)
  pub same : (l r₃ : ℕ) → lookup_of (member_in d k) l ≡ Some Get → bit (in_use_of d) 0x0f ≡ true → 8 + parts_size (member_in c m).queues ≤ r₃
      → capture (restore d k j (capture c m i r₁) r₂).0 k l r₃ ≡ capture c m i r₁

abbrev pub Acceptance : Type 0
Acceptance =
    (c : List ℕ) (m i : ℕ) (d : List ℕ) (k j : ℕ) → Acceptable c m i d k j
    → (r₁ r₂ : ℕ) → 8 + parts_size (member_in c m).queues ≤ r₁ → 8 ≤ r₂
    → AcceptedSame c m i d k j r₁ r₂

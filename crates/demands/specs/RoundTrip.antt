-- DEMAND 2, the round trip, SPEC 9.2, by requests that the host's half builds: a full capture of one member can be set in
-- another, and a capture there gives the same bytes. Assumes nothing.
use Rattle.std.specs.Prelude.{◌≡◌, true, List, ℕ, ◌+◌, ◌≤◌, length, take, drop, Some, Ok}
use Rattle.protocol.specs.declared.Mode.TheVariants.{Stopped}
use Rattle.protocol.specs.declared.ObjectKind.TheVariants.{Get, Set}
use Rattle.protocol.specs.Opcodes.{bit}
use Rattle.inventory.specs.Inventory.{parts_size}
use Rattle.member.specs.Objects.{lookup_of}
use Rattle.card.specs.Layout.{setup_of, in_use_of, is_member, member_in}
use Rattle.card.specs.Sound.{is_sound}
use Rattle.reply.specs.Reply.{head_of}
use Rattle.admin.specs.Command.{respond}
use Rattle.host.specs.Request.{get_all, set_parts}

-- Member m of a sound card c is captured through a live get object i. Member k of a sound card d with the same setup has as
-- many queues (02, request 9), is stopped and has a live set object j and a live get object l. (d may be c and k may be m.)
-- Parts get, 0x0f, is in use on both cards, and parts set, 0x10, where the capture is set.
pub record Restorable (c : List ℕ) (m i : ℕ) (d : List ℕ) (k j l : ℕ) : Type 0 where
  pub sound_source : is_sound c ≡ true
  pub sound_target : is_sound d ≡ true
  pub same_setup : setup_of c ≡ setup_of d
  pub same_queues : (member_in c m).queues ≡ (member_in d k).queues
  pub source_member : is_member c m ≡ true
  pub target_member : is_member d k ≡ true
  pub source_get : lookup_of (member_in c m) i ≡ Some Get
  pub target_set : lookup_of (member_in d k) j ≡ Some Set
  pub target_get : lookup_of (member_in d k) l ≡ Some Get
  pub stopped : (member_in d k).mode ≡ Stopped
  pub capture_in_use : bit (in_use_of c) 0x0f ≡ true
  pub set_in_use : bit (in_use_of d) 0x10 ≡ true
  pub recapture_in_use : bit (in_use_of d) 0x0f ≡ true

-- what is captured with room for r bytes
abbrev pub capture : List ℕ → ℕ → ℕ → ℕ → List ℕ
capture c m i r = (respond c (get_all m i) r).1

-- what the set answers, and the card after it; the list is the captured reply past its head
abbrev pub restore : List ℕ → ℕ → ℕ → List ℕ → ℕ → List ℕ × List ℕ
restore d k j reply r = respond d (set_parts k j (drop 8 reply)) r

-- The capture succeeds and is a full one, a head of 8 bytes and all parts; the set is accepted; and a capture of the
-- target gives the same bytes.
pub record RestoredSame (c : List ℕ) (m i : ℕ) (d : List ℕ) (k j l r₁ r₂ r₃ : ℕ) : Type 0 where
  pub captured : take 8 (capture c m i r₁) ≡ head_of (Ok tt)
  pub full : length (capture c m i r₁) ≡ 8 + parts_size (member_in c m).queues
  pub accepted : (restore d k j (capture c m i r₁) r₂).1 ≡ head_of (Ok tt)
  pub same : capture (restore d k j (capture c m i r₁) r₂).0 k l r₃ ≡ capture c m i r₁

abbrev pub RoundTrip : Type 0
RoundTrip =
    (c : List ℕ) (m i : ℕ) (d : List ℕ) (k j l : ℕ) → Restorable c m i d k j l
    → (r₁ r₂ r₃ : ℕ) → 8 + parts_size (member_in c m).queues ≤ r₁ → 8 ≤ r₂ → 8 + parts_size (member_in c m).queues ≤ r₃
    → RestoredSame c m i d k j l r₁ r₂ r₃

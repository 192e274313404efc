-- REQUESTS 7 AND 8: what a packed setup says of a member; and, on commands as bytes, lists that were made or salvaged under it are
-- set in a member of a card. Assumes nothing.
use Rattle.std.specs.Prelude.{◌≡◌, Result, Ok, true, List, [], ℕ, ◌+◌, ◌-◌, ◌≤◌, length, get_or, take, drop, Some, Option, IfSome}
use Rattle.protocol.specs.declared.Mode.TheVariants.{Stopped}
use Rattle.protocol.specs.declared.ObjectKind.TheVariants.{Get, Set}
use Rattle.protocol.specs.Opcodes.{bit}
use Rattle.inventory.specs.Inventory.{parts_size}
use Rattle.parts.specs.List.{longest_list}
use Rattle.member.specs.Objects.{lookup_of}
use Rattle.setups.specs.declared.MemberSetup.{MemberSetup}
use Rattle.setups.specs.declared.Setup.{Setup}
use Rattle.setups.specs.declared.ReadRefusal.{ReadRefusal}
use Rattle.setups.specs.Reading.{read_setup}
use Rattle.setups.specs.Member.{member_setup}
use Rattle.card.specs.Layout.{setup_of, in_use_of, is_member, member_in}
use Rattle.card.specs.Sound.{is_sound}
use Rattle.reply.specs.Reply.{head_of}
use Rattle.admin.specs.Command.{respond}
use Rattle.host.specs.Request.{set_parts}
use Rattle.difference.specs.Difference.{value_at, lookup_told}
use Rattle.difference.specs.Under.{lookup_under, merge_under}
use Rattle.salvage.specs.Salvage.{Salvage, salvage_under}
use Rattle.demands.specs.RoundTrip.{capture}

-- What was read of a packed setup has member m: it is not refused, and m is 1 to N.
pub record HasMember (o : Result Setup ReadRefusal) (m : ℕ) : Type 0 where
  pub setup : Setup
  pub read : o ≡ Ok setup
  pub low : 1 ≤ m
  pub high : m ≤ setup.members

-- What the setup says of m, by which requests 7 and 8 go: m is known exactly if it is a member; its queue count and the device
-- features are those that were read. Example: ../proofs/ListsExample.antt
pub record SaysOf (setup : List ℕ) (m : ℕ) : Type 0 where
  pub known : (h : HasMember (read_setup setup) m)
      → member_setup setup m ≡ Some (record { queues = get_or h.setup.queues (m - 1) 0; features = h.setup.features })
  pub only : IfSome (member_setup setup m) (λ s. HasMember (read_setup setup) m)

abbrev pub MembersKnown : Type 0
MembersKnown = (setup : List ℕ) (m : ℕ) → SaysOf setup m

-- Member m of a sound card is stopped and has a live set object j, and parts set, 0x10, is in use.
pub record Settable (c : List ℕ) (m j : ℕ) : Type 0 where
  pub sound : is_sound c ≡ true
  pub here : is_member c m ≡ true
  pub set_object : lookup_of (member_in c m) j ≡ Some Set
  pub stopped : (member_in c m).mode ≡ Stopped
  pub set_in_use : bit (in_use_of c) 0x10 ≡ true

-- It has the device features and the queue count that a setup says of a member, "a member with that setup and queue count".
pub record Alike (c : List ℕ) (m : ℕ) (o : Option MemberSetup) : Type 0 where
  pub said : MemberSetup
  pub known : o ≡ Some said
  pub features : (setup_of c).features ≡ said.features
  pub queues : (member_in c m).queues ≡ said.queues

-- a list is set, with room for r bytes of reply: the card after it, and the reply
abbrev pub set_list : List ℕ → ℕ → ℕ → List ℕ → ℕ → List ℕ × List ℕ
set_list c m j list r = respond c (set_parts m j list) r

-- the card after the full capture and then the later list were set
abbrev pub after_both : List ℕ → ℕ → ℕ → List ℕ → List ℕ → ℕ → List ℕ
after_both c m j full later r = (set_list (set_list c m j full r).0 m j later r).0

-- The two lists are accepted one after the other; so is the made list, and it leaves the same card.
pub record SetAlike (c : List ℕ) (m j : ℕ) (full later merged : List ℕ) (r : ℕ) : Type 0 where
  pub full_accepted : (set_list c m j full r).1 ≡ head_of (Ok tt)
  pub later_accepted : (set_list (set_list c m j full r).0 m j later r).1 ≡ head_of (Ok tt)
  pub merged_accepted : (set_list c m j merged r).1 ≡ head_of (Ok tt)
  pub same : (set_list c m j merged r).0 ≡ after_both c m j full later r

-- the bytes that a merge wrote at the front of its buffer
abbrev pub merged_list : Option MemberSetup → List ℕ → List ℕ → List ℕ → List ℕ
merged_list s full later out = take (merge_under s full later out).1.0 (merge_under s full later out).1.1

-- Request 7: a merge that is not refused, of two lists that fit a request. Example: ../proofs/ListsExample.antt, for all three
abbrev pub MergedSets : Type 0
MergedSets =
    (c : List ℕ) (m j : ℕ) (setup : List ℕ) (k : ℕ) → Settable c m j → Alike c m (member_setup setup k)
    → (full later out : List ℕ) → (merge_under (member_setup setup k) full later out).0 ≡ 0
    → length full ≤ longest_list → length later ≤ longest_list
    → (r : ℕ) → 8 ≤ r → SetAlike c m j full later (merged_list (member_setup setup k) full later out) r

-- the value that a lookup hands back
abbrev pub value_under : Option MemberSetup → List ℕ → List ℕ → ℕ → ℕ → List ℕ
value_under s full later t selector = value_at full later (lookup_under s full later t selector)

-- Whatever part is found, its value is the one that a full capture after both sets, through a live get object i, has for it.
abbrev pub FoundCaptured : Type 0
FoundCaptured =
    (c : List ℕ) (m j : ℕ) (setup : List ℕ) (k : ℕ) → Settable c m j → Alike c m (member_setup setup k)
    → (i : ℕ) → lookup_of (member_in c m) i ≡ Some Get → bit (in_use_of c) 0x0f ≡ true
    → (full later : List ℕ) (t selector : ℕ) → (lookup_told (lookup_under (member_setup setup k) full later t selector)).0 ≡ 0
    → length full ≤ longest_list → length later ≤ longest_list
    → (r : ℕ) → 8 + parts_size (member_in c m).queues ≤ r
    → value_under (member_setup setup k) full later t selector
    ≡ value_under (member_setup setup k) (drop 8 (capture (after_both c m j full later r) m i r)) [] t selector

-- the bytes that a salvage wrote at the front of its buffer; b is what was lent to it
abbrev pub salvaged_list : Option MemberSetup → List ℕ → Salvage → List ℕ
salvaged_list s damaged b = take (salvage_under s damaged b).written (salvage_under s damaged b).list

-- Request 8: what is written, of a call that is not refused, is accepted.
abbrev pub SalvagedAccepted : Type 0
SalvagedAccepted =
    (c : List ℕ) (m j : ℕ) (setup : List ℕ) (k : ℕ) → Settable c m j → Alike c m (member_setup setup k)
    → (damaged : List ℕ) (b : Salvage) → ((salvage_under (member_setup setup k) damaged b).written ≡ 0 → ⊥)
    → (r : ℕ) → 8 ≤ r → (set_list c m j (salvaged_list (member_setup setup k) damaged b) r).1 ≡ head_of (Ok tt)

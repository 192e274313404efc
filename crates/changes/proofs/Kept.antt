-- What a change of a member can come to, and what it keeps: a refusal leaves the member, and a sound member stays sound.
-- Assumes nothing.
use Rattle.protocol.specs.Answers.{outcome_of}
use Rattle.std.specs.Prelude.{Result, Ok, Err, is_ok}
use mathlib.Core.Path.{◌≡◌, refl}
use mathlib.Core.Bool.{true, false}
use mathlib.Core.List.{List}
use Prim.Native.Nat.{ℕ, ◌+◌, ◌<◌}
use Rattle.theory.proofs.Tests.{unless-cases}
use Rattle.protocol.specs.declared.Refusal.{Refusal}
use Rattle.protocol.specs.declared.Mode.{Mode}
use Rattle.protocol.specs.declared.ObjectKind.{ObjectKind}
use Rattle.protocol.specs.declared.ChangeOp.{ChangeOp}
use Rattle.protocol.specs.declared.ChangeOp.TheVariants.{Create, Modify, Destroy, SetParts, SetMode}
use Rattle.protocol.proofs.Operations.{IdBelow}
use Rattle.parts.specs.declared.ListForm.TheVariants.{Parts}
use Rattle.parts.specs.List.{parts_of}
use Rattle.rules.specs.Rules.{cause_of, is_accepted}
use Rattle.values.specs.Apply.{applied}
use Rattle.std.specs.Prelude.{Option, Some, None}
use Rattle.objects.specs.Objects.{on_found}
use Rattle.member.specs.declared.Member.{Member}
use Rattle.member.specs.Objects.{lookup_of, with_object, room_in}
use Rattle.member.specs.Member.{features_in, with_mode, with_values}
use Rattle.member.proofs.Sound.{SoundMember, sound-mode, sound-object, sound-free, sound-applied}
use Rattle.changes.proofs.Allowed.{accepted-allowed}
use Rattle.changes.specs.Changes.{member_after, limited, create_of, modify_of, destroy_of, set_parts_of, change_of}

-- the commands that put an object, and its id
pub data Puts : ChangeOp → ℕ → Type 0 where
  creates : {id : ℕ} {kind : ObjectKind} → Puts (Create id kind) id
  modifies : {id : ℕ} {kind : ObjectKind} → Puts (Modify id kind) id

put-below : (ids : ℕ) {op : ChangeOp} {id : ℕ} → IdBelow ids op → Puts op id → id < ids
put-below ids h creates = h
put-below ids h modifies = h

found-cases : {A : Type 0} (P : A → Type 0) (x : Option ObjectKind) (f : ObjectKind → A) (a : A) → ((k : ObjectKind) → P (f k)) → P a → P (on_found x f a)
found-cases P (Some k) f a h n = h k
found-cases P None f a h n = n

-- what holds of a refusal and of each thing that can be done holds of every change
module _ (gets sets : ℕ) (m : Member) (P : Result Member Refusal → Type 0) (refused : (a : Refusal) → P (Err a)) where
  if-room : (n : Member) → (room_in gets sets n ≡ true → P (Ok n)) → P (limited gets sets n)
  unfolding limited
  if-room n f = unless-cases P _ _ _ (λ t. refused _) f

  pub change-cases : (list : List ℕ) (op : ChangeOp)
      → ((id : ℕ) (slot : Option ObjectKind) → Puts op id → room_in gets sets (with_object m id slot) ≡ true → P (Ok (with_object m id slot)))
      → ((id : ℕ) → P (Ok (with_object m id None)))
      → ((mode : Mode) → P (Ok (with_mode m mode)))
      → (is_accepted (cause_of m.queues (features_in m) list) ≡ true → P (Ok (with_values m (applied m.queues (parts_of Parts list) m.values))))
      → P (change_of gets sets list op m)
  unfolding create_of modify_of destroy_of set_parts_of
  change-cases list (Create id kind) put free mode set =
      found-cases P (lookup_of m id) _ _ (λ k. refused _) (if-room _ (put id (Some kind) creates))
  change-cases list (Modify id kind) put free mode set =
      found-cases P (lookup_of m id) _ _ (λ k. if-room _ (put id (Some kind) modifies)) (refused _)
  change-cases list (Destroy id) put free mode set = found-cases P (lookup_of m id) _ _ (λ k. free id) (refused _)
  change-cases list (SetParts id) put free mode set =
      found-cases P (lookup_of m id) _ _
      (λ k.
      unless-cases P _ _ _ (λ t. refused _) (λ t.
      unless-cases P _ _ _ (λ t. refused _) (λ t.
      unless-cases P _ _ _ (λ t. refused _) set)))
      (refused _)
  change-cases list (SetMode x) put free mode set = mode x

-- a refusal leaves the member as it was
pub change-refused : (m : Member) (x : Result Member Refusal) → is_ok (outcome_of x) ≡ false → member_after m x ≡ m
change-refused m (Ok n) e = cc
change-refused m (Err a) e = refl

module _ (gets sets : ℕ) (list : List ℕ) (op : ChangeOp) (m : Member) where
  abbrev after : Member
  after = member_after m (change_of gets sets list op m)

  -- no change marks a member
  pub change-marked : after.marked ≡ m.marked
  unfolding with_object
  change-marked =
      change-cases gets sets m (λ x. (member_after m x).marked ≡ m.marked) (λ a. refl) list op
      (λ id slot p e. refl) (λ id. refl) (λ mode. refl) (λ e. refl)

  -- nor changes its queue count
  pub change-queues : after.queues ≡ m.queues
  unfolding with_object
  change-queues =
      change-cases gets sets m (λ x. (member_after m x).queues ≡ m.queues) (λ a. refl) list op
      (λ id slot p e. refl) (λ id. refl) (λ mode. refl) (λ e. refl)

  -- a member that is not marked
  pub change-sound : (features : List ℕ) → IdBelow (gets + sets) op → m.marked ≡ false → SoundMember gets sets features m
      → SoundMember gets sets features after
  change-sound f h u s =
      change-cases gets sets m (λ x. SoundMember gets sets f (member_after m x)) (λ a. s) list op
      (λ id slot p e. sound-object gets sets f m s u id slot (put-below (gets + sets) h p) e) (λ id. sound-free gets sets f m s u id)
      (λ mode. sound-mode gets sets f m s u mode)
      (λ e. sound-applied gets sets f m s (parts_of Parts list) (accepted-allowed m.queues (features_in m) _ m.values e s.shaped.long s.allowed))

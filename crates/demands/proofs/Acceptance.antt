-- DEMAND 2: a full capture, set in a stopped member of a card with the same setup, is accepted, and a capture there gives the
-- same bytes. Assumes nothing.
use mathlib.Core.Path.{◌≡◌, ap, sym, ◌∙◌}
use mathlib.Core.Bool.{true}
use mathlib.Core.List.{List, ◌++◌}
use Prim.Native.Nat.{ℕ, ◌+◌, ◌≤◌, ◌<◌}
use native.Mathlib.Omega.{arith}
use lib.ListN.{length}
use Rattle.theory.specs.Bytes.{bytes_at}
use Rattle.theory.proofs.Tests.{within-high}
use Rattle.protocol.specs.declared.ObjectKind.TheVariants.{Get}
use Rattle.protocol.specs.Opcodes.{bit}
use Rattle.inventory.specs.Inventory.{values_size, parts_size}
use Rattle.inventory.specs.Queue.{queues_allowed}
use Rattle.std.specs.Prelude.{Ok}
use Rattle.rules.specs.Rules.{cause_of, is_accepted}
use Rattle.capture.specs.Capture.{capture_of}
use Rattle.capture.proofs.Sizes.{capture-length}
use Rattle.restore.proofs.RoundTrip.{accepted as capture-accepted, captured as capture-restored}
use Rattle.std.specs.Prelude.{Some, Ok}
use Rattle.member.specs.Objects.{lookup_of}
use Rattle.card.specs.declared.Setup.{Setup}
use Rattle.card.specs.Layout.{in_use_of, member_in}
use Rattle.reply.specs.Reply.{head_of}
use Rattle.demands.specs.RoundTrip.{capture, restore}
use Rattle.demands.specs.Acceptance.{Acceptable, AcceptedSame, Acceptance}
use Rattle.demands.specs.Lists.{Settable}
use Rattle.demands.proofs.Setting.{Reached, member, capture-is, settable, member_set, card_set, set_is, member-after, settable-after, lookup-after, use-after, after-head, head-only, long-reply}

module _ (c : List ℕ) (m i : ℕ) (d : List ℕ) (k j : ℕ) (x : Acceptable c m i d k j) where
  source : Reached c m
  source = record { sound = x.sound_source; here = x.source_member }

  target : Reached d k
  target = record { sound = x.sound_target; here = x.target_member }

  abbrev q : ℕ
  q = (member_in d k).queues

  abbrev v : List ℕ
  v = (member_in c m).values

  abbrev w : List ℕ
  w = (member_in d k).values

  few-queues : q < 5
  few-queues = omega (arith, within-high 1 4 _ (member d k target).count)

  long-source : length v ≡ values_size
  long-source = (member c m source).shaped.long

  long-target : length w ≡ values_size
  long-target = (member d k target).shaped.long

  allowed-source : queues_allowed q v ≡ true
  allowed-source = rw x.same_queues at (member c m source).allowed

  -- both have the setup's device features
  features-same : bytes_at 0 16 v ≡ bytes_at 0 16 w
  features-same = (member c m source).kept ∙ ap (λ (y : Setup). y.features) x.same_setup ∙ sym (member d k target).kept

  -- what was captured, its length, and what the target's member becomes
  list : List ℕ
  list = capture_of q v

  list-long : length list ≡ parts_size q
  unfolding list
  list-long = capture-length q v few-queues long-source

  list-accepted : cause_of q (bytes_at 0 16 w) list ≡ Ok tt
  unfolding list
  list-accepted = capture-accepted q v few-queues long-source allowed-source w features-same

  captured-is : (r : ℕ) → 8 + parts_size q ≤ r → capture c m i r ≡ head_of (Ok tt) ++ list
  unfolding list
  captured-is r h =
      rw x.same_queues at (capture-is c m source i r x.source_get x.capture_in_use (rw (x.same_queues, list-long) h))

  taker : Settable d k j
  taker = record { sound = x.sound_target; here = x.target_member; set_object = x.target_set; stopped = x.stopped; set_in_use = x.set_in_use }

  abbrev after : List ℕ
  after = card_set d k j taker list (ap is_accepted list-accepted)

  restored-is : (r₁ r₂ : ℕ) → 8 + parts_size q ≤ r₁ → 8 ≤ r₂ → restore d k j (capture c m i r₁) r₂ ≡ (after, head_of (Ok tt))
  restored-is r₁ r₂ h g =
      let n = list-long in
      let f = few-queues in
      rw (captured-is r₁ h, after-head) (set_is d k j taker list (ap is_accepted list-accepted) r₂ g (omega arith))

  -- a capture of the target after it
  reached-after : Reached after k
  reached-after = settable after k j (settable-after d k j taker list (ap is_accepted list-accepted))

  values-after : capture_of (member_in after k).queues (member_in after k).values ≡ list
  unfolding member_set list
  values-after =
      rw (member-after d k j taker list (ap is_accepted list-accepted)) (capture-restored q v few-queues long-source allowed-source w long-target features-same)

  recaptured-is : (l r : ℕ) → lookup_of (member_in d k) l ≡ Some Get → bit (in_use_of d) 0x0f ≡ true → 8 + parts_size q ≤ r
      → capture after k l r ≡ head_of (Ok tt) ++ list
  recaptured-is l r g u h =
      rw values-after at
      (capture-is after k reached-after l r (lookup-after d k j taker list (ap is_accepted list-accepted) l ∙ g)
      (rw (use-after d k j taker list (ap is_accepted list-accepted)) u)
      (rw (values-after, list-long) h))

  trip : (r₁ r₂ : ℕ) → 8 + parts_size (member_in c m).queues ≤ r₁ → 8 ≤ r₂ → AcceptedSame c m i d k j r₁ r₂
  trip r₁ r₂ h₁ h₂ =
      let g₁ : 8 + parts_size q ≤ r₁ = rw x.same_queues at h₁ in
      let e = captured-is r₁ g₁ in
      let f = restored-is r₁ r₂ g₁ h₂ in
      record {
        captured = rw e (head-only list);
        full = rw (e, x.same_queues) (long-reply list ∙ rw list-long);
        accepted = ap (λ (y : List ℕ × List ℕ). y.1) f;
        same = λ l r₃ g u h.
            ap (λ (y : List ℕ × List ℕ). capture y.0 k l r₃) f ∙ recaptured-is l r₃ g u (rw x.same_queues at h) ∙ sym e;
      }

pub acceptance : Acceptance
acceptance c m i d k j x = trip c m i d k j x

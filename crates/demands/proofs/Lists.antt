-- REQUESTS 7 AND 8: what is set of a made or a salvaged list, by commands as bytes. Assumes nothing.
use mathlib.Core.Path.{◌≡◌, refl, ap, sym, ◌∙◌}
use mathlib.Core.Bool.{true}
use mathlib.Core.List.{List, ◌++◌}
use Rattle.std.specs.Prelude.{IfSome}
use Rattle.std.proofs.Common.{Option, Some, Ok}
use Prim.Native.Nat.{ℕ, ◌+◌, ◌-◌, ◌≤◌, ◌<◌}
use native.Mathlib.Omega.{arith}
use lib.ListN.{length, get_or, drop}
use Rattle.theory.specs.Logic.{unless◌answer◌then◌, within}
use Rattle.theory.proofs.Tests.{unless-cases, inside, within_low, within-high}
use Rattle.protocol.specs.declared.ObjectKind.TheVariants.{Get}
use Rattle.protocol.specs.Opcodes.{bit}
use Rattle.inventory.specs.Inventory.{parts_size}
use Rattle.parts.specs.declared.ListForm.TheVariants.{Parts}
use Rattle.parts.specs.List.{parts_of, longest_list}
use Rattle.rules.specs.Rules.{cause_of, is_accepted}
use Rattle.values.proofs.Kept.{applied-features}
use Rattle.capture.specs.Capture.{capture_of}
use Rattle.std.specs.Prelude.{Some, Ok}
use Rattle.member.specs.Objects.{lookup_of}
use Rattle.member.specs.Member.{features_in, with_values}
use Rattle.setups.specs.declared.Setup.{Setup}
use Rattle.setups.specs.declared.MemberSetup.{MemberSetup}
use Rattle.setups.specs.Reading.{read_setup}
use Rattle.setups.specs.Member.{member_of, member_read, member_setup}
use Rattle.setups.proofs.InRange.{read-cases}
use Rattle.setups.specs.Claims.{MemberInRange}
use Rattle.setups.proofs.Member.{member-in-range}
use Rattle.card.specs.Layout.{in_use_of, member_in, with_member}
use Rattle.reply.specs.Reply.{head_of}
use Rattle.difference.specs.Difference.{made}
use Rattle.difference.specs.Claims.{Pair}
use Rattle.difference.proofs.Made.{made-is, made-sets, made-accepted, made-long}
use Rattle.difference.proofs.Under.{merged-made, found-pair, found-made}
use Rattle.salvage.specs.Claims.{InSetup}
use Rattle.salvage.specs.Salvage.{repaired}
use Rattle.salvage.proofs.Claims as salvage
use Rattle.salvage.proofs.Values.{repaired-long}
use Rattle.salvage.proofs.Under.{salvage-written}
use Rattle.demands.specs.RoundTrip.{capture}
use Rattle.demands.specs.Lists.{HasMember, MembersKnown, Settable, Alike, set_list, after_both, SetAlike, MergedSets, FoundCaptured, SalvagedAccepted}
use Rattle.demands.proofs.Setting.{member, capture-is, settable, member_set, card_set, set_is, member-sound, member-after, settable-after, lookup-after, use-after, card-is, card-over, after-head}

-- ---- what a setup says of a member ----

has-member : (s : Setup) (m : ℕ) → IfSome (member_of s m) (λ x. HasMember (Ok s) m)
unfolding member_of
has-member s m =
    unless-cases (λ (o : Option MemberSetup). IfSome o (λ x. HasMember (Ok s) m)) (within 1 s.members m) _ _ (λ t. tt) λ t.
    record { setup = s; read = refl; low = within_low 1 s.members m t; high = within-high 1 s.members m t }

only-members : (setup : List ℕ) (m : ℕ) → IfSome (member_setup setup m) (λ x. HasMember (read_setup setup) m)
unfolding member_setup
only-members setup m = read-cases (λ o. IfSome {T = MemberSetup} (member_read o m) (λ x. HasMember o m)) setup tt (λ s r. has-member s m)

member-said : (setup : List ℕ) (m : ℕ) (h : HasMember (read_setup setup) m)
    → member_setup setup m ≡ Some (record { queues = get_or h.setup.queues (m - 1) 0; features = h.setup.features })
unfolding member_setup member_of unless◌answer◌then◌
member-said setup m h = rw (h.read, inside 1 h.setup.members m h.low h.high)

pub members-known : MembersKnown
members-known setup m = record { known = member-said setup m; only = only-members setup m }

-- ---- two lists set one after the other, and the list made of them ----

module _ (c : List ℕ) (m j : ℕ) (x : Settable c m j) (full later : List ℕ)
    (pair : Pair (member_in c m).queues (features_in (member_in c m)) full later) where
  abbrev q : ℕ
  q = (member_in c m).queues

  abbrev v : List ℕ
  v = (member_in c m).values

  long : length v ≡ 205
  long = (member c m (settable c m j x)).shaped.long

  abbrev merged : List ℕ
  merged = made q full later

  merged-right : is_accepted (cause_of q (features_in (member_in c m)) merged) ≡ true
  merged-right = made-accepted q full later v long pair

  -- after the full capture
  abbrev once : List ℕ
  once = card_set c m j x full pair.full_accepted

  once-member : member_in once m ≡ member_set c m j x full pair.full_accepted
  once-member = member-after c m j x full pair.full_accepted

  again : Settable once m j
  again = settable-after c m j x full pair.full_accepted

  later-right : is_accepted (cause_of (member_in once m).queues (features_in (member_in once m)) later) ≡ true
  unfolding member_set
  later-right = rw (once-member, applied-features q (parts_of Parts full) v) pair.later_accepted

  -- the card after both is the card after the made list
  both-member : member_set once m j again later later-right ≡ member_set c m j x merged merged-right
  unfolding member_set
  both-member = rw once-member (ap (with_values (member_in c m)) (sym (made-sets q full later v long pair)))

  both_is : card_set once m j again later later-right ≡ card_set c m j x merged merged-right
  both_is =
      card-is once m j again later later-right
      ∙ card-over c m j x full pair.full_accepted (member_set once m j again later later-right) (member-sound once m j again later later-right).shaped
      ∙ ap (with_member c m) both-member ∙ sym (card-is c m j x merged merged-right)

  merged-values : capture_of (member_in (card_set c m j x merged merged-right) m).queues (member_in (card_set c m j x merged merged-right) m).values ≡ merged
  unfolding member_set
  merged-values =
      rw (member-after c m j x merged merged-right, made-sets q full later v long pair) (sym (made-is q full later v long pair))

  module _ (r : ℕ) (room : 8 ≤ r) (short_full : length full ≤ longest_list) (short_later : length later ≤ longest_list) where
    full-set : set_list c m j full r ≡ (once, head_of (Ok tt))
    full-set = set_is c m j x full pair.full_accepted r room short_full

    later-set : set_list (set_list c m j full r).0 m j later r ≡ (card_set c m j x merged merged-right, head_of (Ok tt))
    later-set = rw full-set (set_is once m j again later later-right r room short_later ∙ rw both_is)

    merged-set : set_list c m j merged r ≡ (card_set c m j x merged merged-right, head_of (Ok tt))
    merged-set =
        let few = pair.few in
        let n = made-long q full later v long pair in
        set_is c m j x merged merged-right r room (omega arith)

    pub set-alike : SetAlike c m j full later merged r
    set-alike = record {
      full_accepted = ap (λ (y : List ℕ × List ℕ). y.1) full-set;
      later_accepted = ap (λ (y : List ℕ × List ℕ). y.1) later-set;
      merged_accepted = ap (λ (y : List ℕ × List ℕ). y.1) merged-set;
      same = ap (λ (y : List ℕ × List ℕ). y.0) merged-set ∙ sym (ap (λ (y : List ℕ × List ℕ). y.0) later-set);
    }

    -- a full capture after both is the made list
    pub captured-made : (i : ℕ) → lookup_of (member_in c m) i ≡ Some Get → bit (in_use_of c) 0x0f ≡ true → 8 + parts_size q ≤ r
        → drop 8 (capture (after_both c m j full later r) m i r) ≡ merged
    captured-made i get in_use h =
        let after = card_set c m j x merged merged-right in
        let n = made-long q full later v long pair in
        let taken =
        capture-is after m (settable after m j (settable-after c m j x merged merged-right)) i r
        (lookup-after c m j x merged merged-right i ∙ get) (rw (use-after c m j x merged merged-right) in_use) (rw (merged-values, n) h) in
        ap (λ (y : List ℕ × List ℕ). drop 8 (capture y.0 m i r)) later-set
        ∙ ap (drop 8) (taken ∙ ap (λ l. head_of (Ok tt) ++ l) merged-values)
        ∙ after-head merged

-- ---- under a setup ----

module _ (c : List ℕ) (m j : ℕ) (setup : List ℕ) (k : ℕ) (x : Settable c m j) (y : Alike c m (member_setup setup k)) where
  abbrev s : MemberSetup
  s = y.said

  in-setup : InSetup s.queues s.features
  in-setup = let r : MemberInRange s = rw y.known at (member-in-range setup k) in record { count = r.count; long = r.features }

  few-queues : s.queues < 5
  few-queues = omega (arith, within-high 1 4 s.queues in-setup.count)

  own-features : features_in (member_in c m) ≡ s.features
  own-features = (member c m (settable c m j x)).kept ∙ y.features

  own_pair : (full later : List ℕ) → Pair s.queues s.features full later → Pair (member_in c m).queues (features_in (member_in c m)) full later
  own_pair full later p = rw (y.queues, own-features) p

pub merged-sets : MergedSets
merged-sets c m j setup k x y full later out e f l r room =
    let s = y.said in
    let p = merged-made s (few-queues c m j setup k x y) full later out (rw y.known at e) in
    rw (y.known, p.bytes, ← y.queues) (set-alike c m j x full later (own_pair c m j setup k x y full later p.pair) r room f l)

pub found-captured : FoundCaptured
found-captured c m j setup k x y i get in_use full later t selector e f l r room =
    let s = y.said in
    let few = few-queues c m j setup k x y in
    let p = found-pair s few full later t selector (rw y.known at e) in
    let own = own_pair c m j setup k x y full later p in
    rw (captured-made c m j x full later own r (omega arith) f l i get in_use room, y.known, y.queues) (found-made s few full later t selector p)

pub salvaged-accepted : SalvagedAccepted
salvaged-accepted c m j setup k x y damaged b some r room =
    let s = y.said in
    let g = in-setup c m j setup k x y in
    let few = few-queues c m j setup k x y in
    let n = repaired-long s.queues s.features damaged g in
    let a = (salvage.claims).passes s.queues s.features damaged g in
    let written = rw y.known at some in
    rw (y.known, salvage-written s g damaged b written)
    (ap (λ (u : List ℕ × List ℕ). u.1)
    (set_is c m j x (repaired s.queues s.features damaged) (rw (y.queues, own-features c m j setup k x y) a) r room (omega arith)))

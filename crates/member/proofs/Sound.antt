-- What keeps a member sound. `SoundMember` says in plain facts what the test on its record says; each law is over a sound
-- member. Assumes nothing.
use mathlib.Core.Path.{◌≡◌, refl, ap, sym, ◌∙◌}
use mathlib.Core.Bool.{Bool, true, false, not, ◌&&◌}
use mathlib.Core.List.{List, ◌++◌, map}
use Prim.Native.Nat.{ℕ, zero, suc, ◌+◌, ◌-◌, ◌*◌, ◌≤◌, ◌<◌}
use native.Mathlib.Omega.{arith}
use lib.Dec.{leb, eqb}
use lib.ListN.{length, get_or, drop, replicate}
use lib.Seq.{take_at, drop-set-lt, drop-append-add}
use borrow.Author.Tests.{not-true, not-false, leb-true, le-leb, lt-leb, eqb-true, eq-eqb}
use Rattle.theory.specs.Logic.{◌and◌, ◌or◌, indicator, within}
use Rattle.theory.specs.Bytes.{bytes_at, same}
use Rattle.theory.proofs.Tests.{by_cases, both, not-both, either, and-bits, and_i, true-and, and-true, and_assoc, and-false, false-and, true-or, false-or, inside, same_true, eq-same}
use Rattle.theory.proofs.Bytes.{length-bytes_at, bytes_at-bytes_at}
use Rattle.wire.specs.Le.{le, number}
use Rattle.wire.proofs.Le.{number-none, number_step}
use Rattle.inventory.specs.Inventory.{values_size, offset_of, rows}
use Rattle.inventory.specs.Queue.{power_below, ring_size, queue_size, queue_allowed, value_allowed, queue_value, queues_allowed}
use Rattle.inventory.proofs.Queue.{all-allowed}
use Rattle.parts.specs.List.{PartList}
use Rattle.values.specs.Apply.{applied}
use Rattle.values.proofs.Kept.{stored-length, stored-features, stored-allowed, applied-length, applied-features}
use Rattle.protocol.specs.Answers.{mode_of}
use Rattle.protocol.specs.declared.Mode.{Mode}
use Rattle.protocol.specs.declared.Mode.TheVariants.{Stopped}
use Rattle.std.specs.Prelude.{Option, None}
use Rattle.objects.specs.Objects.{objects_size, object_of, object_byte, all_up_to, all_within, most_of, within_limits}
use Rattle.objects.proofs.Objects.{objects-low, bytes-of-objects}
use Rattle.objects.proofs.Counts.{map-set, all-drop-set, all_drop, limits-set, none-live, none-counted, both-tests}
use Rattle.member.specs.declared.Member.{Member}
use Rattle.member.specs.Record.{mode_at, mark_at, queues_at, objects_at, held_at, values_at, member_size, holding_size, object_bytes, member_of, member_bytes}
use Rattle.member.specs.Objects.{room_in, with_object}
use Rattle.member.specs.Member.{features_size, fresh_of, features_in, with_mode, with_values, with_held, handed_back, with_part}
use Rattle.member.specs.Sound.{sound_end, sound_mark, sound_front, sound_record}
use Rattle.member.proofs.Record.{Shaped, fresh-shaped, mode-low, record-mode, record-mark, record-queues, record-held, record-objects, record-values, values-last, member-shaped, shaped-mode, shaped-values, shaped-held, shaped-object}
use Rattle.protocol.specs.declared.ObjectKind.{ObjectKind}

-- what a marked member is: stopped, with no holding place and no live object
pub record Ended (m : Member) : Type 0 where
  pub stopped : m.mode ≡ Stopped
  pub no_place : m.held ≡ 0
  pub no_objects : all_up_to 0 (map object_byte m.objects) ≡ true

impossible : (m : Member) → false ≡ true → Ended m
impossible m e = record { stopped = cc; no_place = cc; no_objects = cc }

-- the test of a mark says so, and back
mark-sound : (m : Member) → Shaped m → (m.marked ≡ true → Ended m) → sound_mark (member_bytes m) ≡ true
unfolding sound_mark sound_end indicator ◌and◌ ◌or◌
mark-sound m h f =
    rw (record-mark m h, record-mode m h, record-held m h, record-objects m h)
    (by_cases m.marked (λ t. let e = f t in rw (t, e.stopped, e.no_place, e.no_objects)) (λ t. rw t))

sound-mark : (r : List ℕ) → sound_mark r ≡ true → map object_byte (map object_of (object_bytes r)) ≡ object_bytes r → (member_of r).marked ≡ true → Ended (member_of r)
unfolding sound_mark sound_end member_of
sound-mark r e os t =
    either _ _ e (λ z. impossible (member_of r) (sym (ap (λ n. eqb n 1) (eqb-true (get_or r mark_at 0) 0 z)) ∙ t)) λ y.
    let p = both _ _ y in
    let q = both _ _ p.0 in
    let w = both _ _ q.0 in
    record { stopped = ap mode_of (eqb-true (get_or r mode_at 0) 1 w.1); no_place = eqb-true _ _ q.1; no_objects = rw os p.1 }

-- the queues of a fresh member are zeros
module _ (features : List ℕ) (n : length features ≡ features_size) where
  abbrev zeros : List ℕ
  zeros = replicate (values_size - features_size) 0

  behind : (at : ℕ) → queue_allowed (bytes_at at queue_size zeros) ≡ true → queue_allowed (bytes_at (features_size + at) queue_size (features ++ zeros)) ≡ true
  behind at e = rw (← n, drop-append-add features zeros at) e

  fresh-queue : (k : ℕ) → k < 4 → queue_allowed (queue_value k (features ++ zeros)) ≡ true
  unfolding offset_of rows queue_allowed ring_size power_below number le ◌and◌ ◌or◌
  fresh-queue zero l = behind 29 refl
  fresh-queue (suc zero) l = behind 61 refl
  fresh-queue (suc (suc zero)) l = behind 93 refl
  fresh-queue (suc (suc (suc zero))) l = behind 125 refl
  fresh-queue (suc (suc (suc (suc k)))) l = absurd (omega arith)

module _ (gets sets : ℕ) (features : List ℕ) where
  pub record SoundMember (m : Member) : Type 0 where
    pub shaped : Shaped m
    pub count : within 1 4 m.queues ≡ true
    pub mark : m.marked ≡ true → Ended m
    pub few : m.held ≤ 1 + holding_size
    pub below : all_up_to 0 (drop (gets + sets) (map object_byte m.objects)) ≡ true
    pub room : room_in gets sets m ≡ true
    pub kept : features_in m ≡ features
    pub allowed : queues_allowed m.queues m.values ≡ true

  -- ---- the bytes of a sound member are sound, and back ----

  pub sound-record : (m : Member) → SoundMember m → sound_record gets sets features (member_bytes m) ≡ true
  unfolding sound_record sound_front
  sound-record m s =
      let h = s.shaped in
      rw (record-mode m h, record-queues m h, record-held m h, record-objects m h, record-values m h features_size, values-last m h)
      (and_i _ _ (and_i _ _ (and_i _ _ (and_i _ _ (and_i _ _ (and_i _ _ (and_i _ _ (and_i _ _ (mode-low m.mode) s.count) (mark-sound m h s.mark)) (le-leb _ _ s.few)) (objects-low m.objects)) s.below) s.room)
      (eq-same _ _ s.kept)) s.allowed)

  -- of bytes that are sound
  pub sound-member : (r : List ℕ) → length r ≡ member_size → sound_record gets sets features r ≡ true → SoundMember (member_of r)
  unfolding sound_record sound_front member_of
  sound-member r n e =
      let z = both _ _ e in
      let p = both _ _ z.0 in
      let q = both _ _ p.0 in
      let w = both _ _ q.0 in
      let v = both _ _ w.0 in
      let u = both _ _ v.0 in
      let few : number held_at 2 r ≤ 1 + holding_size = leb-true _ _ u.1 in
      let os : map object_byte (map object_of (object_bytes r)) ≡ object_bytes r = bytes-of-objects (object_bytes r) v.1 in
      record {
        shaped = member-shaped r n (omega arith);
        count = (both _ _ (both _ _ u.0).0).1;
        mark = sound-mark r (both _ _ u.0).1 os;
        few = few;
        below = rw os w.1;
        room = rw os q.1;
        kept = bytes_at-bytes_at 0 features_size values_at values_size r (omega arith) ∙ same_true _ _ p.1;
        allowed = z.1;
      }

  -- ---- what leaves a member sound ----

  pub sound-fresh : (queues : ℕ) → within 1 4 queues ≡ true → length features ≡ features_size → SoundMember (fresh_of queues features)
  unfolding fresh_of
  sound-fresh queues k n = record {
    shaped = fresh-shaped queues features n;
    count = k;
    mark = impossible _;
    few = omega arith;
    below = all_drop 0 (gets + sets) (replicate objects_size 0) none-live;
    room = none-counted gets sets;
    kept = take_at features (replicate (values_size - features_size) 0) features_size n;
    allowed = all-allowed queues _ λ k h l. fresh-queue features n k l;
  }

  module _ (m : Member) (s : SoundMember m) where
    -- other values, with the same device features
    sound-values : (values : List ℕ) → length values ≡ values_size → bytes_at 0 features_size values ≡ features_in m
        → queues_allowed m.queues values ≡ true → SoundMember (with_values m values)
    sound-values values n e a = record {
      shaped = shaped-values m s.shaped values n;
      count = s.count;
      mark = λ t. let z = s.mark t in record { stopped = z.stopped; no_place = z.no_place; no_objects = z.no_objects };
      few = s.few;
      below = s.below;
      room = s.room;
      kept = e ∙ s.kept;
      allowed = a;
    }

    -- one part stored, and the parts of a list: the device features are never set, and what is set is allowed
    pub sound-part : (t selector : ℕ) (value : List ℕ) → value_allowed t value ≡ true → SoundMember (with_part m t selector value)
    sound-part t selector value a =
        sound-values _ (stored-length m.queues t selector value m.values ∙ s.shaped.long) (stored-features m.queues t selector value m.values)
        (stored-allowed m.queues t selector value m.values s.shaped.long s.allowed (λ i p. a))

    pub sound-applied : (ps : PartList) → queues_allowed m.queues (applied m.queues ps m.values) ≡ true
        → SoundMember (with_values m (applied m.queues ps m.values))
    sound-applied ps = sound-values _ (applied-length m.queues ps m.values ∙ s.shaped.long) (applied-features m.queues ps m.values)

    -- handed back
    pub sound-handed-back : SoundMember (handed_back m)
    sound-handed-back = record {
      shaped = record { ids = refl; low = omega arith; long = s.shaped.long };
      count = s.count;
      mark = λ t. record { stopped = refl; no_place = refl; no_objects = none-live };
      few = omega arith;
      below = all_drop 0 (gets + sets) (replicate objects_size 0) none-live;
      room = none-counted gets sets;
      kept = s.kept;
      allowed = s.allowed;
    }

    -- what a marked member cannot have
    module _ (u : m.marked ≡ false) where
      unmarked : (x : Member) → m.marked ≡ true → Ended x
      unmarked x t = impossible x (sym u ∙ t)

      pub sound-mode : (mode : Mode) → SoundMember (with_mode m mode)
      sound-mode mode = record { shaped = shaped-mode m s.shaped mode; count = s.count; mark = unmarked _; few = s.few; below = s.below; room = s.room; kept = s.kept; allowed = s.allowed }

      -- another number of bytes held
      pub sound-held : (held : ℕ) → held ≤ 1 + holding_size → SoundMember (with_held m held)
      sound-held held h =
          record { shaped = shaped-held m s.shaped held (omega arith); count = s.count; mark = unmarked _; few = h; below = s.below; room = s.room; kept = s.kept; allowed = s.allowed }

      -- an object that the limits allow, at an id that is valid
      pub sound-object : (id : ℕ) (slot : Option ObjectKind) → id < gets + sets → room_in gets sets (with_object m id slot) ≡ true → SoundMember (with_object m id slot)
      unfolding with_object
      sound-object id slot h e = record {
        shaped = shaped-object m s.shaped id slot;
        count = s.count;
        mark = unmarked _;
        few = s.few;
        below = rw (map-set, drop-set-lt) s.below;
        room = e;
        kept = s.kept;
        allowed = s.allowed;
      }

      -- an object destroyed
      pub sound-free : (id : ℕ) → SoundMember (with_object m id None)
      unfolding with_object
      sound-free id =
          record {
            shaped = shaped-object m s.shaped id None;
            count = s.count;
            mark = unmarked _;
            few = s.few;
            below = rw map-set (all-drop-set (gets + sets) _ id s.below);
            room = rw map-set (limits-set gets sets _ id s.room);
            kept = s.kept;
            allowed = s.allowed;
          }

-- ---- the front: mode and mark as one number ----

-- what was handed back is marked and stopped
unmarked-end : (r : List ℕ) → get_or r mark_at 0 ≡ 0 → sound_end r ≡ false
unfolding sound_end
unmarked-end r e = rw e (simp false-and)

end-stopped : (r : List ℕ) → sound_end r ≡ true → get_or r mode_at 0 ≤ 1
unfolding sound_end
end-stopped r e = omega (arith, eqb-true (get_or r mode_at 0) 1 (both _ _ (both _ _ (both _ _ e).0).0).1)

module _ (r : List ℕ) (n : ℕ) (e : n ≡ number mode_at 2 r) where
  in_one : n ≡ get_or r mode_at 0 + 256 * get_or r mark_at 0
  in_one = e ∙ rw (number_step, number_step, number-none) (omega arith)

  front-counted : within 1 4 (get_or r queues_at 0) ≡ true → leb (get_or r mode_at 0) 1 and sound_mark r ≡ sound_front r
  unfolding sound_front
  front-counted h = rw (h, and-true)

  module _ (low : 1 ≤ get_or r queues_at 0) (high : get_or r queues_at 0 ≤ 4) where
    pub front-unmarked : n ≤ 1 → true ≡ sound_front r
    unfolding sound_mark
    front-unmarked h =
        let mode : get_or r mode_at 0 ≤ 1 = omega (arith, in_one) in
        let mark : get_or r mark_at 0 ≡ 0 = omega (arith, in_one) in
        rw (← front-counted (inside 1 4 _ low high), le-leb _ _ mode, eq-eqb _ _ mark) (simp (true-or, true-and))

    pub front-marked : 1 < n → (b : Bool) → b ≡ sound_end r → b ≡ sound_front r
    unfolding sound_mark
    front-marked h b d =
        rw (← front-counted (inside 1 4 _ low high), ← d) (by_cases (eqb (get_or r mark_at 0) 0)
        (λ t.
        let mark : get_or r mark_at 0 ≡ 0 = eqb-true _ _ t in
        let mode : 1 < get_or r mode_at 0 = omega (arith, in_one) in
        rw (lt-leb _ _ mode, false-and) (d ∙ unmarked-end r mark))
        (λ t. rw (t, false-or) (by_cases b (λ u. rw (u, le-leb _ _ (end-stopped r (sym d ∙ u))) (sym (true-and true))) (λ u. rw u (sym (and-false _))))))

-- ---- the test, one step after the other ----

module _ (gets sets : ℕ) (features r : List ℕ) where
  abbrev low_objects : List ℕ → Bool
  low_objects os = all_up_to 2 os and all_up_to 0 (drop (gets + sets) os)

  steps : sound_front r and (leb (number held_at 2 r) (1 + holding_size)
      and ((low_objects (object_bytes r) and within_limits gets sets (object_bytes r))
      and (same (bytes_at values_at features_size r) features and queues_allowed (get_or r queues_at 0) (bytes_at values_at values_size r))))
      ≡ sound_record gets sets features r
  unfolding sound_record
  steps = simp and_assoc

  -- f tested the features, w the object bytes os against what each may be at most
  module _ (most : List ℕ) (long : length r ≡ member_size) (few : gets + sets ≤ objects_size) (i : most ≡ most_of (gets + sets))
      (f : Bool) (ef : f ≡ same (bytes_at values_at features_size r) features)
      (os : List ℕ) (w : Bool) (eo : os ≡ object_bytes r) (ew : w ≡ all_within most os) where
    low-tested : w ≡ low_objects (object_bytes r)
    low-tested =
        ew ∙ ap (all_within most) eo
        ∙ both-tests (gets + sets) most few i (object_bytes r) (length-bytes_at objects_at objects_size r (omega arith))

    pub bad-vectors : not (f && w) ≡ true → false ≡ sound_record gets sets features r
    bad-vectors h =
        not-both f w (sym (and-bits f w) ∙ not-true (f && w) h)
        (λ e. rw (← steps, ← ef, e) (simp (false-and, and-false)))
        (λ e. rw (← steps, ← low-tested, e) (simp (false-and, and-false)))

    module _ (h : not (f && w) ≡ false) where
      good : (f ≡ true) × (w ≡ true)
      good = both f w (sym (and-bits f w) ∙ not-false (f && w) h)

      pub all-low : all_up_to 2 os ≡ true
      all-low = rw eo (both _ _ (sym low-tested ∙ good.1)).0

      module _ (held : ℕ) (g : held ≡ number held_at 2 r) where
        pub bad-held : 1 + holding_size < held → false ≡ sound_record gets sets features r
        bad-held j = rw (← steps, ← g, lt-leb _ _ j) (simp (false-and, and-false))

        module _ (z : Bool) (ez : z ≡ queues_allowed (get_or r queues_at 0) (bytes_at values_at values_size r)) where
          pub bad-queues : not z ≡ true → false ≡ sound_record gets sets features r
          bad-queues j = rw (← steps, ← ez, not-true z j) (simp and-false)

          module _ (x : Bool) (ex : x ≡ sound_front r) where
            pub bad-front : not x ≡ true → false ≡ sound_record gets sets features r
            bad-front j = rw (← steps, ← ex, not-true x j) (sym (false-and _))

            pub limits-last : not x ≡ false → not z ≡ false → held ≤ 1 + holding_size → (b : Bool) → b ≡ within_limits gets sets os
                → b ≡ sound_record gets sets features r
            limits-last j k l b q =
                rw (← steps, ← ex, not-false x j, ← g, le-leb _ _ l, ← low-tested, good.1, ← ef, good.0, ← ez, not-false z k, ← eo, ← q)
                (simp (true-and, and-true))

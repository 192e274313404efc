-- When a card store is done, what it leaves, and how it is refused. Assumes nothing.
use mathlib.Core.Path.{◌≡◌, refl, ap, sym, ◌∙◌}
use mathlib.Core.Bool.{true, false}
use mathlib.Core.List.{List, ◌++◌}
use Prim.Native.Nat.{ℕ, zero, suc, ◌+◌, ◌-◌, ◌*◌, ◌^◌, ◌≤◌, ◌<◌}
use native.Mathlib.Omega.{arith}
use borrow.Author.Tests.{eqb-true, eq-eqb, ne_eqb, ltb-true, lt-ltb}
use lib.Dec.{ltb, eqb}
use lib.ListN.{length, take, drop, length-take}
use Rattle.std.specs.Prelude.{Ok, Err, Option, Some, None}
use Rattle.theory.specs.Logic.{unless◌answer◌then◌}
use Rattle.theory.proofs.Tests.{by_cases, and_i, inside, within_low, within-high, tests}
use Rattle.theory.proofs.Ladder.{or_left, or_right}
use Rattle.theory.proofs.Bytes.{put-eq, take-before, drop-after}
use Rattle.wire.specs.Le.{number}
use Rattle.protocol.specs.declared.EventRefusal.{EventRefusal}
use Rattle.protocol.specs.declared.EventRefusal.TheVariants.{NoPart, WrongLength, BadQueueSize}
use Rattle.protocol.specs.Answers.{EventAnswer, event_number}
use Rattle.inventory.specs.Inventory.{row_at, values_size, selector_of, place_of}
use Rattle.inventory.specs.Queue.{power_below, ring_size, queue_allowed, value_allowed}
use Rattle.inventory.proofs.Rules.{row_within}
use Rattle.inventory.proofs.Find.{place_found}
use Rattle.member.specs.Record.{member_size, member_bytes}
use Rattle.member.specs.Member.{with_values, with_part}
use Rattle.member.proofs.Sound.{sound-part}
use Rattle.card.specs.Layout.{member_bytes_at, record_at, setup_of, is_member, member_in, with_member, with_record_bytes}
use Rattle.card.specs.Sound.{is_sound}
use Rattle.card.proofs.MemberLaws.{member-same}
use Rattle.card.proofs.SoundLaws.{sound-of, sound-has, sound-member-in}
use Rattle.events.specs.Events.{if_done, store_in, store}
use Rattle.events.proofs.Cases.{on-unsound, on-sound}
use Rattle.values.specs.Apply.{storable, stored}
use Rattle.values.proofs.Kept.{stored_at}
use Rattle.demands.specs.Calls.{card_store, answered, step}
use Rattle.demands.specs.QueueSizes.{Ring, power, unused}
use Rattle.demands.proofs.QueueSizes.{is-ring}
use Rattle.demands.specs.Stores.{Part, queue, Stored, StoreDone, StoresDone}
use Rattle.demands.proofs.StoreRows.{part-row, row-part}

-- ---- the answer ----

power-below : (k n : ℕ) → k < n → power_below n (2 ^ k) ≡ true
unfolding power_below
power-below k zero h = absurd (omega arith)
power-below k (suc n) h =
    by_cases (eqb k n)
    (λ e. or_left _ _ (eq-eqb (2 ^ k) (2 ^ n) (ap (λ (j : ℕ). 2 ^ j) (eqb-true k n e))))
    (λ e. or_right _ _ (power-below k n (omega tests)))

ring-is : (n e : ℕ) → Ring n e → ring_size n e ≡ true
unfolding ring_size
ring-is n e (power {k} h d) = or_left _ _ (rw d (power-below k 16 (omega arith)))
ring-is n e (unused d f) = or_right _ _ (and_i _ _ (eq-eqb _ _ d) (eq-eqb _ _ f))

-- of a part that is no queue's any value, of a queue's one with a size that a ring has
allowed-ring : (t : ℕ) (value : List ℕ) → (t ≡ 0x104 → Ring (number 0 2 value) (number 4 2 value)) → value_allowed t value ≡ true
unfolding value_allowed queue_allowed unless◌answer◌then◌
allowed-ring t value f =
    by_cases (eqb t 0x104)
    (λ a. rw a (by_cases (eqb (length value) 32) (λ b. rw b (ring-is _ _ (f (eqb-true t _ a)))) (λ b. rw b)))
    (λ a. rw a)

not-allowed : (t : ℕ) (value : List ℕ) → t ≡ 0x104 → length value ≡ 32 → (Ring (number 0 2 value) (number 4 2 value) → ⊥)
    → value_allowed t value ≡ false
unfolding value_allowed queue_allowed unless◌answer◌then◌
not-allowed t value a b f =
    rw (eq-eqb t 0x104 a, eq-eqb (length value) 32 b)
    (by_cases (ring_size (number 0 2 value) (number 4 2 value)) (λ e. absurd (f (is-ring _ _ e))) (λ e. e))

module _ (q : ℕ) (few : q ≤ 4) (t s : ℕ) (value : List ℕ) where
  storable-none : ((n at : ℕ) → Part q t s n at → ⊥) → storable q t (selector_of t s) value ≡ Err NoPart
  unfolding storable unless◌answer◌then◌
  storable-none f = cases (place_of q t (selector_of t s)) refl
    where
      cases : (p : Option ℕ) → place_of q t (selector_of t s) ≡ p → storable q t (selector_of t s) value ≡ Err NoPart
      cases (Some i) e =
          rw e (by_cases (ltb 0 i) (λ l. absurd (f _ _ (row-part q few t s i (ltb-true 0 i l) e))) (λ l. rw l))
      cases None e = rw e

  module _ (n at : ℕ) (p : Part q t s n at) where
    other_length : (length value ≡ n → ⊥) → storable q t (selector_of t s) value ≡ Err WrongLength
    unfolding storable unless◌answer◌then◌
    other_length f =
        let r = part-row q few p in
        rw (r.place, lt-ltb 0 _ r.later, ne_eqb (length value) (row_at r.index).size (λ e. f (e ∙ r.size)))

    right-length : length value ≡ n
        → storable q t (selector_of t s) value ≡ (unless value_allowed t value answer Err BadQueueSize then Ok tt)
    unfolding storable unless◌answer◌then◌
    right-length e =
        let r = part-row q few p in
        rw (r.place, lt-ltb 0 _ r.later, eq-eqb (length value) (row_at r.index).size (e ∙ sym r.size))

-- a queue's value has 32 bytes
queue_long : {q s n at : ℕ} → Part q 0x104 s n at → n ≡ 32
queue_long (queue s h) = refl

-- ---- the card ----

-- a value of the right length is put at its place
stored-put : (q : ℕ) (few : q ≤ 4) (t s n at : ℕ) (value v : List ℕ) → Part q t s n at → length value ≡ n → length v ≡ values_size
    → stored q t (selector_of t s) value v ≡ take at v ++ (value ++ drop (at + length value) v)
stored-put q few t s n at value v p e l =
    let r = part-row q few p in
    let w = row_within r.index (place_found q t (selector_of t s) r.index r.place).below in
    let o = r.offset in
    let z = r.size in
    stored_at q t (selector_of t s) value v r.index r.place r.later (e ∙ sym r.size)
    ∙ rw o (put-eq at value v (omega arith))

module _ (c : List ℕ) (s : is_sound c ≡ true) (m : ℕ) (h : is_member c m ≡ true) where
  few-queues : (member_in c m).queues ≤ 4
  few-queues = within-high 1 4 _ (sound-member-in c (sound-of c s) m h).count

  module _ (t k : ℕ) (value : List ℕ) where
    -- what is answered is what the member's own queue count gives
    store_is : store c m t k value ≡ if_done (storable (member_in c m).queues t (selector_of t k) value)
        (Ok tt, with_member c m (with_part (member_in c m) t (selector_of t k) value)) c
    unfolding store store_in unless◌answer◌then◌
    store_is = rw (on-sound c m _ s, h)

    refused-as : (r : EventRefusal) → storable (member_in c m).queues t (selector_of t k) value ≡ Err r
        → step c (card_store m t k value) ≡ (c, answered (event_number (Err r)))
    unfolding step if_done
    refused-as r e = rw (store_is, e)

    module _ (at : ℕ) (p : Part (member_in c m).queues t k (length value) at) (f : t ≡ 0x104
        → Ring (number 0 2 value) (number 4 2 value)) where
      is-storable : storable (member_in c m).queues t (selector_of t k) value ≡ Ok tt
      unfolding unless◌answer◌then◌
      is-storable = right-length _ few-queues t k value (length value) at p refl ∙ rw (allowed-ring t value f)

      after : step c (card_store m t k value) ≡ (with_member c m (with_part (member_in c m) t (selector_of t k) value), answered 0)
      unfolding step if_done
      after = rw (store_is, is-storable)

      is-stored : Stored c (with_member c m (with_part (member_in c m) t (selector_of t k) value)) m at value
      unfolding with_member with_record_bytes
      is-stored =
          let y = sound-member-in c (sound-of c s) m h in
          let x = with_part (member_in c m) t (selector_of t k) value in
          let z = sound-part _ _ _ (member_in c m) y t (selector_of t k) value (allowed-ring t value f) in
          let n = length-take member_size (member_bytes x) in
          record {
            member = member-same c m x (sound-has c (sound-of c s) m h) z.shaped
                ∙ ap (with_values (member_in c m)) (stored-put _ few-queues t k (length value) at value _ p refl y.shaped.long);
            before = take-before (27 + 1266 * (m - 1)) (record_at m + member_bytes_at) (take member_size (member_bytes x)) c
                (omega arith);
            behind = drop-after (27 + 1266 * (m - 1) + 226) (record_at m + member_bytes_at) (take member_size (member_bytes x)) c
                (omega arith);
          }

      store-done : ((step c (card_store m t k value)).1 ≡ answered 0) × Stored c (step c (card_store m t k value)).0 m at value
      store-done = rw after (refl, is-stored)

    no-ring : {at : ℕ} → Part (member_in c m).queues 0x104 k (length value) at → t ≡ 0x104
        → (Ring (number 0 2 value) (number 4 2 value) → ⊥)
        → ◌≡◌ {A = EventAnswer} (unless value_allowed t value answer Err BadQueueSize then Ok tt) (Err BadQueueSize)
    unfolding unless◌answer◌then◌
    no-ring p a f = rw (not-allowed t value a (queue_long p) f)

    pub stores : StoreDone c m t k value
    stores = record {
      done = store-done;
      no_part = λ f. refused-as NoPart (storable-none _ few-queues t k value f);
      other_length = λ n at p f. refused-as WrongLength (other_length _ few-queues t k value n at p f);
      no_ring = λ at p a f.
          refused-as BadQueueSize (right-length _ few-queues t k value (length value) at (rw a p) refl ∙ no-ring p a f);
    }

-- one that does not come to the member
module _ (c : List ℕ) (m t k : ℕ) (value : List ℕ) where
  unsound-store : is_sound c ≡ false → step c (card_store m t k value) ≡ (c, answered 9)
  unfolding step store
  unsound-store e = rw (on-unsound c m _ e)

  no-member-store : is_sound c ≡ true → (1 ≤ m → m ≤ (setup_of c).members → ⊥) → step c (card_store m t k value) ≡ (c, answered 1)
  unfolding step store unless◌answer◌then◌
  no-member-store s n =
      by_cases (is_member c m) (λ h. absurd (n (within_low _ _ m h) (within-high _ _ m h))) (λ h. rw (on-sound c m _ s, h))

pub stores-done : StoresDone
stores-done = record {
  unsound = λ c e m t k value. unsound-store c m t k value e;
  no_member = λ c s m n t k value. no-member-store c m t k value s n;
  member = λ c s m l h t k value. stores c s m (inside 1 _ m l h) t k value;
}

-- What card stores and hand backs do to the masked card of Mask.antt. Assumes nothing.
use mathlib.Core.Path.{◌≡◌, refl, ap, sym, ◌∙◌}
use mathlib.Core.Logic.{◌≢◌}
use mathlib.Core.Bool.{true}
use mathlib.Core.List.{List}
use Prim.Native.Nat.{ℕ, ◌≤◌}
use native.Mathlib.Omega.{arith}
use lib.Dec.{eqb}
use lib.ListN.{length}
use borrow.Author.Tests.{eqb-true, eqb-false}
use Rattle.std.specs.Prelude.{Ok, Err}
use Rattle.theory.proofs.Tests.{by_cases, within_low, within-high}
use Rattle.values.specs.Apply.{storable}
use Rattle.member.specs.Record.{member_size, holding_size, member_bytes}
use Rattle.protocol.specs.Answers.{EventAnswer}
use Rattle.member.specs.Member.{handed_back, with_part}
use Rattle.card.specs.Layout.{member_bytes_at, holding_at, card_size, setup_of, is_member, member_in, with_member, is_marked, with_holding, no_bytes, with_record}
use Rattle.card.specs.Sound.{is_sound}
use Rattle.card.proofs.RecordBytesLaws.{has-record}
use Rattle.card.proofs.HeaderLaws.{features-long}
use Rattle.card.proofs.MemberLaws.{length-with-member, setup-with-member, length-with-holding, setup-with-holding}
use Rattle.card.proofs.RecordLaws.{length-with-record, setup-with-record, record-other, record-over}
use Rattle.card.proofs.MarkLaws.{marked-is, mark-put, mark-behind}
use Rattle.card.proofs.CountLaws.{count-put, count-behind}
use Rattle.events.specs.Events.{if_done, with_handed_back, store_in}
use Rattle.demands.proofs.Mask.{blank_of, blank_in, mask, blank-shape, mask-count, mask-again, mask-mask, swap-member, swap-holding, mask-member, is_whole}

-- ---- card events for another member ----

module _ (m : ℕ) (low : 1 ≤ m) (c : List ℕ) (whole : length c ≡ card_size (setup_of c).members) (k : ℕ) (l : 1 ≤ k) (n : k ≢ m) where
  pub store-answers : (t s : ℕ) (value : List ℕ)
      → ((store_in (mask m c) k t s value).0 ≡ (store_in c k t s value).0)
      × (mask m (store_in (mask m c) k t s value).1 ≡ mask m (store_in c k t s value).1)
  unfolding store_in if_done
  store-answers t s value = rw (record-other c m _ 0 k low l n) (cases (storable (member_in c k).queues t s value))
    where
      -- an event that answers a, on the card c
      After : EventAnswer → List ℕ → EventAnswer × List ℕ
      After a c₁ = if_done a (Ok tt, with_member c₁ k (with_part (member_in c k) t s value)) c₁

      cases : (a : EventAnswer) → ((After a (mask m c)).0 ≡ (After a c).0) × (mask m (After a (mask m c)).1 ≡ mask m (After a c).1)
      cases (Ok x) = (refl, mask-member m low c whole k _ l n)
      cases (Err r) = (refl, mask-mask m low c whole)

  pub back-other : mask m (with_handed_back (mask m c) k) ≡ mask m (with_handed_back c k)
  unfolding with_handed_back
  back-other =
      let x = handed_back (member_in c k) in
      ap (mask m) (rw (record-other c m _ 0 k low l n, swap-member m low c k x l n) (swap-holding m low (with_member c k x) k no_bytes l n))
      ∙ mask-mask m low (with_holding (with_member c k x) k no_bytes)
      (rw (length-with-holding, length-with-member, setup-with-holding, setup-with-member) whole)

-- ---- a hand back of m itself ----

pub back-setup : (m : ℕ) (c : List ℕ) → setup_of (with_handed_back c m) ≡ setup_of c
unfolding with_handed_back
back-setup m c = rw (setup-with-holding, setup-with-member)

pub back-marked : (m : ℕ) (c : List ℕ) → length c ≡ card_size (setup_of c).members → is_member c m ≡ true → is_marked (with_handed_back c m) m ≡ true
unfolding with_handed_back with_holding
back-marked m c whole h =
    let x = handed_back (member_in c m) in
    let r = has-record c m whole (within_low _ _ m h) (within-high _ _ m h) in
    mark-behind (with_member c m x) m holding_at holding_size no_bytes (omega arith) r.low (omega arith) m
    ∙ marked-is (with_member c m x) m (rw setup-with-member h) ∙ mark-put c m x r

pub back-queues : (m : ℕ) (c : List ℕ) → length c ≡ card_size (setup_of c).members → is_member c m ≡ true
    → (member_in (with_handed_back c m) m).queues ≡ (member_in c m).queues
unfolding with_handed_back with_holding
back-queues m c whole h =
    let x = handed_back (member_in c m) in
    let r = has-record c m whole (within_low _ _ m h) (within-high _ _ m h) in
    count-behind (with_member c m x) m holding_at holding_size no_bytes (omega arith) r.low m r.low (omega arith) ∙ count-put c m x r

back-blank : (m : ℕ) (c : List ℕ) → length c ≡ card_size (setup_of c).members → is_member c m ≡ true
    → blank_in m (with_handed_back c m) ≡ blank_of (member_in c m).queues (setup_of c).features true
unfolding blank_in
back-blank m c whole h =
    let e : setup_of (with_handed_back c m) ≡ setup_of c = back-setup m c in rw (e, back-queues m c whole h, back-marked m c whole h)

back-own : (m : ℕ) (c : List ℕ) → length c ≡ card_size (setup_of c).members → is_member c m ≡ true
    → mask m (with_handed_back c m) ≡ with_record c m (blank_of (member_in c m).queues (setup_of c).features true) 0
unfolding with_handed_back with_member with_holding
back-own m c whole h =
    let x = handed_back (member_in c m) in
    let s = blank-shape (member_in c m).queues (setup_of c).features true (features-long c (omega arith)) in
    rw (back-blank m c whole h)
    (record-over _ m _ 0 s holding_at holding_size no_bytes (omega arith) ∙ record-over c m _ 0 s member_bytes_at member_size (member_bytes x) (omega arith))

pub back-answers : (m : ℕ) (low : 1 ≤ m) (c : List ℕ) → is_sound c ≡ true → (k : ℕ) → is_member c k ≡ true
    → mask m (with_handed_back (mask m c) k) ≡ mask m (with_handed_back c k)
back-answers m low c e k h =
    let whole = is_whole m low c e in
    by_cases (eqb k m)
    (λ q.
    let here : is_member c m ≡ true = rw (eqb-true k m q) at h in
    let s = blank-shape (member_in c m).queues (setup_of c).features true (features-long c (omega arith)) in
    rw (eqb-true k m q)
    (back-own m (mask m c) (rw (length-with-record, setup-with-record) whole) (rw setup-with-record here)
    ∙ rw (setup-with-record, mask-count m low c whole) (mask-again m low c whole _ 0 s)
    ∙ sym (back-own m c whole here)))
    (λ q. back-other m low c whole k (within_low _ _ k h) (eqb-false k m q))

-- The mask of isolation blanks the record of member m, but for its mark and its queue count: what it covers, what can be put
-- before or after it, and that the masked card of a sound one is sound. Assumes nothing.
use mathlib.Core.Path.{◌≡◌, refl, ap, sym, ◌∙◌}
use mathlib.Core.Logic.{◌≢◌}
use mathlib.Core.Bool.{Bool, true, false}
use mathlib.Core.List.{List}
use Prim.Native.Nat.{ℕ, ◌+◌, ◌≤◌, ◌<◌}
use native.Mathlib.Omega.{arith}
use lib.Dec.{eqb}
use lib.ListN.{length}
use borrow.Author.Tests.{eqb-true, eqb-false}
use Rattle.theory.specs.Logic.{when◌then◌else◌, within}
use Rattle.theory.proofs.Tests.{by_cases, if-cases, within_low, within-high, outside}
use Rattle.member.specs.declared.Member.{Member}
use Rattle.member.specs.Record.{member_size, holding_size, member_bytes}
use Rattle.member.specs.Member.{features_size, fresh_of, handed_back}
use Rattle.member.proofs.Record.{Shaped, fresh-shaped}
use Rattle.member.proofs.Sound.{SoundMember, sound-fresh, sound-handed-back}
use Rattle.card.specs.Layout.{member_bytes_at, holding_at, record_size, card_size, setup_of, with_in_use, is_member, with_record_bytes, member_in, with_member, counts_of, is_marked, with_holding, record_of, with_record}
use Rattle.card.specs.Sound.{is_sound}
use Rattle.card.proofs.RecordBytesLaws.{has-record, setup-with-bytes}
use Rattle.card.proofs.HeaderLaws.{features-long, length-with-use, setup-with-use}
use Rattle.card.proofs.MemberLaws.{length-with-member, setup-with-member}
use Rattle.card.proofs.RecordLaws.{record-bytes, length-with-record, setup-with-record, use-with-record, record-other, record-swap, record-use, record-none, record-over, record-again, member-with-record}
use Rattle.card.proofs.MarkLaws.{mark-alike, mark-other, mark-with-use, mark-with-record}
use Rattle.card.proofs.CountLaws.{count-other, count-with-use, counts_same}
use Rattle.card.proofs.SoundLaws.{sound-of, is-sound, sound-member-in, sound-with-record}
use Rattle.admin.specs.Command.{ask_in}
use Rattle.demands.proofs.Named.{SameKept, Leaves, unchanged, changed, leaves-whole}

-- what it puts there: a fresh member, handed back where m is marked
unfoldable pub blank_of : ℕ → List ℕ → Bool → Member
blank_of queues f marked = when marked then handed_back (fresh_of queues f) else fresh_of queues f

unfoldable pub blank_in : ℕ → List ℕ → Member
blank_in m c = blank_of (member_in c m).queues (setup_of c).features (is_marked c m)

abbrev pub mask : ℕ → List ℕ → List ℕ
mask m c = with_record c m (blank_in m c) 0

module _ (queues : ℕ) (f : List ℕ) (b : Bool) where
  blank-sound : (gets sets : ℕ) → within 1 4 queues ≡ true → length f ≡ features_size → SoundMember gets sets f (blank_of queues f b)
  unfolding blank_of
  blank-sound gets sets k e =
      let s = sound-fresh gets sets f queues k e in
      if-cases (SoundMember gets sets f) b _ _ (λ t. sound-handed-back gets sets f _ s) (λ t. s)

  pub blank-shape : length f ≡ features_size → Shaped (blank_of queues f b)
  unfolding blank_of fresh_of
  blank-shape e =
      let s = fresh-shaped queues f e in
      if-cases Shaped b _ _ (λ t. record { ids = s.ids; low = s.low; long = s.long }) (λ t. s)

  blank-marked : (blank_of queues f b).marked ≡ b
  unfolding blank_of fresh_of when◌then◌else◌
  blank-marked = by_cases b (λ t. rw t) (λ t. rw t)

  blank-queues : (blank_of queues f b).queues ≡ queues
  unfolding blank_of fresh_of when◌then◌else◌
  blank-queues = by_cases b (λ t. rw t) (λ t. rw t)

-- a card with the same setup that keeps m's mark and count
pub blank-same : (m : ℕ) (c d : List ℕ) → setup_of d ≡ setup_of c → SameKept m c d → blank_in m d ≡ blank_in m c
unfolding blank_in
blank-same m c d e k = rw (e, k.mark, k.count)

-- ---- the mask ----

module _ (m : ℕ) (low : 1 ≤ m) (c : List ℕ) (whole : length c ≡ card_size (setup_of c).members) where
  pub blank-shaped : Shaped (blank_in m c)
  unfolding blank_in
  blank-shaped = blank-shape _ _ (is_marked c m) (features-long c (omega arith))

  -- where there is no member m nothing is masked
  pub mask-none : is_member c m ≡ false → mask m c ≡ c
  mask-none t =
      let h : (setup_of c).members < m = outside 1 (setup_of c).members m t (λ z. absurd (omega arith)) (λ z. z) in
      record-none c m _ 0 whole h

  -- it keeps the mark and the count
  mask-mark : is_marked (mask m c) m ≡ is_marked c m
  unfolding blank_in
  mask-mark = mark-with-record c m (blank_in m c) 0 blank-shaped whole (blank-marked _ _ (is_marked c m))

  pub mask-count : (member_in (mask m c) m).queues ≡ (member_in c m).queues
  unfolding blank_in
  mask-count = by_cases (is_member c m)
      (λ t. ap (λ (y : Member). y.queues) (member-with-record c m _ 0 blank-shaped (has-record c m whole low (within-high _ _ m t)))
      ∙ blank-queues _ _ (is_marked c m))
      (λ t. ap (λ d. (member_in d m).queues) (mask-none t))

  mask-kept : SameKept m c (mask m c)
  mask-kept = record { mark = mask-mark; count = mask-count }

  -- whatever else stands in m's record is masked
  mask-over : (at n : ℕ) (x : List ℕ) → at + n ≤ record_size → SameKept m c (with_record_bytes c m at n x) → mask m (with_record_bytes c m at n x) ≡ mask m c
  mask-over at n x i q = rw (blank-same m c _ (setup-with-bytes c m at n x) q) (record-over c m _ 0 blank-shaped at n x i)

  pub mask-again : (x : Member) (g : ℕ) → Shaped x → with_record (mask m c) m x g ≡ with_record c m x g
  mask-again x g s = record-again c m x g s _ 0

  pub mask-mask : mask m (mask m c) ≡ mask m c
  mask-mask = rw (blank-same m c (mask m c) (setup-with-record c m _ 0) mask-kept) (mask-again _ 0 blank-shaped)

pub mask-leaves : (m : ℕ) → 1 ≤ m → (c : List ℕ) → length c ≡ card_size (setup_of c).members → (d : List ℕ) → Leaves m c d → mask m d ≡ mask m c
mask-leaves m low c whole _ unchanged = refl
mask-leaves m low c whole _ (changed {d} l h at n x i q) = mask-over m low d (leaves-whole m c d l whole) at n x i q ∙ mask-leaves m low c whole d l

-- what is changed elsewhere is changed in the masked card alike
module _ (m : ℕ) (low : 1 ≤ m) (c : List ℕ) where
  pub mask-swap : (k at n : ℕ) (x : List ℕ) → at + n ≤ record_size → 1 ≤ k → k ≢ m
      → with_record_bytes (mask m c) k at n x ≡ mask m (with_record_bytes c k at n x)
  mask-swap k at n x i l e =
      let o : m ≢ k = λ q. e (sym q) in
      let s : SameKept m c (with_record_bytes c k at n x) = record { mark = mark-other c k at n x i l m low o; count = count-other c k at n x i l m low o } in
      record-swap c m _ 0 k at n x low i l e ∙ rw (blank-same m c _ (setup-with-bytes c k at n x) s)

  pub swap-member : (k : ℕ) (x : Member) → 1 ≤ k → k ≢ m → with_member (mask m c) k x ≡ mask m (with_member c k x)
  unfolding with_member
  swap-member k x l e = mask-swap k member_bytes_at member_size (member_bytes x) (omega arith) l e

  pub swap-holding : (k : ℕ) (x : List ℕ) → 1 ≤ k → k ≢ m → with_holding (mask m c) k x ≡ mask m (with_holding c k x)
  unfolding with_holding
  swap-holding k x l e = mask-swap k holding_at holding_size x (omega arith) l e

  module _ (whole : length c ≡ card_size (setup_of c).members) where
    pub mask-member : (k : ℕ) (x : Member) → 1 ≤ k → k ≢ m → mask m (with_member (mask m c) k x) ≡ mask m (with_member c k x)
    mask-member k x l e =
        ap (mask m) (swap-member k x l e) ∙ mask-mask m low (with_member c k x) (rw (length-with-member, setup-with-member) whole)

    pub mask-record : (k : ℕ) (x : Member) (g : ℕ) → 1 ≤ k → k ≢ m → mask m (with_record (mask m c) k x g) ≡ mask m (with_record c k x g)
    mask-record k x g l e =
        ap (mask m) (rw (record-bytes (mask m c) k x g, record-bytes c k x g) (mask-swap k 0 record_size (record_of x g) (omega arith) l e))
        ∙ mask-mask m low (with_record c k x g) (rw (length-with-record, setup-with-record) whole)

    pub mask-use : (u : ℕ) → mask m (with_in_use (mask m c) u) ≡ mask m (with_in_use c u)
    mask-use u =
        let s : SameKept m c (with_in_use c u) = record { mark = mark-with-use c u m; count = count-with-use c u m } in
        ap (mask m) (record-use c m _ 0 u ∙ rw (blank-same m c (with_in_use c u) (setup-with-use c u) s))
        ∙ mask-mask m low (with_in_use c u) (rw (length-with-use, setup-with-use) whole)

-- ---- the masked card of a sound one ----

module _ (m : ℕ) (low : 1 ≤ m) (c : List ℕ) (e : is_sound c ≡ true) where
  pub is_whole : length c ≡ card_size (setup_of c).members
  is_whole = (sound-of c e).long

  pub masked-sound : is_sound (mask m c) ≡ true
  unfolding blank_in
  masked-sound = by_cases (is_member c m)
      (λ t. is-sound _ (sound-with-record c m _ 0 (sound-of c e) low
      (blank-sound _ _ (is_marked c m) _ _ (sound-member-in c (sound-of c e) m t).count (features-long c (omega (arith, is_whole))))))
      (λ t. rw (mask-none m low c is_whole t) e)

  -- every member is marked as it was
  pub masked-mark : (k : ℕ) → is_marked (mask m c) k ≡ is_marked c k
  masked-mark k = by_cases (eqb k m)
      (λ q. rw (eqb-true k m q) (mask-mark m low c is_whole))
      (λ q. mark-alike c _ k (setup-with-record c m _ 0)
      (λ t. ap (λ (x : Member). x.marked) (record-other c m _ 0 k low (within_low _ _ k t) (eqb-false k m q))))

  -- and has as many queues
  pub masked-count : (k : ℕ) → 1 ≤ k → (member_in (mask m c) k).queues ≡ (member_in c k).queues
  masked-count k l = by_cases (eqb k m)
      (λ q. rw (eqb-true k m q) (mask-count m low c is_whole))
      (λ q. ap (λ (x : Member). x.queues) (record-other c m _ 0 k low l (eqb-false k m q)))

  pub masked-counts : counts_of (mask m c) ≡ counts_of c
  masked-counts = counts_same c _ (setup-with-record c m _ 0) (λ k t. masked-count k (within_low _ _ k t))

  -- a request asks the same of it
  pub masked-ask : (r : List ℕ) → ask_in (mask m c) r ≡ ask_in c r
  unfolding ask_in
  masked-ask r = rw (setup-with-record, use-with-record, masked-mark)

-- What code leaves that writes a member, a whole record, or the bytes of a holding place. Each law is in the form in which a
-- need asks it. Assumes nothing.
use mathlib.Core.Path.{◌≡◌, ap, sym, ◌∙◌}
use mathlib.Core.List.{List}
use Prim.Native.Nat.{ℕ, ◌+◌, ◌-◌, ◌≤◌}
use native.Mathlib.Nat.{add-sub_cancel_left, add-zero}
use native.Mathlib.Omega.{arith}
use lib.ListN.{length, replicate, length-replicate}
use borrow.Rule.Slice.PartMut.{mid_of, put_mid}
use Rattle.theory.specs.Bytes.{bytes_at, put}
use Rattle.theory.proofs.Bytes.{length-put, length-bytes_at, put-within}
use lib.Seq.{take_all}
use Rattle.member.specs.declared.Member.{Member}
use Rattle.member.specs.Record.{member_size, holding_size, member_bytes}
use Rattle.member.specs.Member.{fresh_of}
use Rattle.member.proofs.Record.{Shaped}
use Rattle.card.specs.Layout.{member_bytes_at, holding_at, record_at, HasRecord, record_bytes, with_record_bytes, member_in, with_member, with_configuration, no_configuration, holding_in, with_holding, no_bytes, with_record, with_fresh}
use Rattle.card.proofs.RecordBytesLaws.{bytes-lent}
use Rattle.card.proofs.RecordLaws.{record-in-three}

-- the place of a member's bytes was lent and came back as `last`, as long as it was
pub member-saved : (c : List ℕ) (m at : ℕ) (x : Member) (last : List ℕ) → at ≡ record_at m → HasRecord c m → last ≡ member_bytes x
    → length last ≡ length (mid_of at (at + member_size - at) c) → put_mid at (at + member_size - at) c last ≡ with_member c m x
unfolding with_member
member-saved c m at x last e h q n =
    let k : record_at m + member_size - record_at m ≡ member_size = add-sub_cancel_left (record_at m) member_size in
    let l : length (member_bytes x) ≡ member_size = ap length (sym q) ∙ n ∙ rw (e, k) (length-bytes_at (record_at m) member_size c (omega (arith, h.high))) in
    let z : at ≡ record_at m + member_bytes_at = e ∙ sym (add-zero (record_at m)) in
    bytes-lent c m member_bytes_at member_size (member_bytes x) at (at + member_size - at) last z (add-sub_cancel_left at member_size) q l (omega arith) h

-- x was saved, its configuration zeroed with a generation given, and its holding place zeroed
pub record-written : (c d e r : List ℕ) (m : ℕ) (x : Member) (g : ℕ) → Shaped x → d ≡ with_member c m x
    → e ≡ with_configuration d m no_configuration g → r ≡ with_holding e m no_bytes → r ≡ with_record c m x g
record-written c d e r m x g s q o i = i ∙ rw (o, q) (sym (record-in-three c m x g s))

-- member m was loaded, wiped and written
pub member-reset : (c d : List ℕ) (m : ℕ) (x y : Member) (f : List ℕ) (g : ℕ) → x ≡ member_in c m → y ≡ fresh_of x.queues f
    → d ≡ with_record c m y g → d ≡ with_fresh c m f g
member-reset c d m x y f g p q o = o ∙ rw (q, p)

-- ---- the bytes of a holding place, from the place of the record ----

module _ (c : List ℕ) (m p at : ℕ) (d : p ≡ record_at m) (e : at ≡ p + holding_at) where
  place : at ≡ record_at m + holding_at
  place = rw (e, d)

  pub holding-lent : bytes_at at (at + holding_size - at) c ≡ holding_in c m
  unfolding holding_in record_bytes
  holding-lent = rw (add-sub_cancel_left at holding_size, place)

  pub holding-zeroed : (last : List ℕ) → HasRecord c m → last ≡ replicate (length (mid_of at (at + holding_size - at) c)) 0
      → put_mid at (at + holding_size - at) c last ≡ with_holding c m no_bytes
  unfolding with_holding no_bytes
  holding-zeroed last h q =
      let k = add-sub_cancel_left at holding_size in
      let n : length (bytes_at at holding_size c) ≡ holding_size = length-bytes_at at holding_size c (rw place (omega (arith, h.high))) in
      bytes-lent c m holding_at holding_size (replicate holding_size 0) at (at + holding_size - at) last place k (q ∙ rw (k, n))
      (length-replicate {A = ℕ} holding_size 0) (omega arith) h

  -- bytes were written from a place in it on
  pub holding-written : (from : ℕ) (x r : List ℕ) → from + length x ≤ holding_size → HasRecord c m → r ≡ put (at + from) x c
      → r ≡ with_holding c m (put from x (holding_in c m))
  unfolding with_holding holding_in with_record_bytes record_bytes
  holding-written from x r i h q =
      let l = record_at m + holding_at in
      let n = length-bytes_at l holding_size c (omega (arith, h.high)) in
      let w : length (put from x (bytes_at l holding_size c)) ≤ holding_size = rw length-put (omega arith) in
      q ∙ rw (place, take_all holding_size (put from x (bytes_at l holding_size c)) w)
      (sym (put-within l holding_size from x c i (omega (arith, h.high))))

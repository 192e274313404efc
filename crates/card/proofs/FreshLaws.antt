-- The laws of a fresh card: its length, its setup, its list in use and its members. Assumes nothing.
use mathlib.Core.Path.{◌≡◌, refl, ap, ◌∙◌}
use mathlib.Core.List.{List, [], ◌∷◌, ◌++◌, append_assoc}
use Prim.Native.Nat.{ℕ, zero, suc, ◌+◌, ◌*◌, ◌-◌, ◌≤◌, ◌<◌}
use native.Mathlib.Nat.{add-zero}
use native.Mathlib.Omega.{arith}
use lib.ListN.{length, get_or, length-append}
use lib.Seq.{take_at, drop_at, drop-append-add}
use Rattle.theory.specs.Bytes.{bytes_at}
use Rattle.wire.specs.Le.{le, bytes, number}
use Rattle.wire.proofs.Le.{length-bytes, le_bytes}
use Rattle.protocol.specs.Opcodes.{fresh_mask}
use Rattle.member.specs.Record.{member_bytes}
use Rattle.member.specs.Member.{features_size, fresh_of}
use Rattle.member.proofs.Record.{fresh-shaped}
use Rattle.card.specs.declared.Setup.{Setup}
use Rattle.card.specs.Layout.{in_use_at, card_header_size, record_size, card_size, setup_in, setup_of, in_use_of, record_bytes, member_bytes_in, fresh_record, fresh_header, fresh_records, fresh_card}
use Rattle.card.proofs.RecordLaws.{member-front, record-long, record-front}

-- a setup, a list in use and records, one after the other
module _ (h : List ℕ) (mask : ℕ) (q : List ℕ) (e : length h ≡ in_use_at) where
  setup-laid : bytes_at 0 in_use_at (h ++ (bytes 8 mask ++ q)) ≡ h
  setup-laid = take_at h (bytes 8 mask ++ q) in_use_at e

  use-laid : bytes_at in_use_at 8 (h ++ (bytes 8 mask ++ q)) ≡ bytes 8 mask
  use-laid = rw (drop_at h (bytes 8 mask ++ q) in_use_at e) (take_at (bytes 8 mask) q 8 (length-bytes 8 mask))

  records-laid : (j n : ℕ) → bytes_at (card_header_size + j) n (h ++ (bytes 8 mask ++ q)) ≡ bytes_at j n q
  records-laid j n =
      let f = length-bytes 8 mask in
      let k : card_header_size + j ≡ length h + (length (bytes 8 mask) + j) = omega arith in
      rw (k, drop-append-add h (bytes 8 mask ++ q) (length (bytes 8 mask) + j), drop-append-add (bytes 8 mask) q j)

unfoldable numbers_of : Setup → List ℕ
numbers_of s = s.members ∷ s.gets ∷ s.sets ∷ s.features

fresh-laid : (s : Setup) (qs : List ℕ) (g : ℕ) → fresh_card s qs g ≡ numbers_of s ++ (bytes 8 fresh_mask ++ fresh_records s.features g qs)
unfolding fresh_card fresh_header numbers_of
fresh-laid s qs g = append_assoc (numbers_of s) (bytes 8 fresh_mask) (fresh_records s.features g qs)

numbers-long : (s : Setup) → length s.features ≡ features_size → length (numbers_of s) ≡ in_use_at
unfolding numbers_of
numbers-long s e = rw e

-- fresh records, one after the other
module _ (f : List ℕ) (g : ℕ) (e : length f ≡ features_size) where
  pub fresh-record-long : (q : ℕ) → length (fresh_record q f g) ≡ record_size
  fresh-record-long q = record-long _ g (fresh-shaped q f e)

  pub records-long : (qs : List ℕ) → length (fresh_records f g qs) ≡ record_size * length qs
  unfolding fresh_records
  records-long [] = refl
  records-long (q ∷ qs) = rw (length-append, fresh-record-long q, records-long qs) (omega arith)

  records-at : (qs : List ℕ) (i : ℕ) → i < length qs → bytes_at (record_size * i) record_size (fresh_records f g qs) ≡ fresh_record (get_or qs i 0) f g
  unfolding fresh_records
  records-at [] i h = absurd (omega arith)
  records-at (q ∷ qs) zero h = take_at (fresh_record q f g) (fresh_records f g qs) record_size (fresh-record-long q)
  records-at (q ∷ qs) (suc i) h =
      let a : record_size * suc i ≡ length (fresh_record q f g) + record_size * i = omega (arith, fresh-record-long q) in
      rw (a, drop-append-add) (records-at qs i (omega arith))

module _ (s : Setup) (qs : List ℕ) (g : ℕ) (e : length s.features ≡ features_size) where
  pub length-fresh : length (fresh_card s qs g) ≡ card_size (length qs)
  length-fresh =
      let n = length-bytes 8 fresh_mask in
      let f = records-long s.features g e qs in
      rw (fresh-laid s qs g, length-append, length-append) (omega (arith, numbers-long s e))

  pub setup-fresh : setup_of (fresh_card s qs g) ≡ s
  unfolding setup_of setup_in numbers_of
  setup-fresh = rw (fresh-laid s qs g) (ap setup_in (setup-laid (numbers_of s) fresh_mask _ (numbers-long s e)))

  pub use-fresh : in_use_of (fresh_card s qs g) ≡ fresh_mask
  unfolding in_use_of number
  use-fresh = rw (fresh-laid s qs g) (ap le (use-laid (numbers_of s) fresh_mask _ (numbers-long s e)) ∙ le_bytes 8 fresh_mask (omega arith))

  -- the record of member m is with the m-th count
  pub record-fresh : (m : ℕ) → 1 ≤ m → m ≤ length qs → record_bytes (fresh_card s qs g) m 0 record_size ≡ fresh_record (get_or qs (m - 1) 0) s.features g
  unfolding record_bytes
  record-fresh m l h =
      rw (fresh-laid s qs g, add-zero)
      (records-laid (numbers_of s) fresh_mask _ (numbers-long s e) (record_size * (m - 1)) record_size
      ∙ records-at s.features g e qs (m - 1) (omega arith))

  pub member-bytes-fresh : (m : ℕ) → 1 ≤ m → m ≤ length qs → member_bytes_in (fresh_card s qs g) m ≡ member_bytes (fresh_of (get_or qs (m - 1) 0) s.features)
  member-bytes-fresh m l h = member-front (fresh_card s qs g) m _ (record-fresh m l h) ∙ record-front _ g (fresh-shaped _ s.features e)

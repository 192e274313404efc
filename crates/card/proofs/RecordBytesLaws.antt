-- Any bytes of a member's record, read after something was written. The laws of what stands in a record are uses of these
-- at its place. Assumes nothing.
use mathlib.Core.Path.{◌≡◌, ap, sym}
use mathlib.Core.Logic.{◌≢◌}
use mathlib.Core.List.{List, ◌++◌}
use Prim.Native.Nat.{ℕ, ◌+◌, ◌≤◌, ◌<◌}
use native.Mathlib.Omega.{arith}
use lib.Dec.{leb, eqb}
use borrow.Author.Tests.{eqb-true, eqb-false}
use lib.ListN.{length, take, drop}
use lib.Seq.{take-take, take_all, drop-drop}
use borrow.Rule.Slice.PartMut.{put_mid}
use Rattle.theory.proofs.Tests.{by_cases, tests}
use Rattle.theory.proofs.Bytes.{length-put, put-bytes_at, put-over, put-comm, put-out, put-eq, bytes_at-before, bytes_at-after, bytes_at-put-as, length-bytes_at, length-bytes_at-le}
use Rattle.wire.proofs.Le.{number-before}
use Rattle.member.specs.Record.{member_size}
use Rattle.card.specs.Layout.{in_use_at, card_header_size, member_bytes_at, configuration_at, record_size, card_size, setup_in, setup_of, in_use_of, record_at, HasRecord, record_bytes, with_record_bytes, member_bytes_in}

-- bytes that are as many as their place has are not cut
pub uncut : (n : ℕ) (x : List ℕ) → length x ≡ n → take n x ≡ x
uncut n x e = take_all n x (omega arith)

cut : (n : ℕ) (x : List ℕ) → length (take n x) ≤ n
cut n x = length-bytes_at-le 0 n x

-- members 1 to N of a card of the right length
pub has-record : (c : List ℕ) (m : ℕ) → length c ≡ card_size (setup_of c).members → 1 ≤ m → m ≤ (setup_of c).members → HasRecord c m
has-record c m e l h = record { low = l; high = omega arith }

pub head-there : (c : List ℕ) → length c ≡ card_size (setup_of c).members → card_header_size ≤ length c
head-there c e = omega arith

pub has-header : (c : List ℕ) (m : ℕ) → HasRecord c m → card_header_size ≤ length c
has-header c m h = omega (arith, h.high)

pub bytes-long : (c : List ℕ) (m at n : ℕ) → HasRecord c m → at + n ≤ record_size → length (record_bytes c m at n) ≡ n
unfolding record_bytes
bytes-long c m at n h i = length-bytes_at (record_at m + at) n c (omega (arith, h.high))

-- to put what is there changes nothing
pub bytes_back : (c : List ℕ) (m at n : ℕ) → with_record_bytes c m at n (record_bytes c m at n) ≡ c
unfolding with_record_bytes record_bytes
bytes_back c m at n = rw (take-take n n (drop (record_at m + at) c) (omega arith)) (put-bytes_at (record_at m + at) n c)

module _ (c : List ℕ) (m at n : ℕ) (x : List ℕ) where
  pub length-with-bytes : length (with_record_bytes c m at n x) ≡ length c
  unfolding with_record_bytes
  length-with-bytes = length-put (record_at m + at) (take n x) c

  pub setup-with-bytes : setup_of (with_record_bytes c m at n x) ≡ setup_of c
  unfolding with_record_bytes setup_of
  setup-with-bytes = ap setup_in (bytes_at-before 0 in_use_at (record_at m + at) (take n x) c (omega arith))

  pub use-with-bytes : in_use_of (with_record_bytes c m at n x) ≡ in_use_of c
  unfolding with_record_bytes in_use_of
  use-with-bytes = number-before in_use_at 8 (record_at m + at) (take n x) c (omega arith)

  -- what is put there is there
  pub bytes_same : HasRecord c m → at + n ≤ record_size → length x ≡ n → record_bytes (with_record_bytes c m at n x) m at n ≡ x
  unfolding with_record_bytes record_bytes
  bytes_same h i e = rw (uncut n x e) (bytes_at-put-as (record_at m + at) n x c e (omega (arith, h.high)))

  -- and is covered by what is put over it
  pub bytes-over : (p k : ℕ) (y : List ℕ) → p ≤ at → at + n ≤ p + k → length y ≡ k
      → with_record_bytes (with_record_bytes c m at n x) m p k y ≡ with_record_bytes c m p k y
  unfolding with_record_bytes
  bytes-over p k y h i e = let w = cut n x in rw (uncut k y e) (put-over (record_at m + p) (record_at m + at) (take n x) y c (omega arith) (omega arith))

  -- bytes of the same record that lie before, or after
  pub bytes-before : (p k : ℕ) → p + k ≤ at → record_bytes (with_record_bytes c m at n x) m p k ≡ record_bytes c m p k
  unfolding with_record_bytes record_bytes
  bytes-before p k h = bytes_at-before (record_at m + p) k (record_at m + at) (take n x) c (omega arith)

  pub bytes_after : (p k : ℕ) → at + n ≤ p → record_bytes (with_record_bytes c m at n x) m p k ≡ record_bytes c m p k
  unfolding with_record_bytes record_bytes
  bytes_after p k h = let w = cut n x in bytes_at-after (record_at m + p) k (record_at m + at) (take n x) c (omega arith)

  -- bytes of the same record, one after the other, are put in either order
  pub bytes_apart : (p k : ℕ) (y : List ℕ) → at + n ≤ p
      → with_record_bytes (with_record_bytes c m p k y) m at n x ≡ with_record_bytes (with_record_bytes c m at n x) m p k y
  unfolding with_record_bytes
  bytes_apart p k y h = let w = cut n x in put-comm (record_at m + at) (take n x) (record_at m + p) (take k y) c (omega arith)

  -- there is no member m
  pub bytes-none : length c ≡ card_size (setup_of c).members → (setup_of c).members < m → with_record_bytes c m at n x ≡ c
  unfolding with_record_bytes
  bytes-none e h = put-out (record_at m + at) (take n x) c (omega arith)

  module _ (fits : at + n ≤ record_size) (low : 1 ≤ m) where
    -- no other member's record is touched
    pub bytes-other : (k p j : ℕ) → p + j ≤ record_size → 1 ≤ k → k ≢ m → record_bytes (with_record_bytes c m at n x) k p j ≡ record_bytes c k p j
    unfolding with_record_bytes record_bytes
    bytes-other k p j i h e =
        let w = cut n x in
        by_cases (leb k m)
        (λ t. bytes_at-before (record_at k + p) j (record_at m + at) (take n x) c (omega tests))
        (λ t. bytes_at-after (record_at k + p) j (record_at m + at) (take n x) c (omega tests))

    -- bytes of two members' records, in either order
    pub bytes-swap : (k p j : ℕ) (y : List ℕ) → p + j ≤ record_size → 1 ≤ k → k ≢ m
        → with_record_bytes (with_record_bytes c m at n x) k p j y ≡ with_record_bytes (with_record_bytes c k p j y) m at n x
    unfolding with_record_bytes
    bytes-swap k p j y i h e =
        let w = cut n x in
        let v = cut j y in
        by_cases (leb k m)
        (λ t. put-comm (record_at k + p) (take j y) (record_at m + at) (take n x) c (omega tests))
        (λ t. sym (put-comm (record_at m + at) (take n x) (record_at k + p) (take j y) c (omega tests)))

    -- bytes behind a member's touch no member
    pub bytes-behind : configuration_at ≤ at → (k : ℕ) → 1 ≤ k → member_bytes_in (with_record_bytes c m at n x) k ≡ member_bytes_in c k
    bytes-behind b k h = by_cases (eqb k m)
        (λ t. rw (eqb-true k m t) (bytes-before member_bytes_at member_size (omega arith)))
        (λ t. bytes-other k member_bytes_at member_size (omega arith) h (eqb-false k m t))

  -- byte by byte
  pub bytes_eq : HasRecord c m → at + n ≤ record_size → length x ≡ n
      → with_record_bytes c m at n x ≡ take (record_at m + at) c ++ (x ++ drop (record_at m + at + n) c)
  unfolding with_record_bytes
  bytes_eq h i e = rw (uncut n x e) (rw e at (put-eq (record_at m + at) x c (omega (arith, h.high))))

  -- as code leaves it that lends k bytes there and gets x back
  pub bytes-lent : (p k : ℕ) (last : List ℕ) → p ≡ record_at m + at → k ≡ n → last ≡ x → length x ≡ n → at + n ≤ record_size → HasRecord c m
      → put_mid p k c last ≡ with_record_bytes c m at n x
  bytes-lent p k last d j q e i h = rw (d, j, q, drop-drop n (record_at m + at) c) (sym (bytes_eq h i e))

-- The laws of a member's bytes and of its holding place: what is read after something was written. Assumes nothing.
use mathlib.Core.Path.{◌≡◌, ap, ◌∙◌, sym}
use mathlib.Core.Logic.{◌≢◌}
use mathlib.Core.List.{List}
use Prim.Native.Nat.{ℕ, ◌≤◌, ◌+◌, ◌<◌}
use native.Mathlib.Omega.{arith}
use lib.ListN.{length, get_or, take, length-take}
use lib.Seq.{get_or-take}
use Rattle.theory.specs.Bytes.{put}
use Rattle.theory.proofs.Bytes.{bytes_at-put, get_or-bytes_at}
use Rattle.member.specs.declared.Member.{Member}
use Rattle.member.specs.Record.{member_size, holding_size, member_of, member_bytes}
use Rattle.member.proofs.Record.{Shaped, length-member, member_back}
use Rattle.card.specs.Layout.{member_bytes_at, holding_at, setup_of, in_use_of, HasRecord, member_bytes_in, member_in, with_member, holding_in, with_holding, record_at, record_bytes, with_record_bytes}
use Rattle.card.proofs.RecordBytesLaws.{length-with-bytes, setup-with-bytes, use-with-bytes, bytes_same, bytes-over, bytes_after, bytes_apart, bytes-other, bytes-behind}

-- ---- a member ----

module _ (c : List ℕ) (m : ℕ) (x : Member) where
  pub length-with-member : length (with_member c m x) ≡ length c
  unfolding with_member
  length-with-member = length-with-bytes c m member_bytes_at member_size (member_bytes x)

  pub setup-with-member : setup_of (with_member c m x) ≡ setup_of c
  unfolding with_member
  setup-with-member = setup-with-bytes c m member_bytes_at member_size (member_bytes x)

  pub use-with-member : in_use_of (with_member c m x) ≡ in_use_of c
  unfolding with_member
  use-with-member = use-with-bytes c m member_bytes_at member_size (member_bytes x)

  pub member-same : HasRecord c m → Shaped x → member_in (with_member c m x) m ≡ x
  unfolding with_member member_in
  member-same h s = ap member_of (bytes_same c m member_bytes_at member_size (member_bytes x) h (omega arith) (length-member x s)) ∙ member_back x s

  pub member-other : (k : ℕ) → 1 ≤ m → 1 ≤ k → k ≢ m → member_in (with_member c m x) k ≡ member_in c k
  unfolding with_member member_in
  member-other k l h e = ap member_of (bytes-other c m member_bytes_at member_size (member_bytes x) (omega arith) l k member_bytes_at member_size (omega arith) h e)

  -- a byte of it, of any member
  pub member-byte : (i : ℕ) → HasRecord c m → i < member_size → i < length (member_bytes x)
      → get_or (member_bytes_in (with_member c m x) m) i 0 ≡ get_or (member_bytes x) i 0
  unfolding with_member record_bytes with_record_bytes
  member-byte i h j l =
      let a = record_at m + member_bytes_at in
      let y = take member_size (member_bytes x) in
      let n = length-take member_size (member_bytes x) in
      get_or-bytes_at a member_size i (put a y c) j ∙ sym (get_or-bytes_at a (length y) i (put a y c) (omega arith))
      ∙ ap (λ z. get_or z i 0) (bytes_at-put a y c (omega (arith, h.high)))
      ∙ get_or-take member_size (member_bytes x) i 0 j

  -- the member that is put last stands
  pub member-over : (y : Member) → Shaped y → with_member (with_member c m x) m y ≡ with_member c m y
  unfolding with_member
  member-over y s = bytes-over c m member_bytes_at member_size (member_bytes x) member_bytes_at member_size (member_bytes y) (omega arith) (omega arith) (length-member y s)

-- ---- the bytes of a holding place ----

pub holding-with-member : (c : List ℕ) (m : ℕ) (x : Member) → holding_in (with_member c m x) m ≡ holding_in c m
unfolding with_member holding_in
holding-with-member c m x = bytes_after c m member_bytes_at member_size (member_bytes x) holding_at holding_size (omega arith)

module _ (c : List ℕ) (m : ℕ) (x : List ℕ) where
  pub length-with-holding : length (with_holding c m x) ≡ length c
  unfolding with_holding
  length-with-holding = length-with-bytes c m holding_at holding_size x

  pub setup-with-holding : setup_of (with_holding c m x) ≡ setup_of c
  unfolding with_holding
  setup-with-holding = setup-with-bytes c m holding_at holding_size x

  pub use-with-holding : in_use_of (with_holding c m x) ≡ in_use_of c
  unfolding with_holding
  use-with-holding = use-with-bytes c m holding_at holding_size x

  -- no member is touched
  pub bytes-with-holding : (k : ℕ) → 1 ≤ m → 1 ≤ k → member_bytes_in (with_holding c m x) k ≡ member_bytes_in c k
  unfolding with_holding
  bytes-with-holding k l h = bytes-behind c m holding_at holding_size x (omega arith) l (omega arith) k h

  pub member-with-holding : (k : ℕ) → 1 ≤ m → 1 ≤ k → member_in (with_holding c m x) k ≡ member_in c k
  unfolding member_in
  member-with-holding k l h = ap member_of (bytes-with-holding k l h)

  pub holding-same : HasRecord c m → length x ≡ holding_size → holding_in (with_holding c m x) m ≡ x
  unfolding with_holding holding_in
  holding-same h e = bytes_same c m holding_at holding_size x h (omega arith) e

  pub holding-over : (y : List ℕ) → length y ≡ holding_size → with_holding (with_holding c m x) m y ≡ with_holding c m y
  unfolding with_holding
  holding-over y e = bytes-over c m holding_at holding_size x holding_at holding_size y (omega arith) (omega arith) e

  -- a member is put before or after
  pub holding-swap : (y : Member) → with_member (with_holding c m x) m y ≡ with_holding (with_member c m y) m x
  unfolding with_holding with_member
  holding-swap y = bytes_apart c m member_bytes_at member_size (member_bytes y) holding_at holding_size x (omega arith)

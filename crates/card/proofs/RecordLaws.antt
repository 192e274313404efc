-- The laws of a whole record: its length, and what is read after one was written. Assumes nothing.
use mathlib.Core.Path.{◌≡◌, refl, ap, ◌∙◌}
use mathlib.Core.Logic.{◌≢◌}
use mathlib.Core.List.{List, ◌++◌, append_assoc}
use Prim.Native.Nat.{ℕ, ◌+◌, ◌≤◌, ◌<◌}
use native.Mathlib.Nat.{add-zero}
use native.Mathlib.Omega.{arith}
use lib.ListN.{length, take, drop, length-append, length-replicate}
use lib.Seq.{take_at}
use Rattle.theory.specs.Bytes.{bytes_at, put}
use Rattle.theory.proofs.Bytes.{put-append, bytes_at-bytes_at}
use Rattle.wire.specs.Le.{bytes}
use Rattle.wire.proofs.Le.{length-bytes}
use Rattle.member.specs.declared.Member.{Member}
use Rattle.member.specs.Record.{member_size, holding_size, member_of, member_bytes}
use Rattle.member.proofs.Record.{Shaped, length-member, member_back}
use Rattle.card.specs.Layout.{member_bytes_at, configuration_at, configuration_size, generation_size, holding_at, record_size, card_size, setup_of, in_use_of, with_in_use, record_at, HasRecord, record_bytes, with_record_bytes, member_bytes_in, member_in, with_member, with_configuration, no_configuration, with_holding, no_bytes, record_of, with_record}
use Rattle.card.proofs.RecordBytesLaws.{uncut, length-with-bytes, setup-with-bytes, use-with-bytes, bytes_same, bytes-over, bytes-none, bytes-other, bytes-swap, bytes_eq}
use Rattle.card.proofs.HeaderLaws.{use-swap}

pub no-bytes-long : length no_bytes ≡ holding_size
unfolding no_bytes
no-bytes-long = length-replicate {A = ℕ} holding_size 0

pub no-configuration-long : length no_configuration ≡ configuration_size
unfolding no_configuration
no-configuration-long = length-replicate {A = ℕ} configuration_size 0

module _ (x : Member) (g : ℕ) (s : Shaped x) where
  pub record-long : length (record_of x g) ≡ record_size
  unfolding record_of
  record-long =
      let n = length-member x s in
      let b = length-bytes generation_size g in
      rw (length-append, length-append, length-append) (omega (arith, no-configuration-long, no-bytes-long))

  -- its front is the member's
  pub record-front : bytes_at member_bytes_at member_size (record_of x g) ≡ member_bytes x
  unfolding record_of
  record-front = take_at (member_bytes x) _ member_size (length-member x s)

-- the member's bytes are the front of its record
pub member-front : (c : List ℕ) (m : ℕ) (r : List ℕ) → record_bytes c m 0 record_size ≡ r → member_bytes_in c m ≡ bytes_at member_bytes_at member_size r
unfolding record_bytes
member-front c m r e =
    let k : record_at m + 0 + member_bytes_at ≡ record_at m + member_bytes_at = omega arith in
    rw (← e, bytes_at-bytes_at member_bytes_at member_size (record_at m + 0) record_size c (omega arith), k)

module _ (c : List ℕ) (m : ℕ) (y : Member) (g : ℕ) where
  pub record-bytes : with_record c m y g ≡ with_record_bytes c m 0 record_size (record_of y g)
  unfolding with_record
  record-bytes = refl

  pub length-with-record : length (with_record c m y g) ≡ length c
  unfolding with_record
  length-with-record = length-with-bytes c m 0 record_size (record_of y g)

  pub setup-with-record : setup_of (with_record c m y g) ≡ setup_of c
  unfolding with_record
  setup-with-record = setup-with-bytes c m 0 record_size (record_of y g)

  pub use-with-record : in_use_of (with_record c m y g) ≡ in_use_of c
  unfolding with_record
  use-with-record = use-with-bytes c m 0 record_size (record_of y g)

  -- another record is as it was, and so is another member
  pub record_apart : (k at n : ℕ) → at + n ≤ record_size → 1 ≤ m → 1 ≤ k → k ≢ m → record_bytes (with_record c m y g) k at n ≡ record_bytes c k at n
  unfolding with_record
  record_apart k at n i l h e = bytes-other c m 0 record_size (record_of y g) (omega arith) l k at n i h e

  pub record-other : (k : ℕ) → 1 ≤ m → 1 ≤ k → k ≢ m → member_in (with_record c m y g) k ≡ member_in c k
  unfolding member_in
  record-other k l h n = ap member_of (record_apart k member_bytes_at member_size (omega arith) l h n)

  -- bytes of another record, and the list in use, are put in either order
  pub record-swap : (k at n : ℕ) (x : List ℕ) → 1 ≤ m → at + n ≤ record_size → 1 ≤ k → k ≢ m
      → with_record_bytes (with_record c m y g) k at n x ≡ with_record (with_record_bytes c k at n x) m y g
  unfolding with_record
  record-swap k at n x l i h e = bytes-swap c m 0 record_size (record_of y g) (omega arith) l k at n x i h e

  pub record-use : (mask : ℕ) → with_in_use (with_record c m y g) mask ≡ with_record (with_in_use c mask) m y g
  unfolding with_record
  record-use mask = use-swap c mask m 0 record_size (record_of y g)

  pub record-none : length c ≡ card_size (setup_of c).members → (setup_of c).members < m → with_record c m y g ≡ c
  unfolding with_record
  record-none e h = bytes-none c m 0 record_size (record_of y g) e h

  module _ (s : Shaped y) where
    -- whatever was put in the record is covered
    pub record-over : (at n : ℕ) (x : List ℕ) → at + n ≤ record_size → with_record (with_record_bytes c m at n x) m y g ≡ with_record c m y g
    unfolding with_record
    record-over at n x i = bytes-over c m at n x 0 record_size (record_of y g) (omega arith) (omega arith) (record-long y g s)

    pub record-again : (z : Member) (k : ℕ) → with_record (with_record c m z k) m y g ≡ with_record c m y g
    unfolding with_record
    record-again z k = record-over 0 record_size (record_of z k) (omega arith)

    -- byte by byte
    pub record-eq : HasRecord c m → with_record c m y g ≡ take (record_at m) c ++ (record_of y g ++ drop (record_at m + record_size) c)
    unfolding with_record
    record-eq h = rw add-zero at (bytes_eq c m 0 record_size (record_of y g) h (omega arith) (record-long y g s))

    -- as code leaves it that stores the record from its place on
    pub record-put : put (record_at m) (record_of y g) c ≡ with_record c m y g
    unfolding with_record with_record_bytes
    record-put = rw (uncut record_size (record_of y g) (record-long y g s), add-zero)

    -- the member is there
    pub member-bytes-with-record : HasRecord c m → member_bytes_in (with_record c m y g) m ≡ member_bytes y
    unfolding with_record
    member-bytes-with-record h =
        member-front _ m _ (bytes_same c m 0 record_size (record_of y g) h (omega arith) (record-long y g s)) ∙ record-front y g s

    pub member-with-record : HasRecord c m → member_in (with_record c m y g) m ≡ y
    unfolding member_in
    member-with-record h = ap member_of (member-bytes-with-record h) ∙ member_back y s

-- as code leaves it that saves the member, and makes the rest of its record zero
pub record-in-three : (c : List ℕ) (m : ℕ) (z : Member) (g : ℕ) → Shaped z
    → with_record c m z g ≡ with_holding (with_configuration (with_member c m z) m no_configuration g) m no_bytes
unfolding with_record with_member with_configuration with_holding with_record_bytes record_of
record-in-three c m z g s =
    let x = member_bytes z in
    let y = no_configuration ++ bytes generation_size g in
    let n : length x ≡ member_size = length-member z s in
    let b = length-bytes generation_size g in
    let k : length y ≡ configuration_size + generation_size = rw length-append (omega (arith, no-configuration-long)) in
    let r : length (x ++ (y ++ no_bytes)) ≡ record_size = rw (length-append, length-append, n, k, no-bytes-long) (omega arith) in
    let at : record_at m + 0 + length x ≡ record_at m + configuration_at = rw n (omega arith) in
    let on : record_at m + configuration_at + length y ≡ record_at m + holding_at = rw k (omega arith) in
    rw (
      ← append_assoc no_configuration (bytes generation_size g) no_bytes,
      uncut record_size _ r,
      uncut member_size x n,
      uncut (configuration_size + generation_size) y k,
      uncut holding_size no_bytes no-bytes-long,
      put-append (record_at m + 0) x (y ++ no_bytes) c,
      at,
      put-append (record_at m + configuration_at) y no_bytes (put (record_at m + 0) x c),
      on,
    )

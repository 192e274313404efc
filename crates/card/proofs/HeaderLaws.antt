-- The laws of a card's header: the list in use and the setup, read after something was written, and as code reads them.
-- Assumes nothing.
use mathlib.Core.Path.{◌≡◌, ap, sym, ◌∙◌}
use mathlib.Core.List.{List}
use Prim.Native.Nat.{ℕ, ◌+◌, ◌^◌, ◌≤◌, ◌<◌}
use native.Mathlib.Nat.{zero-add}
use native.Mathlib.Omega.{arith}
use lib.ListN.{length, get_or, take, drop}
use lib.Seq.{take-add, drop_at, length-take-le, get_or-take}
use Rattle.theory.specs.Bytes.{bytes_at}
use Rattle.theory.proofs.Bytes.{length-put, put-comm, bytes_at-before, bytes_at-after, length-bytes_at, bytes_at-bytes_at}
use Rattle.wire.specs.Le.{le, bytes, number}
use Rattle.wire.proofs.Le.{length-bytes, number_put}
use Rattle.member.specs.Member.{features_size}
use Rattle.card.specs.Layout.{features_at, in_use_at, card_header_size, setup_in, setup_of, in_use_of, with_in_use, record_at, record_bytes, with_record_bytes}

-- ---- the list in use ----

module _ (c : List ℕ) (mask : ℕ) where
  pub length-with-use : length (with_in_use c mask) ≡ length c
  unfolding with_in_use
  length-with-use = length-put in_use_at (bytes 8 mask) c

  pub setup-with-use : setup_of (with_in_use c mask) ≡ setup_of c
  unfolding with_in_use setup_of
  setup-with-use = ap setup_in (bytes_at-before 0 in_use_at in_use_at (bytes 8 mask) c (omega arith))

  pub bytes-with-use : (m at n : ℕ) → record_bytes (with_in_use c mask) m at n ≡ record_bytes c m at n
  unfolding with_in_use record_bytes
  bytes-with-use m at n =
      let l = length-bytes 8 mask in
      bytes_at-after (record_at m + at) n in_use_at (bytes 8 mask) c (omega arith)

  pub use-same : card_header_size ≤ length c → mask < 256 ^ 8 → in_use_of (with_in_use c mask) ≡ mask
  unfolding with_in_use in_use_of
  use-same h l = number_put in_use_at 8 mask c h l

  pub use-swap : (m at n : ℕ) (x : List ℕ) → with_in_use (with_record_bytes c m at n x) mask ≡ with_record_bytes (with_in_use c mask) m at n x
  unfolding with_in_use with_record_bytes
  use-swap m at n x =
      let l = length-bytes 8 mask in
      put-comm in_use_at (bytes 8 mask) (record_at m + at) (take n x) c (omega arith)

-- ---- the setup ----

-- as code reads it
module _ (c : List ℕ) where
  number_read : (i : ℕ) → i < in_use_at → get_or c i 0 ≡ get_or (take in_use_at c) i 0
  number_read i h = sym (get_or-take in_use_at c i 0 h)

  pub members-read : get_or c 0 0 ≡ (setup_of c).members
  unfolding setup_of setup_in
  members-read = number_read 0 (omega arith)

  pub gets-read : get_or c 1 0 ≡ (setup_of c).gets
  unfolding setup_of setup_in
  gets-read = number_read 1 (omega arith)

  pub sets-read : get_or c 2 0 ≡ (setup_of c).sets
  unfolding setup_of setup_in
  sets-read = number_read 2 (omega arith)

  pub features-read : in_use_at ≤ length c → bytes_at features_at features_size c ≡ (setup_of c).features
  unfolding setup_of setup_in
  features-read h =
      sym (ap (drop features_at) (take-add features_at features_size c)
      ∙ drop_at (take features_at c) (bytes_at features_at features_size c) features_at (length-take-le features_at c (omega arith)))

  pub setup-read : in_use_at ≤ length c
      → record { members = get_or c 0 0; gets = get_or c 1 0; sets = get_or c 2 0; features = bytes_at features_at features_size c } ≡ setup_of c
  setup-read h = rw (members-read, gets-read, sets-read, features-read h)

pub features-long : (c : List ℕ) → in_use_at ≤ length c → length (setup_of c).features ≡ features_size
features-long c h = rw (← features-read c h) (length-bytes_at features_at features_size c h)

-- the same bytes before a record hold the same setup and the same list in use
module _ (c d : List ℕ) (m : ℕ) (e : take (record_at m) c ≡ take (record_at m) d) where
  same-front : (at n : ℕ) → at + n ≤ card_header_size → bytes_at at n c ≡ bytes_at at n d
  same-front at n h =
      let p : (l : List ℕ) → bytes_at at n (take (record_at m) l) ≡ bytes_at at n l = λ l. rw zero-add at (bytes_at-bytes_at at n 0 (record_at m) l (omega arith)) in
      sym (p c) ∙ ap (bytes_at at n) e ∙ p d

  pub same-setup : setup_of c ≡ setup_of d
  unfolding setup_of
  same-setup = ap setup_in (same-front 0 in_use_at (omega arith))

  pub same-use : in_use_of c ≡ in_use_of d
  unfolding in_use_of number
  same-use = ap le (same-front in_use_at 8 (omega arith))

-- The laws of a member's configuration and generation: what is read after something was written. Assumes nothing.
use mathlib.Core.Path.{◌≡◌, ap, sym, ◌∙◌}
use mathlib.Core.Logic.{◌≢◌}
use mathlib.Core.List.{List, ◌++◌}
use Prim.Native.Nat.{ℕ, ◌+◌, ◌-◌, ◌^◌, ◌≤◌, ◌<◌}
use native.Mathlib.Nat.{add-sub_cancel_left}
use native.Mathlib.Omega.{arith}
use lib.ListN.{length, take, drop, replicate, length-append, length-replicate}
use lib.Seq.{take_all, take-take, take_at, drop_at}
use Rattle.theory.specs.Bytes.{bytes_at, put}
use Rattle.theory.proofs.Bytes.{length-put, put_all, put-append, put-within, length-bytes_at, bytes_at-bytes_at}
use Rattle.wire.specs.Le.{le, bytes, number}
use Rattle.wire.proofs.Le.{length-bytes, le_bytes}
use Rattle.member.specs.Record.{holding_size, member_of}
use Rattle.card.specs.Layout.{configuration_at, configuration_size, generation_at, generation_size, holding_at, record_size, setup_of, in_use_of, record_at, HasRecord, record_bytes, with_record_bytes, member_bytes_in, member_in, configuration_in, generation_in, with_configuration, no_configuration, holding_in}
use Rattle.card.proofs.RecordBytesLaws.{length-with-bytes, setup-with-bytes, use-with-bytes, bytes_same, bytes_after, bytes-behind, bytes-other, bytes-long}

-- the two together
abbrev both_size : ℕ
both_size = configuration_size + generation_size

both_long : (x : List ℕ) (g : ℕ) → length x ≡ configuration_size → length (x ++ bytes generation_size g) ≡ both_size
both_long x g e = rw (length-append, e, length-bytes generation_size g)

module _ (c : List ℕ) (m : ℕ) (x : List ℕ) (g : ℕ) where
  pub length-with-configuration : length (with_configuration c m x g) ≡ length c
  unfolding with_configuration
  length-with-configuration = length-with-bytes c m configuration_at both_size _

  pub setup-with-configuration : setup_of (with_configuration c m x g) ≡ setup_of c
  unfolding with_configuration
  setup-with-configuration = setup-with-bytes c m configuration_at both_size _

  pub use-with-configuration : in_use_of (with_configuration c m x g) ≡ in_use_of c
  unfolding with_configuration
  use-with-configuration = use-with-bytes c m configuration_at both_size _

  -- no member is touched, and no holding place
  pub bytes-with-configuration : (k : ℕ) → 1 ≤ m → 1 ≤ k → member_bytes_in (with_configuration c m x g) k ≡ member_bytes_in c k
  unfolding with_configuration
  bytes-with-configuration k l h = bytes-behind c m configuration_at both_size _ (omega arith) l (omega arith) k h

  pub member-with-configuration : (k : ℕ) → 1 ≤ m → 1 ≤ k → member_in (with_configuration c m x g) k ≡ member_in c k
  unfolding member_in
  member-with-configuration k l h = ap member_of (bytes-with-configuration k l h)

  pub holding-with-configuration : holding_in (with_configuration c m x g) m ≡ holding_in c m
  unfolding with_configuration holding_in
  holding-with-configuration = bytes_after c m configuration_at both_size _ holding_at holding_size (omega arith)

  -- both are there
  module _ (h : HasRecord c m) (e : length x ≡ configuration_size) where
    both-there : record_bytes (with_configuration c m x g) m configuration_at both_size ≡ x ++ bytes generation_size g
    unfolding with_configuration
    both-there = bytes_same c m configuration_at both_size _ h (omega arith) (both_long x g e)

    pub configuration-same : configuration_in (with_configuration c m x g) m ≡ x
    unfolding configuration_in record_bytes
    configuration-same =
        sym (take-take configuration_size both_size (drop (record_at m + configuration_at) (with_configuration c m x g)) (omega arith))
        ∙ ap (take configuration_size) both-there ∙ take_at x (bytes generation_size g) configuration_size e

    pub generation-same : g < 256 ^ 4 → generation_in (with_configuration c m x g) m ≡ g
    unfolding generation_in record_bytes
    generation-same l =
        let k : record_at m + configuration_at + configuration_size ≡ record_at m + generation_at = omega arith in
        let w = bytes_at-bytes_at configuration_size generation_size (record_at m + configuration_at) both_size (with_configuration c m x g) (omega arith) in
        ap le (sym (rw k at w) ∙ ap (bytes_at configuration_size generation_size) both-there
        ∙ rw (drop_at x (bytes generation_size g) configuration_size e) (take_all generation_size (bytes generation_size g) (omega (arith, length-bytes generation_size g))))
        ∙ le_bytes generation_size g l

  -- any bytes of another record
  pub configuration-apart : (k at n : ℕ) → at + n ≤ record_size → 1 ≤ m → 1 ≤ k → k ≢ m → record_bytes (with_configuration c m x g) k at n ≡ record_bytes c k at n
  unfolding with_configuration
  configuration-apart k at n i l h e = bytes-other c m configuration_at both_size _ (omega arith) l k at n i h e

-- ---- as code reads and writes them, from the place of the record ----

module _ (c : List ℕ) (m : ℕ) where
  pub configuration-long : HasRecord c m → length (configuration_in c m) ≡ configuration_size
  unfolding configuration_in
  configuration-long h = bytes-long c m configuration_at configuration_size h (omega arith)

  module _ (p : ℕ) (d : p ≡ record_at m) where
    pub generation-read : (r : ℕ) → r ≡ number (p + generation_at) generation_size c → r ≡ generation_in c m
    unfolding generation_in record_bytes number
    generation-read r q = q ∙ rw d

    module _ (at : ℕ) (e : at ≡ p + configuration_at) where
      place : at ≡ record_at m + configuration_at
      place = rw (e, d)

      pub configuration-lent : bytes_at at (at + configuration_size - at) c ≡ configuration_in c m
      unfolding configuration_in record_bytes
      configuration-lent = rw (add-sub_cancel_left at configuration_size, place)

      -- bytes were written from a place in it on, and then the generation
      pub configuration-written : (from : ℕ) (x q r : List ℕ) (g : ℕ) → from + length x ≤ configuration_size → HasRecord c m → q ≡ put (at + from) x c
          → r ≡ put (at + configuration_size) (bytes generation_size g) q → r ≡ with_configuration c m (put from x (configuration_in c m)) g
      unfolding with_configuration configuration_in with_record_bytes record_bytes
      configuration-written from x q r g i h a b =
          let l = record_at m + configuration_at in
          let y = put from x (bytes_at l configuration_size c) in
          let n : length y ≡ configuration_size = rw length-put (length-bytes_at l configuration_size c (omega (arith, h.high))) in
          let k : l + length y ≡ l + configuration_size = ap (l +◌) n in
          b ∙ rw (
            a,
            place,
            take_all both_size (y ++ bytes generation_size g) (omega (arith, both_long y g n)),
            put-append l y (bytes generation_size g) c,
            k,
            put-within l configuration_size from x c i (omega (arith, h.high)),
          )

-- zeros were written over all of it
pub configuration-zeroed : (c d : List ℕ) (m g : ℕ) → HasRecord c m
    → d ≡ with_configuration c m (put 0 (replicate configuration_size 0) (configuration_in c m)) g → d ≡ with_configuration c m no_configuration g
unfolding no_configuration
configuration-zeroed c d m g h q =
    q ∙ rw (put_all (replicate configuration_size 0) (configuration_in c m) (length-replicate {A = ℕ} configuration_size 0 ∙ sym (configuration-long c m h)))

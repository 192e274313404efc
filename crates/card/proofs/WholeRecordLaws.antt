-- What is read of a record that was written whole: a member, zeros and a generation. Assumes nothing.
use mathlib.Core.Path.{◌≡◌, ap, ◌∙◌}
use mathlib.Core.List.{List}
use Prim.Native.Nat.{ℕ, ◌+◌, ◌^◌, ◌≤◌, ◌<◌}
use native.Mathlib.Omega.{arith}
use lib.ListN.{length}
use lib.Seq.{take_at, take_all, drop_at, drop-append-add}
use Rattle.theory.specs.Bytes.{bytes_at}
use Rattle.theory.proofs.Bytes.{bytes_at-bytes_at}
use Rattle.wire.specs.Le.{le, bytes}
use Rattle.wire.proofs.Le.{length-bytes, le_bytes}
use Rattle.member.specs.declared.Member.{Member}
use Rattle.member.specs.Record.{holding_size, member_of, member_bytes}
use Rattle.member.proofs.Record.{Shaped, length-member, member_back}
use Rattle.card.specs.Layout.{configuration_at, configuration_size, generation_at, generation_size, holding_at, record_size, record_at, HasRecord, record_bytes, member_in, configuration_in, generation_in, no_configuration, holding_in, no_bytes, record_of, with_record}
use Rattle.card.proofs.RecordBytesLaws.{bytes_same}
use Rattle.card.proofs.RecordLaws.{no-bytes-long, no-configuration-long, record-long, record-front, member-front}

-- bytes of a record are bytes of the whole
part_of : (c : List ℕ) (m at n : ℕ) (r : List ℕ) → at + n ≤ record_size → record_bytes c m 0 record_size ≡ r
    → record_bytes c m at n ≡ bytes_at at n r
unfolding record_bytes
part_of c m at n r h e =
    let k : record_at m + 0 + at ≡ record_at m + at = omega arith in
    rw (← e, bytes_at-bytes_at at n (record_at m + 0) record_size c h, k)

module _ (c : List ℕ) (m : ℕ) (x : Member) (g : ℕ) (s : Shaped x) (e : record_bytes c m 0 record_size ≡ record_of x g) where
  pub whole-member : member_in c m ≡ x
  unfolding member_in
  whole-member = ap member_of (member-front c m _ e ∙ record-front x g s) ∙ member_back x s

  pub whole-configuration : configuration_in c m ≡ no_configuration
  unfolding configuration_in record_of
  whole-configuration =
      part_of c m configuration_at configuration_size _ (omega arith) e
      ∙ rw (drop_at (member_bytes x) _ configuration_at (length-member x s))
      (take_at no_configuration _ configuration_size no-configuration-long)

  pub whole-generation : g < 256 ^ 4 → generation_in c m ≡ g
  unfolding generation_in record_of
  whole-generation h =
      let k : generation_at ≡ length (member_bytes x) + configuration_size = omega (arith, length-member x s) in
      ap le (part_of c m generation_at generation_size _ (omega arith) e
      ∙ rw (k, drop-append-add (member_bytes x), drop_at no_configuration _ configuration_size no-configuration-long)
      (take_at (bytes generation_size g) no_bytes generation_size (length-bytes generation_size g)))
      ∙ le_bytes generation_size g h

  pub whole-holding : holding_in c m ≡ no_bytes
  unfolding holding_in record_of
  whole-holding =
      let k : holding_at ≡ length (member_bytes x) + (length no_configuration + generation_size) = omega (
        arith,
        length-member x s,
        no-configuration-long,
      ) in
      part_of c m holding_at holding_size _ (omega arith) e
      ∙ rw (
        k,
        drop-append-add (member_bytes x),
        drop-append-add no_configuration,
        drop_at (bytes generation_size g) no_bytes generation_size (length-bytes generation_size g),
      )
      (take_all holding_size no_bytes (omega (arith, no-bytes-long)))

pub record-written : (c : List ℕ) (m : ℕ) (x : Member) (g : ℕ) → Shaped x → HasRecord c m
    → record_bytes (with_record c m x g) m 0 record_size ≡ record_of x g
unfolding with_record
record-written c m x g s h = bytes_same c m 0 record_size (record_of x g) h (omega arith) (record-long x g s)

-- DEMAND 2: the reserved bytes of a request are ignored, since none of them is read. Assumes nothing.
use mathlib.Core.Path.{◌≡◌, ap, sym, ◌∙◌}
use mathlib.Core.Bool.{false}
use mathlib.Core.List.{List}
use Prim.Native.Nat.{ℕ}
use native.Mathlib.Omega.{arith}
use lib.Dec.{leb}
use lib.ListN.{length, get_or}
use Rattle.theory.specs.Logic.{◌and◌, ◌or◌, within}
use Rattle.theory.specs.Bytes.{put}
use Rattle.theory.proofs.Tests.{by_cases, outside}
use Rattle.theory.proofs.Bytes.{length-put, bytes_at-after}
use Rattle.wire.specs.Le.{le, number}
use Rattle.wire.proofs.Le.{number-byte, number-before}
use Rattle.frame.specs.Frame.{opcode_of}
use Rattle.admin.specs.Command.{respond}
use Rattle.demands.specs.Reserved.{is_reserved, ReservedIgnored}
use Rattle.demands.specs.Unread.{is_unread}
use Rattle.demands.proofs.Unread.{unread-ignored}

-- a byte that is read is not reserved
read-unreserved : (op i : ℕ) → is_unread op i ≡ false → is_reserved op i ≡ false
unfolding is_unread is_reserved ◌or◌
read-unreserved op i e =
    by_cases (within 4 15 i) (λ t. absurd (let z = rw t at e in cc)) λ t.
    by_cases (leb op 0x01 and within 16 23 i) (λ u. absurd (let z = rw (t, u) at e in cc)) λ u. rw t (rw (t, u) at e)

pub reserved-ignored : ReservedIgnored
reserved-ignored c r s room n f = unread-ignored c r s room n (λ i e. f i (read-unreserved (opcode_of r) i e))

-- ---- the hypotheses can be met: any bytes in the reserved field of the frame ----

module _ (r x : List ℕ) (n : length x ≡ 12) where
  outside-frame : (op i : ℕ) → is_reserved op i ≡ false → within 4 15 i ≡ false
  unfolding is_reserved ◌or◌
  outside-frame op i e = by_cases (within 4 15 i) (λ t. t ∙ rw t at e) (λ t. t)

  other-bytes : (op i : ℕ) → is_reserved op i ≡ false → get_or (put 4 x r) i 0 ≡ get_or r i 0
  unfolding number
  other-bytes op i e =
      sym (number-byte i (put 4 x r))
      ∙ outside 4 15 i (outside-frame op i e) (λ h. number-before i 1 4 x r (omega arith)) (λ h. ap le (bytes_at-after i 1 4 x r (omega arith)))
      ∙ number-byte i r

  frame-ignored : (c : List ℕ) (room : ℕ) → respond c (put 4 x r) room ≡ respond c r room
  frame-ignored c room = reserved-ignored c r (put 4 x r) room (length-put 4 x r) (other-bytes (opcode_of r))

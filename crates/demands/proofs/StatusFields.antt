-- Step 7 of the status table: at each opcode the tests of the fields, one by one, are the decoder's test of all. Assumes
-- nothing.
use mathlib.Core.Path.{◌≡◌}
use mathlib.Core.Bool.{true, false, not}
use mathlib.Core.List.{List}
use Prim.Native.Nat.{ℕ}
use lib.Dec.{leb}
use lib.ListN.{length, get_or}
use Rattle.theory.specs.Logic.{◌and◌, within}
use Rattle.theory.proofs.Tests.{true-and, and-true, false-and, and-false, true-or, false-or, or-false, not-and}
use Rattle.wire.specs.Le.{le}
use Rattle.protocol.specs.Opcodes.{supported_only}
use Rattle.frame.specs.Fields.{object_valid, flags_valid, kind_valid}
use Rattle.demands.specs.Statuses.{names_object, has_flags, has_kind, type_byte, bad_field}

-- at an opcode that is a numeral the tests of other commands go
unfoldable fields : Unit {0}
unfolding bad_field names_object has_flags has_kind within kind_valid object_valid flags_valid
fields = tt

ruleset tested = (not-and, true-and, and-true, false-and, and-false, true-or, false-or, or-false)

module _ (ids : ℕ) (d : List ℕ) where
  pub bad-use : bad_field ids 0x01 d ≡ not (supported_only (le d))
  unfolding fields
  bad-use = simp tested

  pub bad-create : bad_field ids 0x0a d ≡ not (kind_valid ids d)
  unfolding fields
  bad-create = simp tested

  pub bad-modify : bad_field ids 0x0b d ≡ not (kind_valid ids d)
  unfolding fields
  bad-modify = simp tested

  pub bad-query : bad_field ids 0x0c d ≡ not (object_valid ids d and flags_valid d)
  unfolding fields
  bad-query = simp tested

  pub bad-destroy : bad_field ids 0x0d d ≡ not (object_valid ids d)
  unfolding fields
  bad-destroy = simp tested

  pub bad-metadata : bad_field ids 0x0e d ≡ not (object_valid ids d and leb (type_byte d) 2)
  unfolding fields
  bad-metadata = simp tested

  pub bad-selected : type_byte d ≡ 0 → bad_field ids 0x0f d ≡ not (object_valid ids d)
  unfolding fields
  bad-selected e = rw e (simp tested)

  pub bad-all : type_byte d ≡ 1 → bad_field ids 0x0f d ≡ not (object_valid ids d and leb (length d) 16)
  unfolding fields
  bad-all e = rw e (simp tested)

  pub bad-type : leb (type_byte d) 1 ≡ false → bad_field ids 0x0f d ≡ true
  unfolding fields
  bad-type e = simp (e, tested)

  pub bad-set : bad_field ids 0x10 d ≡ not (object_valid ids d)
  unfolding fields
  bad-set = simp tested

  pub bad-mode : bad_field ids 0x11 d ≡ not (leb (get_or d 0 0) 1)
  unfolding fields
  bad-mode = simp tested

use mathlib.Core.Path.{◌≡◌}
use mathlib.Core.List.{map}
use lib.ListN.{length, take}
use Rattle.objects.specs.Objects.{object_byte}
use Rattle.objects.proofs.object_bytes.Given as goal

abbrev pub invariant-loop-i : goal.invariant-loop-i
invariant-loop-i l = (length l.bytes ≡ 16) × (take l.i l.bytes ≡ take l.i (map object_byte l.objects))

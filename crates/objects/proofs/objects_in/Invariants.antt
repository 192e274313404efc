use mathlib.Core.Path.{◌≡◌}
use mathlib.Core.List.{map}
use lib.ListN.{length, take}
use Rattle.objects.specs.Objects.{object_of}
use Rattle.objects.proofs.objects_in.Given as goal

abbrev pub invariant-loop-i : goal.invariant-loop-i
invariant-loop-i l = (length l.objects ≡ 16) × (take l.i l.objects ≡ take l.i (map object_of l.bytes))

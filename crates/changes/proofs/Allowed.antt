-- An accepted list leaves the queues with allowed values. Assumes nothing.
use mathlib.Core.Path.{◌≡◌, ◌∙◌}
use mathlib.Core.Bool.{true}
use mathlib.Core.List.{List}
use Prim.Native.Nat.{ℕ}
use lib.ListN.{length}
use Rattle.std.specs.Prelude.{Some}
use Rattle.theory.specs.Logic.{◌or◌}
use Rattle.theory.proofs.Tests.{both}
use Rattle.inventory.specs.Inventory.{values_size, place_of}
use Rattle.inventory.specs.Queue.{value_allowed, queues_allowed}
use Rattle.parts.specs.List.{Part, PartList, end, cut, part}
use Rattle.rules.specs.Rules.{known, size_right, every, cause_in, is_accepted}
use Rattle.rules.proofs.Accepted.{accepts}
use Rattle.values.specs.Apply.{stored, applied}
use Rattle.values.proofs.Kept.{stored-length, stored-allowed}

part-allowed : (q : ℕ) (p : Part) → size_right q p ≡ true → (i : ℕ) → place_of q p.part_type p.selector ≡ Some i
    → value_allowed p.part_type p.value ≡ true
unfolding size_right known ◌or◌
part-allowed q p h i e = rw e at h

sizes-allowed : (q : ℕ) (ps : PartList) (v : List ℕ) → every (size_right q) ps ≡ true → length v ≡ values_size → queues_allowed q v ≡ true
    → queues_allowed q (applied q ps v) ≡ true
unfolding every applied
sizes-allowed q end v h n a = a
sizes-allowed q cut v h n a = a
sizes-allowed q (part p ps) v h n a =
    let b = both _ _ h in
    sizes-allowed q ps (stored q p.part_type p.selector p.value v) b.1 (stored-length q p.part_type p.selector p.value v ∙ n)
    (stored-allowed q p.part_type p.selector p.value v n a (part-allowed q p b.0))

pub accepted-allowed : (q : ℕ) (features : List ℕ) (ps : PartList) (v : List ℕ) → is_accepted (cause_in q features ps) ≡ true
    → length v ≡ values_size → queues_allowed q v ≡ true → queues_allowed q (applied q ps v) ≡ true
accepted-allowed q features ps v h = sizes-allowed q ps v (accepts q features ps h).rings

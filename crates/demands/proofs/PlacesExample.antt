-- Places of specs/Places.antt: queue notify 0 is the 9th part of a member with one queue and the 12th with four, and with
-- one queue there is no queue notify 1. Assumes nothing.
use mathlib.Core.Path.{◌≡◌, refl}
use Rattle.std.specs.Prelude.{Some, None}
use Rattle.inventory.specs.Inventory.{queue_notify, place_of}
use Rattle.inventory.proofs.Rules.{table}
use Rattle.demands.specs.Places.{own_from, own_rows, row_of, Has}

one-queue : Has 1 queue_notify 0 8
unfolding table own_rows own_from
one-queue = record { type-is = refl; selector-is = refl }

one-queue-found : place_of 1 queue_notify 0 ≡ Some (row_of 1 8)
unfolding table own_rows own_from
one-queue-found = refl

four-queues : Has 4 queue_notify 0 11
unfolding table own_rows own_from
four-queues = record { type-is = refl; selector-is = refl }

no_second : place_of 1 queue_notify 1 ≡ None
unfolding table
no_second = refl

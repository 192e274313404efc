-- A sound card holds no queue size that no ring has, and the worked examples hold, by computation. Assumes nothing.
use mathlib.Core.Path.{◌≡◌, refl}
use mathlib.Core.Bool.{true}
use Prim.Native.Nat.{ℕ, zero, suc, ◌≤◌, ◌<◌}
use native.Mathlib.Omega.{arith}
use borrow.Author.Tests.{eqb-true}
use Rattle.theory.proofs.Tests.{both, either, within-high, never}
use Rattle.wire.specs.Le.{number}
use Rattle.inventory.specs.Queue.{power_below, ring_size, queue_allowed, queue_value}
use Rattle.inventory.proofs.Queue.{each-allowed}
use Rattle.card.specs.Layout.{is_member, member_in}
use Rattle.card.specs.Sound.{is_sound}
use Rattle.card.proofs.SoundLaws.{sound-of, sound-member-in}
use Rattle.demands.specs.Examples.{example_card}
use Rattle.demands.specs.QueueSizes.{Ring, power, unused, RingsOnly, queue_examples, QueueExamplesHold}
use Rattle.demands.proofs.Model.{model}

is-power : (k n e : ℕ) → k ≤ 16 → power_below k n ≡ true → Ring n e
unfolding power_below
is-power zero n e h t = never cc
is-power (suc k) n e h t = either _ _ t (λ q. power {k = k} (omega arith) (eqb-true _ _ q)) (is-power k n e (omega arith))

pub is-ring : (n e : ℕ) → ring_size n e ≡ true → Ring n e
unfolding ring_size
is-ring n e t =
    either _ _ t (is-power 16 n e (omega arith)) (λ q. let b = both _ _ q in unused (eqb-true _ _ b.0) (eqb-true _ _ b.1))

pub rings-only : RingsOnly
unfolding queue_allowed
rings-only c e m h k l =
    let s = sound-of c e in
    is-ring _ _ (each-allowed _ _ (sound-member-in c s m h).allowed k l (omega (arith, within-high 1 4 _ (sound-member-in c s m h).count)))

pub queue-examples-hold : QueueExamplesHold
unfolding model queue_examples
queue-examples-hold = refl

-- ---- the hypotheses can be met: queue 0 of a fresh member ----

sound-card : is_sound example_card ≡ true
unfolding model
sound-card = refl

member-here : is_member example_card 1 ≡ true
unfolding model
member-here = refl

one-queue : 0 < (member_in example_card 1).queues
unfolding model
one-queue = omega arith

fresh-queue : Ring (number 0 2 (queue_value 0 (member_in example_card 1).values)) (number 4 2 (queue_value 0 (member_in example_card 1).values))
fresh-queue = rings-only example_card sound-card 1 member-here 0 one-queue

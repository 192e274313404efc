-- A member in numbers: its state, and its live objects. Assumes nothing.
use mathlib.Core.Path.{◌≡◌}
use mathlib.Core.Bool.{Bool, true, false}
use mathlib.Core.List.{List, map}
use Prim.Native.Nat.{ℕ}
use Rattle.protocol.specs.declared.Mode.{Mode}
use Rattle.protocol.specs.declared.Mode.TheVariants.{Running, Stopped}
use Rattle.objects.specs.Objects.{object_byte, count}
use Rattle.member.specs.declared.Member.{Member}
use Rattle.loads.specs.declared.State.{State}
use Rattle.loads.specs.declared.State.TheVariants as states
use Rattle.loads.specs.declared.Summary.{Summary}
use Rattle.loads.specs.Loads.{state_of, live_of, summary_of}

module _ (mode : Mode) (marked : Bool) where
  pub state-marked : marked ≡ true → states.Marked ≡ state_of mode marked
  unfolding state_of
  state-marked e = rw e

  pub state-running : marked ≡ false → mode ≡ Running → states.Running ≡ state_of mode marked
  unfolding state_of
  state-running e f = rw (e, f)

  pub state-stopped : marked ≡ false → mode ≡ Stopped → states.Stopped ≡ state_of mode marked
  unfolding state_of
  state-stopped e f = rw (e, f)

-- ---- all numbers ----

pub summed : (x : Member) (bs : List ℕ) (s : State) (g k : ℕ) → s ≡ state_of x.mode x.marked → bs ≡ map object_byte x.objects
    → g ≡ count 1 bs → k ≡ count 2 bs
    → ◌≡◌ {A = Summary} (record { state = s; queues = x.queues; gets = g; sets = k; held = x.held }) (summary_of x)
unfolding summary_of live_of
summed x bs s g k e f p q = rw (e, p, q, f)

-- A fresh member, SPEC 2.5, a member with another mode or other values, and one that is handed back. Assumes nothing.
use Rattle.std.specs.Prelude.{true, false, List, ◌++◌, ℕ, ◌-◌, replicate}
use Rattle.theory.specs.Bytes.{bytes_at}
use Rattle.protocol.specs.declared.Mode.{Mode}
use Rattle.protocol.specs.declared.Mode.TheVariants.{Running, Stopped}
use Rattle.inventory.specs.Inventory.{values_size}
use Rattle.values.specs.Apply.{stored}
use Rattle.objects.specs.Objects.{objects_size, free}
use Rattle.member.specs.declared.Member.{Member}

-- the device features stand first among the values
abbrev pub features_size : ℕ
features_size = 16

-- fresh (01's term): it runs, has the setup's queue count for it and device features and no objects, and every other value is
-- zero
unfoldable pub fresh_of : ℕ → List ℕ → Member
fresh_of queues features =
    record {
      mode = Running;
      marked = false;
      queues = queues;
      objects = replicate objects_size free;
      held = 0;
      values = features ++ replicate (values_size - features_size) 0;
    }

abbrev pub features_in : Member → List ℕ
features_in m = bytes_at 0 features_size m.values

abbrev pub with_mode : Member → Mode → Member
with_mode m mode = record { mode = mode; marked = m.marked; queues = m.queues; objects = m.objects; held = m.held; values = m.values }

abbrev pub with_values : Member → List ℕ → Member
with_values m values = record { mode = m.mode; marked = m.marked; queues = m.queues; objects = m.objects; held = m.held; values = values }

abbrev pub with_held : Member → ℕ → Member
with_held m held = record { mode = m.mode; marked = m.marked; queues = m.queues; objects = m.objects; held = held; values = m.values }

-- hand back (02's term, request 10): its objects and its holding place end, and it is stopped and marked; its values stay, and
-- no reset changes its queue count (02, request 9)
abbrev pub handed_back : Member → Member
handed_back m =
    record { mode = Stopped; marked = true; queues = m.queues; objects = replicate objects_size free; held = 0; values = m.values }

-- a card store, in either mode: SPEC 7.5
abbrev pub with_part : Member → ℕ → ℕ → List ℕ → Member
with_part m t s value = with_values m (stored m.queues t s value m.values)

-- A member's bytes, which stand at the front of its record, SPEC 2.7: mode 1, mark 1, queue count 1, object records 16, what
-- its holding place holds 2, values 205. Assumes nothing.
use Rattle.std.specs.Prelude.{List, [], ◌∷◌, ◌++◌, map, ℕ, ◌+◌, eqb, get_or}
use Rattle.theory.specs.Logic.{indicator}
use Rattle.theory.specs.Bytes.{bytes_at}
use Rattle.wire.specs.Le.{bytes, number}
use Rattle.inventory.specs.Inventory.{values_size}
use Rattle.protocol.specs.declared.Mode.{Mode}
use Rattle.protocol.specs.declared.Mode.TheVariants.{Running, Stopped}
use Rattle.protocol.specs.Answers.{mode_of}
use Rattle.objects.specs.Objects.{objects_size, object_of, object_byte}
use Rattle.member.specs.declared.Member.{Member}

abbrev pub mode_at : ℕ
mode_at = 0

-- mark (02's term, request 10): 1 for a member that is handed back and not yet wiped, else 0
abbrev pub mark_at : ℕ
mark_at = mode_at + 1

-- Q of this member (02, request 9)
abbrev pub queues_at : ℕ
queues_at = mark_at + 1

abbrev pub objects_at : ℕ
objects_at = queues_at + 1

abbrev pub held_at : ℕ
held_at = objects_at + objects_size

abbrev pub values_at : ℕ
values_at = held_at + 2

abbrev pub member_size : ℕ
member_size = values_at + values_size

-- the bytes of a holding place (02's term), which stand behind the member's; what it holds is 0 for none, k + 1 for an
-- open one of k bytes
abbrev pub holding_size : ℕ
holding_size = 1024

-- 0 running, 1 stopped
abbrev pub mode_byte : Mode → ℕ
mode_byte Running = 0
mode_byte Stopped = 1

abbrev pub object_bytes : List ℕ → List ℕ
object_bytes r = bytes_at objects_at objects_size r

-- the member that bytes hold, and the bytes that hold a member
unfoldable pub member_of : List ℕ → Member
member_of r =
    record {
      mode = mode_of (get_or r mode_at 0);
      marked = eqb (get_or r mark_at 0) 1;
      queues = get_or r queues_at 0;
      objects = map object_of (object_bytes r);
      held = number held_at 2 r;
      values = bytes_at values_at values_size r;
    }

unfoldable pub member_bytes : Member → List ℕ
member_bytes m =
    (mode_byte m.mode ∷ indicator m.marked ∷ m.queues ∷ []) ++ (map object_byte m.objects ++ (bytes 2 m.held ++ m.values))

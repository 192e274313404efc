-- What the card's own firmware reads of it, SPEC 14: a part, a member, its configuration, the setup. Each gives the first answer
-- that applies, as a card store does, and what is then in the numbers and buffers lent to it; refused, they are as they were.
-- The card is lent, and no call here changes it. Assumes nothing.
use Rattle.std.specs.Prelude.{Bool, true, false, List, [], map, ℕ, eqb, length, Ok, Err, is_ok}
use Rattle.theory.specs.Logic.{when◌then◌else◌, unless◌answer◌then◌}
use Rattle.protocol.specs.declared.EventRefusal.TheVariants.{NoPart, WrongLength}
use Rattle.protocol.specs.declared.Mode.{Mode}
use Rattle.protocol.specs.declared.Mode.TheVariants as modes
use Rattle.protocol.specs.Answers.{EventAnswer, event_number}
use Rattle.inventory.specs.Inventory.{row_at, value_of, selector_of, place_of, on_place}
use Rattle.objects.specs.declared.Slot.TheVariants.{Get, Set}
use Rattle.objects.specs.Objects.{slot_byte, object_byte, count}
use Rattle.member.specs.declared.Member.{Member}
use Rattle.setups.specs.Writing.{written}
use Rattle.card.specs.Layout.{configuration_size, setup_of, member_in, counts_of, configuration_in, generation_in}
use Rattle.card.specs.Sound.{is_sound}
use Rattle.events.specs.Events.{member_answer, if_done}
use Rattle.loads.specs.declared.State.{State}
use Rattle.loads.specs.declared.State.TheVariants as states
use Rattle.loads.specs.declared.Summary.{Summary}

-- the answer as its number
abbrev pub numbered_of : {A : Type 0} → EventAnswer × A → ℕ × A
numbered_of x = (event_number x.0, x.1)

-- ---- a part ----

-- member x's value of a part; none where it has not got the part
unfoldable pub part_of : Member → ℕ → ℕ → List ℕ
part_of x t s = on_place (place_of x.queues t s) (λ i. value_of x.values i) []

-- a load of a part into a buffer, which is as long as the value. Every part of the inventory is loaded, the device features too
unfoldable pub load_in : Member → ℕ → ℕ → List ℕ → EventAnswer × List ℕ
load_in x t s buffer =
    on_place (place_of x.queues t s)
    (λ i.
    unless eqb (length buffer) (row_at i).size answer (Err WrongLength, buffer) then
    (Ok tt, value_of x.values i))
    (Err NoPart, buffer)

-- s is the 8 selector bytes as a number, as for a store
unfoldable pub load : List ℕ → ℕ → ℕ → ℕ → List ℕ → EventAnswer × List ℕ
load c m t s buffer = if_done (member_answer c m) (load_in (member_in c m) t (selector_of t s) buffer) buffer

-- the value where it stands in the record, for a caller that borrows the card: none where there is no such part
unfoldable pub lent : List ℕ → ℕ → ℕ → ℕ → List ℕ
lent c m t s = unless is_ok (member_answer c m) answer [] then part_of (member_in c m) t (selector_of t s)

-- ---- a member ----

-- one that is marked is stopped too
unfoldable pub state_of : Mode → Bool → State
state_of mode true = states.Marked
state_of modes.Running false = states.Running
state_of modes.Stopped false = states.Stopped

-- a state as its number
abbrev pub state_number : State → ℕ
state_number states.Running = 0
state_number states.Stopped = 1
state_number states.Marked = 2

-- how many of a member's objects are live, of the kind whose byte this is
unfoldable pub live_of : ℕ → Member → ℕ
live_of kind x = count kind (map object_byte x.objects)

-- held is 0 where no holding place is open, else 1 more than the bytes that it holds
unfoldable pub summary_of : Member → Summary
summary_of x =
    record {
      state = state_of x.mode x.marked;
      queues = x.queues;
      gets = live_of (slot_byte Get) x;
      sets = live_of (slot_byte Set) x;
      held = x.held;
    }

-- state, queue count, live get objects, live set objects, held
abbrev pub Numbers : Type 0
Numbers = ℕ × (ℕ × (ℕ × (ℕ × ℕ)))

abbrev pub numbers_of : Summary → Numbers
numbers_of s = (state_number s.state, (s.queues, (s.gets, (s.sets, s.held))))

unfoldable pub member_told : List ℕ → ℕ → Numbers → EventAnswer × Numbers
member_told c m numbers = if_done (member_answer c m) (Ok tt, numbers_of (summary_of (member_in c m))) numbers

-- ---- its configuration ----

-- into 12 bytes, and the generation
unfoldable pub configuration_for : List ℕ → ℕ → List ℕ × ℕ → EventAnswer × (List ℕ × ℕ)
configuration_for c m (buffer, generation) =
    unless eqb (length buffer) configuration_size answer (Err WrongLength, (buffer, generation)) then
    (Ok tt, (configuration_in c m, generation_in c m))

unfoldable pub configuration_told : List ℕ → ℕ → List ℕ × ℕ → EventAnswer × (List ℕ × ℕ)
configuration_told c m lent = if_done (member_answer c m) (configuration_for c m lent) lent

-- ---- the setup ----

-- packed at the front of a buffer as the writer of setups packs it, and its length: equal queue counts as version 1, others as
-- version 2; 0 where the card is not sound or the buffer too short
unfoldable pub setup_of_card : List ℕ → List ℕ → ℕ × List ℕ
setup_of_card c buffer =
    unless is_sound c answer (0, buffer) then
    written buffer (setup_of c).members (counts_of c) (setup_of c).gets (setup_of c).sets (setup_of c).features

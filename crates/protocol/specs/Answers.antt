-- The answers and their numbers, SPEC 6.2 and 7.1; modes, SPEC 4.11, and kinds of objects, SPEC 4.3, as tests and as numbers.
-- Assumes nothing.
use Rattle.std.specs.Prelude.{Bool, true, false, ℕ, zero, suc, ⊤, Result, Ok, Err}
use Rattle.protocol.specs.declared.Refusal.{Refusal}
use Rattle.protocol.specs.declared.Refusal.TheVariants.{BadLength, BadGroup, BadOpcode, NoMember, Marked, BadField, Exists, NotLive, NoRoom, WrongKind, Running, BadList, ShortReply}
use Rattle.protocol.specs.declared.EventRefusal.{EventRefusal}
use Rattle.protocol.specs.declared.EventRefusal.TheVariants as event
use Rattle.protocol.specs.declared.Mode.{Mode}
use Rattle.protocol.specs.declared.Mode.TheVariants as mode
use Rattle.protocol.specs.declared.ObjectKind.{ObjectKind}
use Rattle.protocol.specs.declared.ObjectKind.TheVariants.{Get, Set}

-- the answer to a command: a success, or a refusal
abbrev pub Answer : Type 0
Answer = Result ⊤ Refusal

-- the same of a command that gives a value
abbrev pub outcome_of : {A : Type 0} → Result A Refusal → Answer
outcome_of (Ok x) = Ok tt
outcome_of (Err a) = Err a

abbrev pub status_of : Answer → ℕ
status_of (Ok x) = 0
status_of (Err BadLength) = 22
status_of (Err BadGroup) = 22
status_of (Err BadOpcode) = 22
status_of (Err NoMember) = 22
status_of (Err Marked) = 11
status_of (Err BadField) = 22
status_of (Err Exists) = 17
status_of (Err NotLive) = 6
status_of (Err NoRoom) = 28
status_of (Err WrongKind) = 22
status_of (Err Running) = 11
status_of (Err BadList) = 22
status_of (Err ShortReply) = 12

abbrev pub qualifier_of : Answer → ℕ
qualifier_of (Ok x) = 0
qualifier_of (Err BadLength) = 1
qualifier_of (Err BadGroup) = 4
qualifier_of (Err BadOpcode) = 2
qualifier_of (Err NoMember) = 5
qualifier_of (Err Marked) = 7
qualifier_of (Err BadField) = 3
qualifier_of (Err Exists) = 1
qualifier_of (Err NotLive) = 1
qualifier_of (Err NoRoom) = 1
qualifier_of (Err WrongKind) = 3
qualifier_of (Err Running) = 7
qualifier_of (Err BadList) = 3
qualifier_of (Err ShortReply) = 6

-- what setup and card events answer: SPEC 7.1
abbrev pub EventAnswer : Type 0
EventAnswer = Result ⊤ EventRefusal

abbrev pub event_number : EventAnswer → ℕ
event_number (Ok x) = 0
event_number (Err event.NotSound) = 9
event_number (Err event.NoMember) = 1
event_number (Err event.NoPart) = 2
event_number (Err event.WrongLength) = 3
event_number (Err event.BadSetup) = 4
event_number (Err event.BadQueueSize) = 5
event_number (Err event.WrongMark) = 6

-- tests of a member's mode and of an object's kind
abbrev pub is_stopped : Mode → Bool
is_stopped mode.Running = false
is_stopped mode.Stopped = true

abbrev pub is_get : ObjectKind → Bool
is_get Get = true
is_get Set = false

abbrev pub is_set : ObjectKind → Bool
is_set Get = false
is_set Set = true

-- 0 running, 1 stopped
abbrev pub mode_of : ℕ → Mode
mode_of zero = mode.Running
mode_of (suc n) = mode.Stopped

-- 0 get, 1 set
abbrev pub kind_number : ObjectKind → ℕ
kind_number Get = 0
kind_number Set = 1

-- REQUEST 1, SPEC 13.1: the host's half. What is claimed of a built request and of the reply to it, over the definitions that the
-- contracts of both halves go by: request_of and read_reply at the host, ask_in and respond at the card. Assumes nothing.
use Rattle.std.specs.Prelude.{Option, ◌≡◌, Bool, true, List, [], ℕ, ◌+◌, ◌%◌, ◌≤◌, ◌<◌, leb, ltb, eqb, length, Ok, is_ok}
use Rattle.theory.specs.Logic.{when◌then◌else◌, ◌and◌, ◌or◌}
use Rattle.protocol.specs.Answers.{Answer}
use Rattle.protocol.specs.declared.ReadOp.TheVariants.{QueryObject, GetMetadata, GetSelected, GetAll}
use Rattle.protocol.specs.declared.ChangeOp.TheVariants.{Create, Modify, Destroy, SetParts, SetMode}
use Rattle.protocol.specs.Answers.{status_of, qualifier_of, mode_of}
use Rattle.protocol.specs.Opcodes.{bit, supported_only}
use Rattle.inventory.specs.Header.{header_size}
use Rattle.card.specs.Layout.{setup_of, in_use_of, is_marked}
use Rattle.card.specs.Sound.{is_sound}
use Rattle.frame.specs.declared.Ask.{Ask}
use Rattle.frame.specs.declared.Ask.TheVariants.{QueryList, UseList, Read, Change}
use Rattle.frame.specs.Frame.{longest, asked_list, given_list}
use Rattle.frame.specs.Fields.{kind_in, metadata_is}
use Rattle.frame.specs.Ask.{reaches, attended}
use Rattle.reply.specs.Reply.{head_size, final_of}
use Rattle.admin.specs.Command.{ask_in, Effect, perform, respond}
use Rattle.host.specs.declared.Command.{Command}
use Rattle.host.specs.declared.Command.TheVariants as host
use Rattle.host.specs.declared.Head.{Head}
use Rattle.host.specs.Request.{sent_of, request_of}
use Rattle.host.specs.Reply.{result_in, answered, read_reply}

-- ---- the card takes a built request as the command and the fields it was built from ----

-- that command with those fields
abbrev pub ask_for : Command → Ask
ask_for host.ListQuery = QueryList
ask_for (host.ListUse mask) = UseList mask
ask_for (host.Create m id kind) = Change m (Create id (kind_in kind))
ask_for (host.Modify m id kind) = Change m (Modify id (kind_in kind))
ask_for (host.Query m id) = Read m (QueryObject id)
ask_for (host.Destroy m id) = Change m (Destroy id)
ask_for (host.Metadata m id what) = Read m (GetMetadata id (metadata_is what))
ask_for (host.Get m id which) = Read m (when eqb which 0 then GetSelected id else GetAll id)
ask_for (host.Set m id) = Change m (SetParts id)
ask_for (host.SetMode m mode) = Change m (SetMode (mode_of mode))

-- fields that step 7 takes, on a card of G + S = ids object ids: ids, kinds, types, modes and mask bits, and headers that
-- are whole. Get-all has no headers, since step 7 refuses them, and a mask is one word
unfoldable pub inside : ℕ → Command → List ℕ → Bool
inside ids host.ListQuery list = true
inside ids (host.ListUse mask) list = supported_only mask and eqb (length list) 0
inside ids (host.Create m id kind) list = ltb id ids and leb kind 1
inside ids (host.Modify m id kind) list = ltb id ids and leb kind 1
inside ids (host.Query m id) list = ltb id ids
inside ids (host.Destroy m id) list = ltb id ids
inside ids (host.Metadata m id what) list = ltb id ids and leb what 2
inside ids (host.Get m id which) list =
    ltb id ids and leb which 1 and eqb (length list % header_size) 0 and (eqb which 0 or eqb (length list) 0)
inside ids (host.Set m id) list = ltb id ids
inside ids (host.SetMode m mode) list = leb mode 1

pub record Takeable (c : List ℕ) (x : Command) (list : List ℕ) : Type 0 where
  pub sound : is_sound c ≡ true
  pub in_use : bit (in_use_of c) (sent_of x).opcode ≡ true
  -- member 1 to N, where the command names one
  pub member : reaches (setup_of c).members (sent_of x).opcode (sent_of x).member ≡ true
  -- and that member is not marked
  pub unmarked : attended (is_marked c (sent_of x).member) (sent_of x).opcode ≡ true
  pub fields : inside ((setup_of c).gets + (setup_of c).sets) x list ≡ true
  pub short : length (request_of x list) ≤ longest

pub record TakenAs (c : List ℕ) (x : Command) (list : List ℕ) : Type 0 where
  pub asked : ask_in c (request_of x list) ≡ Ok (ask_for x)
  -- the list that it then works on is the list given
  pub headers : (m id which : ℕ) → x ≡ host.Get m id which → asked_list (request_of x list) ≡ list
  pub parts : (m id : ℕ) → x ≡ host.Set m id → given_list (request_of x list) ≡ list

abbrev pub Taken : Type 0
Taken = (c : List ℕ) (x : Command) (list : List ℕ) → Takeable c x list → TakenAs c x list

-- ---- the host reads the reply as the answer to the command that it sent ----

-- what the card makes of a request before step 11, and its answer in the end
abbrev pub effect_in : List ℕ → List ℕ → Effect
effect_in c r = perform c r (ask_in c r)

abbrev pub answer_in : List ℕ → List ℕ → ℕ → Answer
answer_in c r room = final_of (effect_in c r).outcome (length (effect_in c r).result) room

-- an answer as the host reads it: the numbers to act on are those that were sent
abbrev pub told : Answer → Option Head
told a = answered (status_of a) (qualifier_of a) (status_of a) (qualifier_of a)

-- the card's own status, qualifier and result
pub record ReadAs (c : List ℕ) (x : Command) (list : List ℕ) (room what : ℕ) : Type 0 where
  pub outcome : read_reply (sent_of x).opcode what (respond c (request_of x list) room).1 ≡ told (answer_in c (request_of x list) room)
  pub result : result_in (respond c (request_of x list) room).1
      ≡ (when is_ok (answer_in c (request_of x list) room) then (effect_in c (request_of x list)).result else [])

-- Whatever fields and list were sent, and in any buffer that has room for a reply at all. what is a byte, and that of the
-- command if it is a metadata command
abbrev pub ReadBack : Type 0
ReadBack =
    (c : List ℕ) (x : Command) (list : List ℕ) (room what : ℕ) → is_sound c ≡ true → head_size ≤ room
    → what < 256 → ((m id type : ℕ) → x ≡ host.Metadata m id type → type ≡ what) → ReadAs c x list room what

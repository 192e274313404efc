-- THE WORKED EXAMPLES B1 to B12 and the metadata list, SPEC 10, in its order, as one table. Each has the calls that lead to it,
-- the calls that it is about, and their replies. Assumes nothing.
use Rattle.std.specs.Prelude.{◌≡◌, List, [], ◌∷◌, ◌++◌, map, ℕ, length, drop, replicate}
use Rattle.theory.specs.Machine.{replies}
use Rattle.wire.specs.Le.{bytes}
use Rattle.card.specs.Layout.{card_size}
use Rattle.events.specs.Events.{set_up}
use Rattle.demands.specs.Calls.{Call, command, card_store, Reply, written, answered, responded, step}
use Rattle.host.specs.declared.Command.{Command}
use Rattle.host.specs.declared.Command.TheVariants as host
use Rattle.host.specs.Request.{request, request_of, get_all, set_parts}

-- two members; one queue, one get object and one set object for each; features all zero
unfoldable pub example_card : List ℕ
example_card = (set_up (replicate (card_size 2) 0) 2 (1 ∷ 1 ∷ []) 1 1 (replicate 16 0)).1

-- ---- calls ----

-- a request with a reply buffer of 4,096 bytes
abbrev pub send : List ℕ → Call
send r = command r 4096

-- one that is built and has no list
abbrev pub send_alone : Command → Call
send_alone x = send (request_of x [])

-- list use of this mask
abbrev pub use_list : ℕ → Call
use_list mask = send_alone (host.ListUse mask)

abbrev pub set_mode : ℕ → ℕ → Call
set_mode m mode = send_alone (host.SetMode m mode)

-- to member 1, as those below; kind 0 get, 1 set
abbrev pub create : ℕ → ℕ → Call
create id kind = send_alone (host.Create 1 id kind)

abbrev pub destroy : ℕ → Call
destroy id = send_alone (host.Destroy 1 id)

-- 0 size, 1 count, 2 list
abbrev pub metadata : ℕ → ℕ → Call
metadata id what = send_alone (host.Metadata 1 id what)

-- parts get of the asked headers
abbrev pub get_selected : ℕ → List ℕ → Call
get_selected id headers = send (request_of (host.Get 1 id 0) headers)

-- all commands are used, by list use of 0x3FC03; then get object 0 and set object 1 are made
abbrev pub all_used : List Call
all_used = use_list 0x3fc03 ∷ []

abbrev pub objects_live : List Call
objects_live = use_list 0x3fc03 ∷ create 0 0 ∷ create 1 1 ∷ []

-- ---- replies ----

-- status, qualifier, four zero bytes
abbrev pub refuses : ℕ → ℕ → Reply
refuses status qualifier = written (bytes 2 status ++ (bytes 2 qualifier ++ replicate 4 0))

abbrev pub gives : List ℕ → Reply
gives result = written (replicate 8 0 ++ result)

abbrev pub succeeds : Reply
succeeds = gives []

-- a number in 4 bytes, and four zero bytes
abbrev pub a_number : ℕ → List ℕ
a_number n = bytes 4 n ++ replicate 4 0

-- ---- parts ----

-- type, flags, selector and length; all other bytes of a header are zero
pub record Header : Type 0 where
  pub part_type : ℕ
  pub flags : ℕ
  pub selector : ℕ
  pub size : ℕ

abbrev pub header : ℕ → ℕ → ℕ → ℕ → Header
header t f s n = record { part_type = t; flags = f; selector = s; size = n }

abbrev pub header_bytes : Header → List ℕ
header_bytes h = bytes 2 h.part_type ++ (h.flags ∷ 0 ∷ (bytes 8 h.selector ++ bytes 4 h.size))

-- the metadata list of a member with one queue: SPEC 10.13
unfoldable pub headers_listed : List Header
headers_listed =
    header 0x100 1 0 16
    ∷ header 0x101 0 0 16
    ∷ header 0x102 0 0 4 ∷ header 0x102 0 8 4 ∷ header 0x102 0 16 2 ∷ header 0x102 0 22 2
    ∷ header 0x103 0 0 1
    ∷ header 0x104 0 0 32
    ∷ header 0x105 0 0 8
    ∷ []

unfoldable pub joined : (Header → List ℕ) → List Header → List ℕ
joined f [] = []
joined f (h ∷ hs) = f h ++ joined f hs

-- the nine headers, and the nine parts of a fresh member
unfoldable pub nine_headers : List ℕ
nine_headers = joined header_bytes headers_listed

unfoldable pub nine_parts : List ℕ
nine_parts = joined (λ h. header_bytes h ++ replicate h.size 0) headers_listed

-- device status 5; queue notify 1 to 8; driver features, all bytes b
abbrev pub status_part : List ℕ
status_part = header_bytes (header 0x103 0 0 1) ++ (5 ∷ [])

abbrev pub notify_part : List ℕ
notify_part = header_bytes (header 0x105 0 0 8) ++ (1 ∷ 2 ∷ 3 ∷ 4 ∷ 5 ∷ 6 ∷ 7 ∷ 8 ∷ [])

abbrev pub driver_part : ℕ → List ℕ
driver_part b = header_bytes (header 0x101 0 0 16) ++ replicate 16 b

-- ---- the table ----

pub record Example : Type 0 where
  pub before : List Call
  pub calls : List Call
  pub expected : List Reply

abbrev pub example : List Call → List Call → List Reply → Example
example before calls expected = record { before = before; calls = calls; expected = expected }

unfoldable pub worked_examples : List Example
worked_examples =
    -- B1 fresh, list query, group 1: 03 FC 03 00 00 00 00 00 after the head
    example [] (send_alone host.ListQuery ∷ []) (gives (0x03 ∷ 0xfc ∷ 0x03 ∷ 0 ∷ 0 ∷ 0 ∷ 0 ∷ 0 ∷ []) ∷ [])
    -- B2 fresh, group 1, opcode 0x0a: 16 00 02 00 00 00 00 00
    ∷ example [] (send (request 0x0a 1 0 []) ∷ []) (written (0x16 ∷ 0 ∷ 2 ∷ 0 ∷ 0 ∷ 0 ∷ 0 ∷ 0 ∷ []) ∷ [])
    -- B3 group 2 and opcode 0xffff: 22/4
    ∷ example [] (send (request 0xffff 2 0 []) ∷ []) (refuses 22 4 ∷ [])
    -- B4 all used, mode set: members 0 and 3 give 22/5, member 2 succeeds
    ∷ example all_used (set_mode 0 1 ∷ set_mode 3 1 ∷ set_mode 2 1 ∷ []) (refuses 22 5 ∷ refuses 22 5 ∷ succeeds ∷ [])
    -- B5 create get object 0; again: 17/1
    ∷ example all_used (create 0 0 ∷ create 0 0 ∷ []) (succeeds ∷ refuses 17 1 ∷ [])
    -- B6 then create get object 1: 28/1; id 2: 22/3; set object 1 succeeds
    ∷ example (use_list 0x3fc03 ∷ create 0 0 ∷ []) (create 1 0 ∷ create 2 0 ∷ create 1 1 ∷ [])
    (refuses 28 1 ∷ refuses 22 3 ∷ succeeds ∷ [])
    -- B7 destroy 0, create get 0: succeeds
    ∷ example objects_live (destroy 0 ∷ create 0 0 ∷ []) (succeeds ∷ succeeds ∷ [])
    -- B8 parts set, member running: 11/7
    ∷ example objects_live (send (set_parts 1 1 (driver_part 7)) ∷ []) (refuses 11 7 ∷ [])
    -- B9 count 9, size 229
    ∷ example objects_live (metadata 0 1 ∷ metadata 0 0 ∷ []) (gives (a_number 9) ∷ gives (a_number 229) ∷ [])
    -- B10 selected: queue notify, then device status. The status comes first
    ∷ example objects_live
    (card_store 1 0x103 0 (5 ∷ []) ∷ card_store 1 0x105 0 (1 ∷ 2 ∷ 3 ∷ 4 ∷ 5 ∷ 6 ∷ 7 ∷ 8 ∷ [])
    ∷ get_selected 0 (header_bytes (header 0x105 0 0 0) ++ header_bytes (header 0x103 0 0 0)) ∷ [])
    (answered 0 ∷ answered 0 ∷ gives (status_part ++ notify_part) ∷ [])
    -- B11 member stopped, driver features twice in a set: 22/3, parts unchanged
    ∷ example objects_live
    (set_mode 1 1 ∷ send (get_all 1 0) ∷ send (set_parts 1 1 (driver_part 7 ++ driver_part 7)) ∷ send (get_all 1 0) ∷ [])
    (succeeds ∷ gives nine_parts ∷ refuses 22 3 ∷ gives nine_parts ∷ [])
    -- B12 get-all: a buffer of 236 gives 12/6, of 237 succeeds
    ∷ example objects_live (command (get_all 1 0) 236 ∷ command (get_all 1 0) 237 ∷ []) (refuses 12 6 ∷ gives nine_parts ∷ [])
    -- the metadata list
    ∷ example objects_live (metadata 0 2 ∷ []) (gives (a_number 9 ++ nine_headers) ∷ [])
    ∷ []

-- ---- the claim ----

-- what a machine replies to the calls of an example
unfoldable pub replies_to : {State : Type 0} → (State → Call → State × Reply) → State → Example → List Reply
replies_to machine s e = drop (length e.before) (replies machine s (e.before ++ e.calls))

-- bytes written in the last reply
abbrev pub size_of : Reply → ℕ
size_of (written bs) = length bs
size_of (answered n) = 0
size_of (responded bs) = length bs

unfoldable pub last_size : ℕ → List Reply → ℕ
last_size n [] = n
last_size n (r ∷ rs) = last_size (size_of r) rs

-- the whole table, and the bytes written: B1 16 .. B10 49, B11 and B12 237, the list 160
pub record ExamplesHold : Type 0 where
  pub replies : map (replies_to step example_card) worked_examples ≡ map (λ (e : Example). e.expected) worked_examples
  pub sizes : map (λ (e : Example). last_size 0 (replies_to step example_card e)) worked_examples
      ≡ 16 ∷ 8 ∷ 8 ∷ 8 ∷ 8 ∷ 8 ∷ 8 ∷ 8 ∷ 16 ∷ 49 ∷ 237 ∷ 237 ∷ 160 ∷ []

-- WORKED EXAMPLES of the host's half: all bytes of a request of each command, and replies that are read and refused. What
-- no card looks at, such as a reserved byte, and what no card sends, such as a status of its own, shows here alone.
-- Assumes nothing.
use Rattle.std.specs.Prelude.{Option, None, ◌≡◌, List, [], ◌∷◌, ◌++◌, map, ℕ, replicate}
use Rattle.host.specs.declared.Command.{Command}
use Rattle.host.specs.declared.Command.TheVariants.{ListQuery, ListUse, Create, Modify, Query, Destroy, Metadata, Get, Set, SetMode}
use Rattle.host.specs.declared.Head.{Head}
use Rattle.host.specs.Request.{request_of}
use Rattle.host.specs.Reply.{answered, read_reply}

abbrev pub zeros : ℕ → List ℕ
zeros n = replicate n 0

-- ---- requests ----

pub record Built : Type 0 where
  pub command : Command
  pub list : List ℕ
  pub bytes : List ℕ

abbrev pub built : Command → List ℕ → List ℕ → Built
built x list bytes = record { command = x; list = list; bytes = bytes }

-- member 0x1716151413121110, object 0x07060504, last field 9; a list of two bytes
abbrev pub member : ℕ
member = 0x1716151413121110

abbrev pub id : ℕ
id = 0x07060504

abbrev pub list : List ℕ
list = 0x0a ∷ 0x0b ∷ []

abbrev pub frame : ℕ → List ℕ → List ℕ
frame op d = (op ∷ 0 ∷ 1 ∷ 0 ∷ zeros 12) ++ ((0x10 ∷ 0x11 ∷ 0x12 ∷ 0x13 ∷ 0x14 ∷ 0x15 ∷ 0x16 ∷ 0x17 ∷ []) ++ d)

-- the list commands have member 0
abbrev pub list_frame : ℕ → List ℕ → List ℕ
list_frame op d = (op ∷ 0 ∷ 1 ∷ 0 ∷ zeros 20) ++ d

abbrev pub object : List ℕ → List ℕ
object d = (0 ∷ 0 ∷ 0 ∷ 0 ∷ 4 ∷ 5 ∷ 6 ∷ 7 ∷ []) ++ d

unfoldable pub requests : List Built
requests =
    built ListQuery [] (list_frame 0x00 [])
    ∷ built (ListUse 0x0807060504030201) [] (list_frame 0x01 (1 ∷ 2 ∷ 3 ∷ 4 ∷ 5 ∷ 6 ∷ 7 ∷ 8 ∷ []))
    ∷ built (Create member id 9) [] (frame 0x0a (object (zeros 8 ++ (9 ∷ zeros 7))))
    ∷ built (Modify member id 9) [] (frame 0x0b (object (zeros 8 ++ (9 ∷ zeros 7))))
    ∷ built (Query member id) [] (frame 0x0c (object (zeros 8)))
    ∷ built (Destroy member id) [] (frame 0x0d (object []))
    ∷ built (Metadata member id 9) [] (frame 0x0e (object (9 ∷ zeros 7)))
    ∷ built (Get member id 9) list (frame 0x0f (object (9 ∷ (zeros 7 ++ (0x0a ∷ 0x0b ∷ [])))))
    ∷ built (Set member id) list (frame 0x10 (object (0x0a ∷ 0x0b ∷ [])))
    ∷ built (SetMode member 9) [] (frame 0x11 (9 ∷ []))
    ∷ []

abbrev pub RequestsBuilt : Type 0
RequestsBuilt = map (λ (b : Built). request_of b.command b.list) requests ≡ map (λ (b : Built). b.bytes) requests

-- ---- replies ----

pub record ReadBack : Type 0 where
  pub opcode : ℕ
  pub type : ℕ
  pub reply : List ℕ
  pub head : Option Head

abbrev pub reads : ℕ → ℕ → List ℕ → Option Head → ReadBack
reads op what reply h = record { opcode = op; type = what; reply = reply; head = h }

-- status and qualifier of one byte each, four zero bytes, the result
abbrev pub reply : ℕ → ℕ → List ℕ → List ℕ
reply status qualifier result = (status ∷ 0 ∷ qualifier ∷ 0 ∷ zeros 4) ++ result

-- the header of a part of type 0xffff whose value has n bytes
abbrev pub part_header : ℕ → List ℕ
part_header n = 0xff ∷ 0xff ∷ zeros 10 ++ (n ∷ zeros 3)

unfoldable pub replies : List ReadBack
replies =
    -- under 8 bytes, and the exact lengths
    reads 0x00 0 [] None
    ∷ reads 0x00 0 (zeros 7) None
    ∷ reads 0x00 0 (reply 0 0 (zeros 8)) (answered 0 0 0 0)
    ∷ reads 0x00 0 (reply 0 0 (zeros 7)) None
    ∷ reads 0x0c 0 (reply 0 0 (zeros 9)) None
    ∷ reads 0x0d 0 (reply 0 0 []) (answered 0 0 0 0)
    ∷ reads 0x10 0 (reply 0 0 (0 ∷ [])) None
    ∷ reads 0x0c 0 (reply 22 3 []) (answered 22 3 22 3)
    ∷ reads 0x0c 0 (reply 22 3 (zeros 8)) None
    -- none of the ten commands
    ∷ reads 0x02 0 (reply 22 2 []) None
    ∷ reads 0x10a 0 (reply 0 0 []) None
    -- status and qualifier are judged each for itself, all 16 bits of them
    ∷ reads 0x0f 0 (reply 99 200 []) (answered 22 1 99 200)
    ∷ reads 0x0f 0 (reply 6 8 []) (answered 6 1 6 8)
    ∷ reads 0x0f 0 (reply 5 7 []) (answered 22 7 5 7)
    ∷ reads 0x11 0 (reply 0 9 []) (answered 0 1 0 9)
    ∷ reads 0x00 0 (0 ∷ 1 ∷ 2 ∷ 1 ∷ zeros 4) (answered 22 1 0x100 0x102)
    -- the four bytes after the qualifier are not looked at
    ∷ reads 0x11 0 (11 ∷ 0 ∷ 7 ∷ 0 ∷ 1 ∷ 2 ∷ 3 ∷ 4 ∷ []) (answered 11 7 11 7)
    -- metadata: size, count, a type that no card serves; a list by its count, which does not wrap
    ∷ reads 0x0e 0 (reply 0 0 (zeros 8)) (answered 0 0 0 0)
    ∷ reads 0x0e 1 (reply 0 0 (1 ∷ zeros 7)) (answered 0 0 0 0)
    ∷ reads 0x0e 3 (reply 0 0 (zeros 8)) (answered 0 0 0 0)
    ∷ reads 0x0e 2 (reply 0 0 (zeros 8)) (answered 0 0 0 0)
    ∷ reads 0x0e 2 (reply 0 0 (1 ∷ zeros 23)) (answered 0 0 0 0)
    ∷ reads 0x0e 2 (reply 0 0 (1 ∷ zeros 7)) None
    ∷ reads 0x0e 2 (reply 0 0 (0 ∷ 0 ∷ 0 ∷ 0x10 ∷ zeros 4)) None
    ∷ reads 0x0e 2 (reply 0 0 []) None
    -- parts get: none, whole ones, a value that is missing, a header that is cut
    ∷ reads 0x0f 0 (reply 0 0 []) (answered 0 0 0 0)
    ∷ reads 0x0f 1 (reply 0 0 (part_header 1 ++ (5 ∷ part_header 0))) (answered 0 0 0 0)
    ∷ reads 0x0f 0 (reply 0 0 (part_header 1)) None
    ∷ reads 0x0f 0 (reply 0 0 (part_header 0 ++ zeros 15)) None
    ∷ []

abbrev pub RepliesRead : Type 0
RepliesRead = map (λ (r : ReadBack). read_reply r.opcode r.type r.reply) replies ≡ map (λ (r : ReadBack). r.head) replies

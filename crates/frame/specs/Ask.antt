-- What a request asks: steps 2 to 7 of SPEC 6.1, of which there is no step 6, since no length of the data is refused: SPEC 13.2.
-- It depends on the setup, the list in use and whether the member named is marked, and on nothing else of a member's record.
-- Assumes nothing.
use Rattle.std.specs.Prelude.{Bool, not, List, ℕ, eqb, length, Result, Err}
use Rattle.theory.specs.Logic.{unless◌answer◌then◌, ◌and◌, ◌or◌, within}
use Rattle.protocol.specs.declared.Refusal.{Refusal}
use Rattle.protocol.specs.declared.Refusal.TheVariants.{BadLength, BadGroup, BadOpcode, NoMember, Marked}
use Rattle.protocol.specs.Opcodes.{supported, bit, names_member}
use Rattle.frame.specs.declared.Ask.{Ask}
use Rattle.frame.specs.Frame.{data_at, longest, opcode_of, group_of, target_of, data_of}
use Rattle.frame.specs.Fields.{fields_of}

-- step 4: supported and in use
unfoldable pub usable : ℕ → ℕ → Bool
usable in_use op = supported op and bit in_use op

-- step 5: a command that names a member names one of 1 to N
unfoldable pub reaches : ℕ → ℕ → ℕ → Bool
reaches members op m = not (names_member op) or within 1 members m

-- right after step 5 (02, request 10): a command that names a member names one that is not marked
unfoldable pub attended : Bool → ℕ → Bool
attended marked op = not marked or not (names_member op)

-- steps 3 to 7, on the fields of the frame: the first that applies; marked says whether member m is
unfoldable pub framed_of : ℕ → ℕ → ℕ → Bool → ℕ → ℕ → ℕ → List ℕ → Result Ask Refusal
framed_of members ids in_use marked group op m d =
    unless eqb group 1 answer Err BadGroup then  -- 3
    unless usable in_use op answer Err BadOpcode then  -- 4
    unless reaches members op m answer Err NoMember then  -- 5
    unless attended marked op answer Err Marked then
    fields_of ids m op d  -- 7

-- steps 2 to 7, on the bytes of a request; ids is G + S
unfoldable pub ask_of : ℕ → ℕ → ℕ → Bool → List ℕ → Result Ask Refusal
ask_of members ids in_use marked r =
    unless within data_at longest (length r) answer Err BadLength then  -- 2
    framed_of members ids in_use marked (group_of r) (opcode_of r) (target_of r) (data_of r)

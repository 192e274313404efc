-- A reply read as the answer to the command sent: SPEC 3, 4 and 13.1. Assumes nothing.
use Rattle.std.specs.Prelude.{Bool, Option, None, Some, List, ℕ, ◌+◌, ◌*◌, leb, eqb, length, drop}
use Rattle.theory.specs.Logic.{when◌then◌else◌, unless◌answer◌then◌, ◌or◌}
use Rattle.wire.specs.Le.{number}
use Rattle.protocol.specs.Opcodes.{supported}
use Rattle.inventory.specs.Header.{header_size}
use Rattle.parts.specs.declared.ListForm.TheVariants.{Parts}
use Rattle.parts.specs.List.{parts_of, whole}
use Rattle.reply.specs.Reply.{head_size}
use Rattle.host.specs.declared.ResultForm.{ResultForm}
use Rattle.host.specs.declared.ResultForm.TheVariants.{Exactly, Counted, WholeParts}
use Rattle.host.specs.declared.Head.{Head}

-- ---- the length of a reply ----

-- status 2 bytes, qualifier 2, four bytes that are not looked at, result
abbrev pub status_in : List ℕ → ℕ
status_in r = number 0 2 r

abbrev pub qualifier_in : List ℕ → ℕ
qualifier_in r = number 2 2 r

abbrev pub result_in : List ℕ → List ℕ
result_in r = drop head_size r

-- how long the result of a success is. what is the type byte of a metadata command, of which 2 asks for a list; it is
-- not read with another command
unfoldable pub form_of : ℕ → ℕ → ResultForm
form_of op what =
    when eqb op 0x00 then Exactly 8 else
    when eqb op 0x0c then Exactly 8 else
    when eqb op 0x0e then (when eqb what 2 then Counted else Exactly 8) else
    when eqb op 0x0f then WholeParts else
    Exactly 0

-- a metadata list: a count of 4 bytes, 4 bytes more, and as many headers as the count says
unfoldable pub count_fits : List ℕ → Bool
count_fits x = eqb (length x) (8 + header_size * number 0 4 x)

-- a result of parts ends where a part ends
unfoldable pub result_fits : ResultForm → List ℕ → Bool
result_fits (Exactly n) x = eqb (length x) n
result_fits Counted x = count_fits x
result_fits WholeParts x = whole (parts_of Parts x)

-- a success has a result of its form, any other status none
unfoldable pub length_right : ResultForm → ℕ → List ℕ → Bool
length_right form status r = when eqb status 0 then result_fits form (result_in r) else eqb (length r) head_size

-- ---- status and qualifier ----

-- the statuses of SPEC 6.2
unfoldable pub known_status : ℕ → Bool
known_status n = eqb n 0 or eqb n 6 or eqb n 11 or eqb n 12 or eqb n 17 or eqb n 22 or eqb n 28

-- a status that is not known is handled as 22, and a qualifier that is not known as 1
unfoldable pub handled_status : ℕ → ℕ
handled_status n = when known_status n then n else 22

unfoldable pub handled_qualifier : ℕ → ℕ
handled_qualifier n = when leb n 7 then n else 1

-- ---- what is read ----

-- status and qualifier to act on, beside the numbers that were sent
abbrev pub answered : ℕ → ℕ → ℕ → ℕ → Option Head
answered status qualifier sent_status sent_qualifier = Some (record {
  status = status;
  qualifier = qualifier;
  sent_status = sent_status;
  sent_qualifier = sent_qualifier;
})

-- refused is a reply under 8 bytes or of the wrong length for its command and status; an opcode that is none of the ten
-- is no command. The result is result_in
unfoldable pub read_reply : ℕ → ℕ → List ℕ → Option Head
read_reply op what r =
    unless supported op answer None then
    unless leb head_size (length r) answer None then
    unless length_right (form_of op what) (status_in r) r answer None then
    answered (handled_status (status_in r)) (handled_qualifier (qualifier_in r)) (status_in r) (qualifier_in r)

-- A message, whole: SPEC 13.3. What it asks is done to the configuration and the generation of one member, and answered.
-- Assumes nothing.
use Rattle.std.specs.Prelude.{ℕ, ◌+◌, ◌%◌, ◌^◌, Bool, not, leb, List, [], length, nat_eq, nat_le, Option, Some, None}
use Rattle.theory.specs.Logic.{when◌then◌else◌, unless◌answer◌then◌, ◌and◌}
use Rattle.theory.specs.Bytes.{bytes_at, put}
use Rattle.card.specs.Layout.{configuration_size, is_member, is_marked, configuration_in, generation_in, with_configuration}
use Rattle.card.specs.Sound.{is_sound}
use Rattle.message.specs.declared.Access.{Access}
use Rattle.message.specs.declared.Access.TheVariants.{Read, Write}
use Rattle.message.specs.Format.{member_for, data_of, response_of}
use Rattle.message.specs.Access.{whole_of}

-- n bytes from an offset lie within the 12 of a configuration, without wrap
unfoldable pub is_inside : ℕ → ℕ → Bool
is_inside offset n = nat_le (offset + n) configuration_size

-- a read inside gives the bytes, any other none
unfoldable pub readable : List ℕ → ℕ → ℕ → List ℕ
readable configuration offset n = when is_inside offset n then bytes_at offset n configuration else []

-- a write is applied if it has bytes (length 0 is a no-op), was sent with the current generation and is inside
unfoldable pub is_applied : ℕ → ℕ → ℕ → ℕ → Bool
is_applied current sent offset n = leb 1 n and nat_eq sent current and is_inside offset n

-- and moves the generation by one, from 4,294,967,295 to 0
unfoldable pub next_generation : ℕ → ℕ
next_generation current = (current + 1) % 2 ^ 32

-- the card after an applied write, and the response, which has its bytes
unfoldable pub applied_to : List ℕ → ℕ → List ℕ → ℕ → List ℕ × List ℕ
applied_to c m x offset = (
  with_configuration c m (put offset (data_of x) (configuration_in c m)) (next_generation (generation_in c m)),
  response_of x (next_generation (generation_in c m)) offset (data_of x),
)

-- The card after a message, and its response: the generation current after it, the offset sent, and what bytes there are. No
-- response is the bus outcome (02's term)
unfoldable pub act_of : List ℕ → List ℕ → Option Access → List ℕ × List ℕ
act_of c x None = (c, [])
act_of c x (Some (Read m offset n)) = (c, response_of x (generation_in c m) offset (readable (configuration_in c m) offset n))
act_of c x (Some (Write m sent offset n)) =
    unless is_applied (generation_in c m) sent offset n answer (c, response_of x (generation_in c m) offset []) then
    applied_to c m x offset

-- a response that does not fit the buffer is not sent, and then nothing is done
unfoldable pub fitting : List ℕ → ℕ → List ℕ × List ℕ → List ℕ × List ℕ
fitting c room y = unless leb (length y.1) room answer (c, []) then y

-- what a message asks of a card: its device number is below N, so that its member is one of the card's, and that member
-- is not marked (SPEC 13.10). Nothing else of a member's record matters
unfoldable pub access_in : List ℕ → List ℕ → Option Access
access_in c x =
    unless is_member c (member_for x) answer None then
    unless not (is_marked c (member_for x)) answer None then
    whole_of x

-- a message on a card, with room for so many bytes of response: the card after it and the response
unfoldable pub answer_of : List ℕ → List ℕ → ℕ → List ℕ × List ℕ
answer_of c x room =
    unless is_sound c answer (c, []) then
    fitting c room (act_of c x (access_in c x))

-- the same as a call leaves it: the bytes of the response, the card, and the buffer, whose other bytes keep their values
unfoldable pub delivered : List ℕ × List ℕ → List ℕ → ℕ × (List ℕ × List ℕ)
delivered y buffer = (length y.1, (y.0, put 0 y.1 buffer))

unfoldable pub message_of : List ℕ → List ℕ → List ℕ → ℕ × (List ℕ × List ℕ)
message_of c x buffer = delivered (answer_of c x (length buffer)) buffer

-- what the code that writes a response leaves: its length, or 0, and the buffer
unfoldable pub sent_in : List ℕ → List ℕ → ℕ × List ℕ
sent_in response buffer = unless leb (length response) (length buffer) answer (0, buffer) then (length response, put 0 response buffer)

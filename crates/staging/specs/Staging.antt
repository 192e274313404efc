-- Restore in fragments, SPEC 13.6: begin, feed, finish and drop for one member. Each gives the first answer
-- that applies, as a number, and the card after it. Assumes nothing.
use Rattle.std.specs.Prelude.{Result, ⊤, Bool, not, List, ℕ, ◌+◌, ◌*◌, ◌-◌, eqb, ltb, leb, length, take, Ok, Err}
use Rattle.theory.specs.Logic.{unless◌answer◌then◌}
use Rattle.theory.specs.Bytes.{put}
use Rattle.wire.specs.Le.{number}
use Rattle.protocol.specs.declared.Refusal.TheVariants.{BadLength, NoMember, Marked, Exists, NotLive}
use Rattle.protocol.specs.Answers.{status_of, qualifier_of}
use Rattle.std.specs.Result.{result_and}
use Rattle.staging.specs.declared.RestoreError.{RestoreError}
use Rattle.staging.specs.declared.RestoreError.TheVariants.{NotSound, Refused}
use Rattle.member.specs.Record.{holding_size}
use Rattle.member.specs.Member.{with_held}
use Rattle.card.specs.Layout.{is_member, member_in, with_member, is_marked, holding_in, with_holding, no_bytes}
use Rattle.card.specs.Sound.{is_sound}
use Rattle.host.specs.Request.{set_parts}
use Rattle.reply.specs.Reply.{head_size}
use Rattle.admin.specs.Command.{respond}

-- ---- the holding place (02's term) of member m ----

-- 0 for none, k + 1 for an open one of k bytes: an open one of no bytes is not none
abbrev pub held_in : List ℕ → ℕ → ℕ
held_in c m = (member_in c m).held

abbrev pub is_open : List ℕ → ℕ → Bool
is_open c m = ltb 0 (held_in c m)

-- the bytes that it holds, which are the fragments joined
abbrev pub held_bytes : List ℕ → ℕ → List ℕ
held_bytes c m = take (held_in c m - 1) (holding_in c m)

-- the card with this number and these bytes there
unfoldable pub with_held_bytes : List ℕ → ℕ → ℕ → List ℕ → List ℕ
with_held_bytes c m held x = with_holding (with_member c m (with_held (member_in c m) held)) m x

-- the card with the holding place gone, and every byte of it zero
unfoldable pub without_held : List ℕ → ℕ → List ℕ
without_held c m = with_held_bytes c m 0 no_bytes

-- ---- the answers ----

-- of an unsound card; no status is 9
abbrev pub not_sound : ℕ
not_sound = 9

-- 0 for a success, status + 65,536 x qualifier for a refusal
abbrev pub answer_number : Result ⊤ RestoreError → ℕ
answer_number (Ok x) = 0
answer_number (Err NotSound) = not_sound
answer_number (Err (Refused a)) = status_of (Err a) + 65536 * qualifier_of (Err a)

-- before all else: 9 on an unsound card, 22/5 where m is no member, 11/7 where it is marked (02, request 10)
unfoldable pub member_refusal : List ℕ → ℕ → Result ⊤ RestoreError
member_refusal c m =
    unless is_sound c answer Err NotSound then
    unless is_member c m answer Err (Refused NoMember) then
    unless not (is_marked c m) answer Err (Refused Marked) then
    Ok tt

-- then, for feed, finish and drop: 6/1 where nothing is open, whatever is fed
unfoldable pub open_refusal : List ℕ → ℕ → Result ⊤ RestoreError
open_refusal c m =
    result_and (member_refusal c m) (unless is_open c m answer Err (Refused NotLive) then Ok tt)

-- these refusals leave the card as it was; else what is next is done
unfoldable pub if_none : Result ⊤ RestoreError → ℕ × List ℕ → List ℕ → ℕ × List ℕ
if_none (Ok x) next c = next
if_none (Err a) next c = (answer_number (Err a), c)

unfoldable pub on_member : List ℕ → ℕ → ℕ × List ℕ → ℕ × List ℕ
on_member c m next = if_none (member_refusal c m) next c

unfoldable pub on_open : List ℕ → ℕ → ℕ × List ℕ → ℕ × List ℕ
on_open c m next = if_none (open_refusal c m) next c

-- ---- the calls ----

-- 17/1 where one is open; else an empty one is open
abbrev pub opened : List ℕ → ℕ → ℕ × List ℕ
opened c m =
    unless eqb (held_in c m) 0 answer (answer_number (Err (Refused Exists)), c) then
    (answer_number (Ok tt), with_member c m (with_held (member_in c m) 1))

unfoldable pub begin_of : List ℕ → ℕ → ℕ × List ℕ
begin_of c m = on_member c m (opened c m)

-- over 1,024 bytes in all: 22/1, and the holding place is dropped; else the fragment goes behind what is held
abbrev pub joined_to : List ℕ → ℕ → List ℕ → ℕ × List ℕ
joined_to c m x =
    unless leb (held_in c m - 1 + length x) holding_size answer (answer_number (Err (Refused BadLength)), without_held c m) then
    (answer_number (Ok tt), with_held_bytes c m (held_in c m + length x) (put (held_in c m - 1) x (holding_in c m)))

unfoldable pub feed_of : List ℕ → ℕ → List ℕ → ℕ × List ℕ
feed_of c m x = on_open c m (joined_to c m x)

-- the answer that a reply gives, its first four bytes, and the card without the holding place
abbrev pub concluded : ℕ → List ℕ × List ℕ → ℕ × List ℕ
concluded m x = (number 0 4 x.1, without_held x.0 m)

-- what the card answers to one parts set of the joined bytes, and does for it; then the holding place is gone, whatever the
-- answer. A reply to a parts set is the head alone
unfoldable pub finish_of : List ℕ → ℕ → ℕ → ℕ × List ℕ
finish_of c m id = on_open c m (concluded m (respond c (set_parts m id (held_bytes c m)) head_size))

unfoldable pub drop_of : List ℕ → ℕ → ℕ × List ℕ
drop_of c m = on_open c m (answer_number (Ok tt), without_held c m)

-- Setup and the card events (01's term): SPEC 7. Each gives the first answer that applies, and the card after it. Assumes
-- nothing.
use Rattle.std.specs.Prelude.{not, Result, List, ℕ, ◌≤◌, eqb, length, take, replicate, Ok, Err}
use Rattle.theory.specs.Logic.{unless◌answer◌then◌, ◌and◌}
use Rattle.protocol.specs.declared.EventRefusal.TheVariants.{NotSound, NoMember, BadSetup, WrongMark}
use Rattle.protocol.specs.Answers.{EventAnswer, event_number}
use Rattle.inventory.specs.Inventory.{selector_of}
use Rattle.values.specs.Apply.{storable}
use Rattle.member.specs.Member.{features_size, handed_back, with_part}
use Rattle.card.specs.declared.Setup.{Setup}
use Rattle.setups.specs.declared.Setup as setups
use Rattle.setups.specs.declared.ReadRefusal.{ReadRefusal}
use Rattle.card.specs.Layout.{card_size, setup_of, is_member, member_in, with_member, counts_of, is_marked, with_holding, no_bytes, with_fresh, fresh_card}
use Rattle.card.specs.Sound.{is_sound}
use Rattle.setups.specs.Setup.{in_numbers}
use Rattle.setups.specs.Reading.{read_setup}

abbrev pub setup_with : ℕ → ℕ → ℕ → List ℕ → Setup
setup_with members gets sets features = record { members = members; gets = gets; sets = sets; features = features }

-- numbers that fit a setup's bytes
pub record InBounds (members gets sets : ℕ) : Type 0 where
  pub few_members : members ≤ 16
  pub few_gets : gets ≤ 8
  pub few_sets : sets ≤ 8

-- setup, SPEC 7.2: c is the buffer, of which the length alone counts; refused, it becomes zeros. There is one queue count for
-- each member (02, request 9), and a new card starts from generation 0 (02, request 3)
unfoldable pub refused_setup : List ℕ → EventAnswer × List ℕ
refused_setup c = (Err BadSetup, replicate (length c) 0)

unfoldable pub set_up : List ℕ → ℕ → List ℕ → ℕ → ℕ → List ℕ → EventAnswer × List ℕ
set_up c members queues gets sets features =
    unless in_numbers members queues gets sets and eqb (length features) features_size and eqb (length c) (card_size members)
    answer refused_setup c then
    (Ok tt, fresh_card (setup_with members gets sets features) queues 0)

-- setup of the bytes of a packed setup of either version (02, request 9): what setup does with the setup that they hold
unfoldable pub set_up_of : List ℕ → setups.Setup → EventAnswer × List ℕ
set_up_of c s = set_up c s.members (take s.members s.queues) s.gets s.sets s.features

abbrev pub set_up_read : List ℕ → Result setups.Setup ReadRefusal → EventAnswer × List ℕ
set_up_read c (Ok s) = set_up_of c s
set_up_read c (Err r) = refused_setup c

unfoldable pub set_up_from : List ℕ → List ℕ → EventAnswer × List ℕ
set_up_from c l = set_up_read c (read_setup l)

-- an event for one member: refused on a card that is not sound, and for a member that it has not got
unfoldable pub member_answer : List ℕ → ℕ → EventAnswer
member_answer c m =
    unless is_sound c answer Err NotSound then
    unless is_member c m answer Err NoMember then
    Ok tt

-- a refusal leaves what was lent as it was, as the card; else what is next is done
unfoldable pub if_done : {A : Type 0} → EventAnswer → EventAnswer × A → A → EventAnswer × A
if_done (Ok x) next lent = next
if_done (Err e) next lent = (Err e, lent)

unfoldable pub on_member : List ℕ → ℕ → EventAnswer × List ℕ → EventAnswer × List ℕ
on_member c m next = if_done (member_answer c m) next c

-- hand back (02's term, request 10), SPEC 7.3: the member's objects and its holding place end, and it is stopped and marked;
-- its parts, configuration and generation stay
unfoldable pub with_handed_back : List ℕ → ℕ → List ℕ
with_handed_back c m = with_holding (with_member c m (handed_back (member_in c m))) m no_bytes

unfoldable pub hand_back : List ℕ → ℕ → EventAnswer × List ℕ
hand_back c m =
    on_member c m (
    unless not (is_marked c m) answer (Err WrongMark, c) then
    (Ok tt, with_handed_back c m))

-- wipe (02's term): a marked member becomes fresh, with its queue count and the generation given (02, request 3), and nothing
-- else changes
unfoldable pub wipe : List ℕ → ℕ → ℕ → EventAnswer × List ℕ
wipe c m generation =
    on_member c m (
    unless is_marked c m answer (Err WrongMark, c) then
    (Ok tt, with_fresh c m (setup_of c).features generation))

-- member reset, of which these two are the halves; no call does it
unfoldable pub reset_member : List ℕ → ℕ → ℕ → EventAnswer × List ℕ
reset_member c m generation = on_member c m (Ok tt, with_fresh c m (setup_of c).features generation)

-- card reset, SPEC 7.4: one generation for all members, and each keeps its queue count (02, request 9)
unfoldable pub reset_card : List ℕ → ℕ → EventAnswer × List ℕ
reset_card c generation =
    unless is_sound c answer (Err NotSound, c) then
    (Ok tt, fresh_card (setup_of c) (counts_of c) generation)

-- a card store (01's term), SPEC 7.5: the data path sets one part of one member, in either mode; s is the selector, to
-- `store` the 8 selector bytes as a number
unfoldable pub store_in : List ℕ → ℕ → ℕ → ℕ → List ℕ → EventAnswer × List ℕ
store_in c m t s value =
    if_done (storable (member_in c m).queues t s value)
    (Ok tt, with_member c m (with_part (member_in c m) t s value)) c

unfoldable pub store : List ℕ → ℕ → ℕ → ℕ → List ℕ → EventAnswer × List ℕ
store c m t s value = on_member c m (store_in c m t (selector_of t s) value)

-- the answer as its number
abbrev pub numbered : EventAnswer × List ℕ → ℕ × List ℕ
numbered x = (event_number x.0, x.1)

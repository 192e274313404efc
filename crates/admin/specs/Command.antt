-- A command, whole: SPEC 6.1. Assumes nothing.
use Rattle.std.specs.Prelude.{Result, Ok, Err, is_ok, List, [], ℕ, ◌+◌, leb, length}
use Rattle.theory.specs.Logic.{when◌then◌else◌, unless◌answer◌then◌, ◌and◌}
use Rattle.wire.specs.Le.{bytes}
use Rattle.protocol.specs.declared.Refusal.{Refusal}
use Rattle.protocol.specs.declared.Body.{Body}
use Rattle.protocol.specs.Answers.{Answer, outcome_of}
use Rattle.protocol.specs.Opcodes.{supported_mask}
use Rattle.member.specs.declared.Member.{Member}
use Rattle.changes.specs.Changes.{member_after, change_of}
use Rattle.reads.specs.Reads.{read_of}
use Rattle.card.specs.Layout.{setup_of, in_use_of, with_in_use, member_in, with_member, is_marked}
use Rattle.card.specs.Sound.{is_sound}
use Rattle.frame.specs.declared.Ask.{Ask}
use Rattle.frame.specs.declared.Ask.TheVariants.{QueryList, UseList, Read, Change}
use Rattle.frame.specs.Frame.{target_of, asked_list, given_list}
use Rattle.frame.specs.Ask.{ask_of}
use Rattle.reply.specs.Result.{result_given}
use Rattle.reply.specs.Reply.{head_size, final_of, replied, written}

-- steps 2 to 7: what a request asks of this card
unfoldable pub ask_in : List ℕ → List ℕ → Result Ask Refusal
ask_in c r =
    ask_of (setup_of c).members ((setup_of c).gets + (setup_of c).sets) (in_use_of c) (is_marked c (target_of r)) r

-- what a command comes to before its reply is known to fit: its answer, the card if it stands, the result
pub record Effect : Type 0 where
  pub outcome : Answer
  pub card : List ℕ
  pub result : List ℕ

abbrev pub effect : Answer → List ℕ → List ℕ → Effect
effect a c x = record { outcome = a; card = c; result = x }

abbrev pub reading : List ℕ → List ℕ → Member → Result Body Refusal → Effect
reading c list m x = effect (outcome_of x) c (result_given m.queues list m.values x)

abbrev pub changing : List ℕ → ℕ → Result Member Refusal → Effect
changing c m x = effect (outcome_of x) (with_member c m (member_after (member_in c m) x)) []

-- steps 8 to 10
unfoldable pub perform : List ℕ → List ℕ → Result Ask Refusal → Effect
perform c r (Err a) = effect (Err a) c []
perform c r (Ok QueryList) = effect (Ok tt) c (bytes 8 supported_mask)
perform c r (Ok (UseList mask)) = effect (Ok tt) (with_in_use c mask) []
perform c r (Ok (Read m op)) =
    reading c (asked_list r) (member_in c m) (read_of (asked_list r) op (member_in c m))
perform c r (Ok (Change m op)) =
    changing c m (change_of (setup_of c).gets (setup_of c).sets (given_list r) op (member_in c m))

-- steps 11 and 12: the card after, which a refusal leaves as it was, and the reply
unfoldable pub conclude : List ℕ → ℕ → Effect → List ℕ × List ℕ
conclude c room e =
    (when is_ok (final_of e.outcome (length e.result) room) then e.card else c, replied e.outcome e.result room)

-- a command on a card, with room for so many bytes of reply: the card after it and the reply
unfoldable pub respond : List ℕ → List ℕ → ℕ → List ℕ × List ℕ
respond c r room =
    unless leb head_size room and is_sound c answer (c, []) then  -- 1
    conclude c room (perform c r (ask_in c r))

-- the same as a call leaves it: the bytes written, the card, and the buffer
unfoldable pub delivered : List ℕ × List ℕ → List ℕ → ℕ × (List ℕ × List ℕ)
delivered x buffer = ((written x.1 buffer).0, (x.0, (written x.1 buffer).1))

unfoldable pub command_of : List ℕ → List ℕ → List ℕ → ℕ × (List ℕ × List ℕ)
command_of c r buffer = delivered (respond c r (length buffer)) buffer

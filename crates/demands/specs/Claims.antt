-- WHAT IS CLAIMED OF THE CARD. The record Claims at the end lists all claims, by demand, SPEC 9, and by request, SPEC 13, with the
-- file that has each, and ../proofs/Claims.antt proves it. The claims of demands 1 and 3 stand here. All are over the definitions
-- that the contracts of the exported functions cite, or over the same without a lent buffer: respond for command_of, answer_of
-- for message_of. A claim with hypotheses says which example meets them; where no file is named it is in
-- ../proofs/ClaimsExample.antt. Assumes nothing.
use Rattle.std.specs.Prelude.{◌≡◌, ◌≢◌, true, false, List, [], ◌∷◌, ◌++◌, ℕ, ◌+◌, ◌≤◌, ◌<◌, length, take, drop, replicate, Ok}
use Rattle.theory.specs.Machine.{trace, run, seen, visible}
use Rattle.frame.specs.Frame.{opcode_of, target_of}
use Rattle.setups.specs.Claims.{Claims as PackedSetups}
use Rattle.setups.specs.Examples.{SetupsWritten, SetupsRead, MembersAsked}
use Rattle.card.specs.Layout.{in_use_at, record_size, setup_of, is_member, record_at, member_in, counts_of, is_marked}
use Rattle.card.specs.Sound.{is_sound}
use Rattle.events.specs.Events.{setup_with, set_up}
use Rattle.admin.specs.Command.{respond, command_of}
use Rattle.host.specs.Examples.{RequestsBuilt, RepliesRead}
use Rattle.staging.specs.Staging.{drop_of}
use Rattle.staging.specs.Claims.{FinishIsPartsSet, HoldsJoined, CutAnywhere}
use Rattle.difference.specs.Claims.{Claims as MergedLists}
use Rattle.difference.specs.Calls.{CallClaims}
use Rattle.salvage.specs.Claims.{Claims as SalvagedLists}
use Rattle.salvage.specs.Exact.{ExactClaims}
use Rattle.figures.specs.Claims.{HoweverCut, AddsUp, Sheets}
use Rattle.figures.specs.Encoding.{SheetOfCaptures}
use Rattle.figures.specs.Numbers.{ExactNumbers}
use Rattle.figures.specs.SheetTexts.{SheetTexts}
use Rattle.demands.specs.Calls.{Call, command, hand_back, wipe, card_reset, card_store, restore_begin, restore_feed, restore_finish, restore_drop, message, Reply, written, answered, responded, refused, step, names, Resets}
use Rattle.demands.specs.Exports.{ExportsStep}
use Rattle.demands.specs.Fresh.{SetupsDone, ResetsDone}
use Rattle.demands.specs.Stores.{StoresDone}
use Rattle.demands.specs.Statuses.{Statuses}
use Rattle.demands.specs.Reserved.{ReservedIgnored}
use Rattle.demands.specs.Unread.{UnreadIgnored}
use Rattle.demands.specs.PartHeaders.{HeadersNotRead}
use Rattle.demands.specs.Examples.{ExamplesHold}
use Rattle.demands.specs.Numbers.{NumbersHold}
use Rattle.demands.specs.Lengths.{MissingIsZero, RestIsIgnored, NothingInUse, LengthExamplesHold}
use Rattle.demands.specs.QueueSizes.{RingsOnly, QueueExamplesHold}
use Rattle.demands.specs.QueueCounts.{SetUpFromPacked, QueuesKept, CountsInRange, CountExamplesHold}
use Rattle.demands.specs.Halves.{TwoHalves, MarkedRefused, StoresWork, MarkedIdle, HalvesExamplesHold}
use Rattle.demands.specs.WrongPrograms.{WrongProgramsRejected}
use Rattle.demands.specs.RoundTrip.{RoundTrip}
use Rattle.demands.specs.Acceptance.{Acceptance}
use Rattle.demands.specs.Lists.{MembersKnown, MergedSets, FoundCaptured, SalvagedAccepted}
use Rattle.demands.specs.Host.{Taken, ReadBack}
use Rattle.demands.specs.Places.{PlacesFound}
use Rattle.demands.specs.Answered.{MessagesAnswered}
use Rattle.demands.specs.Messages.{Responded, NothingApplied, OnlyConfiguration, ConfigurationKept, MessageExamplesHold}
use Rattle.demands.specs.Holding.{OnlyHolding, HoldingKept, HoldingEnded}
use Rattle.demands.specs.Restores.{RestoreExamplesHold}
use Rattle.demands.specs.Commutation.{Commutation, CommandsCommute}
use Rattle.demands.specs.Loads.{AnsweredExactly, RefusedUnwritten, LoadIsLent, LoadStored, LoadSet, LoadWiped, SetupAgain, ReadAlike, LoadExamplesHold}

-- No call makes a sound card unsound: SPEC 2.4. Example: sound-card
abbrev pub StaysSound : Type 0
StaysSound = (c : List ℕ) (x : Call) → is_sound c ≡ true → is_sound (step c x).0 ≡ true

-- ---- DEMAND 1, SPEC 9.1: every call is safe, whatever bytes it is given, and one that is refused changes nothing. ----

-- That every call ends and touches only what it was lent, the prover shows of each function.

-- With a reply buffer that is shorter than 8 bytes, or with a card that is not sound, nothing is written and the card
-- stays: step 1 of SPEC 6.1. Examples: short-buffer, unsound-card
pub record NotWritten : Type 0 where
  pub short_buffer : (c r b : List ℕ) → length b < 8 → command_of c r b ≡ (0, (c, b))
  pub unsound_card : (c r b : List ℕ) → is_sound c ≡ false → command_of c r b ≡ (0, (c, b))

-- On a card that is not sound nothing is done, whatever is called: a command writes nothing, a message gets the bus outcome, and
-- every other call answers 9. Example: unsound-card
unfoldable pub unsound_reply : Call → Reply
unsound_reply (command r room) = written []
unsound_reply (hand_back m) = answered 9
unsound_reply (wipe m generation) = answered 9
unsound_reply (card_reset generation) = answered 9
unsound_reply (card_store m t s value) = answered 9
unsound_reply (restore_begin m) = answered 9
unsound_reply (restore_feed m x) = answered 9
unsound_reply (restore_finish m id) = answered 9
unsound_reply (restore_drop m) = answered 9
unsound_reply (message x room) = responded []

abbrev pub UnsoundRefused : Type 0
UnsoundRefused = (c : List ℕ) (x : Call) → is_sound c ≡ false → step c x ≡ (c, unsound_reply x)

-- What a command leaves is the card and the reply that `respond` gives for the buffer's length: the reply lies within
-- the buffer, as many bytes as are reported, and the rest of the buffer is left as it was: SPEC 3.3
pub record Delivers (c r b : List ℕ) : Type 0 where
  pub card : (command_of c r b).1.0 ≡ (respond c r (length b)).0
  pub reported : (command_of c r b).0 ≡ length (respond c r (length b)).1
  pub within : (command_of c r b).0 ≤ length b
  pub buffer : (command_of c r b).1.1 ≡ (respond c r (length b)).1 ++ drop (command_of c r b).0 b

abbrev pub Delivered : Type 0
Delivered = (c r b : List ℕ) → Delivers c r b

-- After a refusal the card is what it was, whatever bytes it is: SPEC 6.1 and 7.1. The exceptions, SPEC 13.6: a feed
-- that is too long and a finish that is refused leave it as a drop does, which is as it stood where nothing is begun,
-- and else with the holding place gone. Examples: refused-command; refused-feed and refused-finish in
-- ../proofs/RestoreExample.antt
unfoldable pub after_refusal : List ℕ → Call → List ℕ
after_refusal c (command r room) = c
after_refusal c (hand_back m) = c
after_refusal c (wipe m generation) = c
after_refusal c (card_reset generation) = c
after_refusal c (card_store m t s value) = c
after_refusal c (restore_begin m) = c
after_refusal c (restore_feed m x) = (drop_of c m).1
after_refusal c (restore_finish m id) = (drop_of c m).1
after_refusal c (restore_drop m) = c
after_refusal c (message x room) = c

abbrev pub RefusalsChangeNothing : Type 0
RefusalsChangeNothing = (c : List ℕ) (x : Call) → refused (step c x).1 ≡ true → (step c x).0 ≡ after_refusal c x

-- Setup, done, gives a sound card of this setup, with this queue count for each member; refused, it makes every byte of
-- the buffer zero, and zeros are not sound: SPEC 7.2. Examples: setup-done, setup-refused
pub record SetsUp : Type 0 where
  pub done : (b : List ℕ) (n : ℕ) (q : List ℕ) (g s : ℕ) (f : List ℕ) → (set_up b n q g s f).0 ≡ Ok tt
      → (is_sound (set_up b n q g s f).1 ≡ true)
      × (setup_of (set_up b n q g s f).1 ≡ setup_with n g s f)
      × (counts_of (set_up b n q g s f).1 ≡ q)
  pub refused : (b : List ℕ) (n : ℕ) (q : List ℕ) (g s : ℕ) (f : List ℕ) → (set_up b n q g s f).0 ≢ Ok tt
      → (set_up b n q g s f).1 ≡ replicate (length b) 0
  pub zeros : (n : ℕ) → is_sound (replicate n 0) ≡ false

-- ---- DEMAND 3, SPEC 9.3: after a reset of member m nothing of its former guest can be observed. ----

-- two lists with the same bytes but for these
pub record SameOutside (at size : ℕ) (c d : List ℕ) : Type 0 where
  pub before : take at c ≡ take at d
  pub after : drop (at + size) c ≡ drop (at + size) d

-- two cards that differ in member m's record at most
abbrev pub DifferAtMost : ℕ → List ℕ → List ℕ → Type 0
DifferAtMost m c d = SameOutside (record_at m) record_size c d

-- Two sound cards differ in member m's record at most, and m's mark and its queue count are the same in both. Two
-- sequences of calls, p₁ then r then t on the one and p₂ then r then t on the other: r resets m, by its reply on the
-- first card, t is any, and p₁ and p₂ are the same once every call that names m is struck out of both. No hand back and
-- no wipe is. Then the replies, one by one, to all calls before r that do not name m are the same on both cards, and so
-- are the reply to r and to every call after it, and the whole card after r and after each later call. Example:
-- ../proofs/IsolationExample.antt
abbrev pub Isolation : Type 0
Isolation =
    (c₁ c₂ : List ℕ) → is_sound c₁ ≡ true → is_sound c₂ ≡ true
    → (m : ℕ) → is_member c₁ m ≡ true → DifferAtMost m c₁ c₂
    → is_marked c₁ m ≡ is_marked c₂ m → (member_in c₁ m).queues ≡ (member_in c₂ m).queues
    → (p₁ p₂ : List Call) → visible (names m) p₁ ≡ visible (names m) p₂
    → (r : Call) → Resets m r (step (run step c₁ p₁) r).1 → (t : List Call)
    → seen (names m) (length p₁) (trace step c₁ (p₁ ++ r ∷ t)) ≡ seen (names m) (length p₂) (trace step c₂ (p₂ ++ r ∷ t))

-- The calls that only read, SPEC 14, are no calls of a sequence. Under the same hypotheses all of them tell the same of both
-- cards, after r and after every later call. Example: ../proofs/LoadsExample.antt
abbrev pub LoadsIsolated : Type 0
LoadsIsolated =
    (d₁ d₂ : List ℕ) → is_sound d₁ ≡ true → is_sound d₂ ≡ true
    → (m : ℕ) → is_member d₁ m ≡ true → DifferAtMost m d₁ d₂
    → is_marked d₁ m ≡ is_marked d₂ m → (member_in d₁ m).queues ≡ (member_in d₂ m).queues
    → (p₁ p₂ : List Call) → visible (names m) p₁ ≡ visible (names m) p₂
    → (r : Call) → Resets m r (step (run step d₁ p₁) r).1 → (t : List Call)
    → ReadAlike (run step d₁ (p₁ ++ r ∷ t)) (run step d₂ (p₂ ++ r ∷ t))

-- Integrity, SPEC 9.4, beside isolation, on any card: what a call leaves alone. Examples: names-member, uses-list,
-- sets-parts
pub record Integrity : Type 0 where
  -- one that names m, a hand back of m and a wipe of m changes m's record at most: the setup, the list in use and every
  -- other record stay
  pub named : (c : List ℕ) (m : ℕ) (x : Call) → names m x ≡ true → DifferAtMost m (step c x).0 c
  pub handed_back : (c : List ℕ) (m : ℕ) → DifferAtMost m (step c (hand_back m)).0 c
  pub wiped : (c : List ℕ) (m generation : ℕ) → DifferAtMost m (step c (wipe m generation)).0 c
  -- list use changes the list in use alone
  pub list_use : (c r : List ℕ) (room : ℕ) → opcode_of r ≡ 0x01 → SameOutside in_use_at 8 (step c (command r room)).0 c
  -- parts set keeps the member's mode and objects
  pub parts_set : (c r : List ℕ) (room : ℕ) → opcode_of r ≡ 0x10
      → ((member_in (step c (command r room)).0 (target_of r)).mode ≡ (member_in c (target_of r)).mode)
      × ((member_in (step c (command r room)).0 (target_of r)).objects ≡ (member_in c (target_of r)).objects)

-- ---- all claims ----

pub record Claims : Type 1 where
  pub stays_sound : StaysSound
  -- DEMAND 1. What the exported functions give is the step of a sequence: Exports.antt
  pub not_written : NotWritten
  pub unsound_refused : UnsoundRefused
  pub delivered : Delivered
  pub exported : ExportsStep
  pub refusals : RefusalsChangeNothing
  pub sets_up : SetsUp
  -- when setup and a card store are done, and what they leave; what resets leave: Fresh.antt and Stores.antt, with the examples
  -- ../proofs/FreshExample.antt and ../proofs/StoresExample.antt
  pub setups_done : SetupsDone
  pub resets_done : ResetsDone
  pub stores_done : StoresDone
  -- DEMAND 2, SPEC 9.2: every answer, and the card after it, is the specified one, and a full capture can be set.
  -- Which status a command gets: Statuses.antt, with the example ../proofs/StatusesExample.antt
  pub statuses : Statuses
  -- the reserved bytes of a request are ignored: Reserved.antt; and what is not read of the header of a part: PartHeaders.antt
  pub reserved_ignored : ReservedIgnored
  -- and with them the member field of list query and list use: Unread.antt
  pub unread_ignored : UnreadIgnored
  pub headers_not_read : HeadersNotRead
  -- the worked examples B1 to B12, and the wrong programs that fail them: Examples.antt, WrongPrograms.antt, with the example
  -- ../proofs/WrongProgramsExample.antt
  pub examples : ExamplesHold
  pub wrong_programs : WrongProgramsRejected
  -- worked examples N1 to N9, of the numbers that stand nowhere else: Numbers.antt
  pub numbers : NumbersHold
  -- the round trip: RoundTrip.antt, with the example ../proofs/RoundTripExample.antt
  pub round_trip : RoundTrip
  -- and its first half by itself, which asks less of the target: Acceptance.antt
  pub acceptance : Acceptance
  -- DEMAND 3
  pub isolation : Isolation
  pub integrity : Integrity
  -- REQUEST 1, the host's half: a built request is taken, and whatever is answered to it is read. Host.antt, with the example
  -- ../proofs/HostExample.antt. The round trip is by built requests
  pub taken : Taken
  pub read_back : ReadBack
  -- requests byte by byte, and replies that are read and refused: host/specs/Examples.antt
  pub requests_built : RequestsBuilt
  pub replies_read : RepliesRead
  -- REQUEST 2, requests of any length: Lengths.antt, and its worked examples L1 to L15
  pub missing_is_zero : MissingIsZero
  pub rest_is_ignored : RestIsIgnored
  pub nothing_in_use : NothingInUse
  pub length_examples : LengthExamplesHold
  -- REQUEST 3, configuration by message: what a message leaves, what it touches, and what else touches a configuration.
  -- Messages.antt, and its worked examples M1 to M12; which messages are answered, and what they do: Answered.antt, with the
  -- example ../proofs/AnsweredExample.antt
  pub messages_answered : MessagesAnswered
  pub responded : Responded
  pub nothing_applied : NothingApplied
  pub only_configuration : OnlyConfiguration
  pub configuration_kept : ConfigurationKept
  pub message_examples : MessageExamplesHold
  -- REQUEST 4, the place of a part: Places.antt, with the example ../proofs/PlacesExample.antt
  pub places_found : PlacesFound
  -- REQUEST 5, queue sizes that no ring has: what a sound card holds. QueueSizes.antt, and its worked examples S1 to S6. That
  -- every call keeps it is stays_sound, and that a capture can still be set round_trip
  pub rings_only : RingsOnly
  pub queue_examples : QueueExamplesHold
  -- REQUEST 6, a restore in fragments: what finish does, what is held, and that it does not matter how the bytes are cut.
  -- staging/specs/Claims.antt, and what these calls touch and who ends a holding place: Holding.antt, with the example
  -- ../proofs/RestoreExample.antt; and the worked examples R1 to R9 of Restores.antt
  pub finish_is_parts_set : FinishIsPartsSet
  pub holds_joined : HoldsJoined
  pub cut_anywhere : CutAnywhere
  pub only_holding : OnlyHolding
  pub holding_kept : HoldingKept
  pub holding_ended : HoldingEnded
  pub restore_examples : RestoreExamplesHold
  -- what a packed setup says of a member, by which requests 7 and 8 go: Lists.antt
  pub members_known : MembersKnown
  -- REQUEST 7, a night's difference: when each call is done and by which number it is refused, the list made of two, and what is
  -- looked up in them. difference/specs/Claims.antt, on a member's values, and Lists.antt, on commands, with the examples
  -- difference/proofs/Example.antt and ../proofs/ListsExample.antt
  pub merged_lists : MergedLists
  pub lists_called : CallClaims
  pub merged_sets : MergedSets
  pub found_captured : FoundCaptured
  -- REQUEST 8, salvage of a torn capture: when it is done, what is written, kept, filled, dropped and left over, and that a
  -- stopped member takes it. salvage/specs/Claims.antt and Lists.antt, with the examples salvage/proofs/Example.antt and
  -- ../proofs/ListsExample.antt
  pub salvaged_lists : SalvagedLists
  pub salvaged_exactly : ExactClaims
  pub salvaged_accepted : SalvagedAccepted
  -- REQUEST 9, setups that outlive a release: what is written and what is read, by numbers alone; what is written reads back the
  -- same, and is written back; a refusal writes nothing, what is read is in range. setups/specs/Claims.antt, with the example
  -- setups/proofs/AcceptedExample.antt, and the worked examples of setups/specs/Examples.antt
  pub packed_setups : PackedSetups
  pub setups_written : SetupsWritten
  pub setups_read : SetupsRead
  pub members_asked : MembersAsked
  -- and on a card: QueueCounts.antt, and its worked examples Q1 to Q4
  pub set_up_from_packed : SetUpFromPacked
  pub queues_kept : QueuesKept
  pub counts_in_range : CountsInRange
  pub count_examples : CountExamplesHold
  -- REQUEST 10, reset in two halves: Halves.antt, and its worked examples H1 to H6, with the example ../proofs/HalvesExample.antt
  pub two_halves : TwoHalves
  pub marked_refused : MarkedRefused
  pub stores_work : StoresWork
  pub marked_idle : MarkedIdle
  pub halves_examples : HalvesExamplesHold
  -- REQUEST 11, a year of captures in figures: however a stream is cut, feeding the chunks gives the sheet of the whole; its lines
  -- add up; and the sheets that 02 gives. figures/specs/Claims.antt, with the example figures/proofs/Example.antt
  pub however_cut : HoweverCut
  pub adds_up : AddsUp
  pub sheets : Sheets
  -- numbers are exact, sheets stand as text, and a sheet is that of the captures that are joined in the stream: Numbers.antt,
  -- SheetTexts.antt and Encoding.antt of figures/specs, with the example figures/proofs/EncodingExample.antt
  pub exact_numbers : ExactNumbers
  pub sheet_texts : SheetTexts
  pub sheet_of_captures : SheetOfCaptures
  -- REQUEST 12, commands from two hosts: Commutation.antt, with the example ../proofs/CommutationExample.antt
  pub commutation : Commutation
  pub commands_commute : CommandsCommute
  -- CALLS FOR THE CARD'S OWN FIRMWARE, which only read: exactly when each answers 0, what it gives after a store, a list that is
  -- set and a wipe, a setup that is set up anew, and demand 3. Loads.antt, and its worked examples F1 to F7, with the example
  -- ../proofs/LoadsExample.antt
  pub answered_exactly : AnsweredExactly
  pub refused_unwritten : RefusedUnwritten
  pub load_is_lent : LoadIsLent
  pub load_stored : LoadStored
  pub load_set : LoadSet
  pub load_wiped : LoadWiped
  pub setup_again : SetupAgain
  pub loads_isolated : LoadsIsolated
  pub load_examples : LoadExamplesHold

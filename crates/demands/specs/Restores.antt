-- REQUEST 6, SPEC 13.6: worked examples of a restore in fragments, on the card of Examples.antt and in its form; every answer of
-- the four calls. Assumes nothing.
use Rattle.std.specs.Prelude.{◌≡◌, List, [], ◌∷◌, ◌++◌, map, ℕ, ◌+◌, ◌*◌, take, drop, replicate}
use Rattle.theory.specs.Machine.{replies}
use Rattle.host.specs.Request.{set_parts}
use Rattle.demands.specs.Calls.{Call, hand_back, restore_begin, restore_feed, restore_finish, restore_drop, Reply, answered, step}
use Rattle.demands.specs.Examples.{example_card, send, use_list, set_mode, objects_live, get_selected, refuses, gives, succeeds, header, header_bytes, status_part, Example, example, replies_to}

-- status and qualifier, as these calls answer them
abbrev pub answers : ℕ → ℕ → Reply
answers status qualifier = answered (status + 65536 * qualifier)

-- get object 0 and set object 1 are live, and the member is stopped
abbrev pub stopped_live : List Call
stopped_live = objects_live ++ set_mode 1 1 ∷ []

-- the device status is asked for
abbrev pub get_status : Call
get_status = get_selected 0 (header_bytes (header 0x103 0 0 0))

unfoldable pub restore_examples : List Example
restore_examples =
    -- R1 no member 0 and no member 3: 22/5, before all else
    example [] (restore_begin 0 ∷ restore_begin 3 ∷ restore_feed 3 (replicate 1025 0) ∷ restore_finish 3 1 ∷ restore_drop 3 ∷ [])
    (answers 22 5 ∷ answers 22 5 ∷ answers 22 5 ∷ answers 22 5 ∷ answers 22 5 ∷ [])
    -- R2 nothing begun: 6/1, whatever is fed
    ∷ example [] (restore_feed 1 [] ∷ restore_feed 1 (replicate 1025 0) ∷ restore_finish 1 9 ∷ restore_drop 1 ∷ [])
    (answers 6 1 ∷ answers 6 1 ∷ answers 6 1 ∷ answers 6 1 ∷ [])
    -- R3 begun twice: 17/1, and the first is still open
    ∷ example [] (restore_begin 1 ∷ restore_begin 1 ∷ restore_drop 1 ∷ restore_drop 1 ∷ [])
    (answers 0 0 ∷ answers 17 1 ∷ answers 0 0 ∷ answers 6 1 ∷ [])
    -- R4 1,024 bytes in all are held, and one more is too many: 22/1, and nothing is open
    ∷ example [] (restore_begin 1 ∷ restore_feed 1 (replicate 1000 0) ∷ restore_feed 1 (replicate 24 0) ∷ restore_feed 1 [] ∷ restore_feed 1 (0 ∷ []) ∷ restore_drop 1 ∷ [])
    (answers 0 0 ∷ answers 0 0 ∷ answers 0 0 ∷ answers 0 0 ∷ answers 22 1 ∷ answers 6 1 ∷ [])
    -- R5 the device status in three fragments: it is set, and nothing is open; another list can be begun
    ∷ example stopped_live
    (restore_begin 1 ∷ restore_feed 1 (take 3 status_part) ∷ restore_feed 1 [] ∷ restore_feed 1 (drop 3 status_part) ∷ restore_finish 1 1
    ∷ get_status ∷ restore_drop 1 ∷ restore_begin 1 ∷ [])
    (answers 0 0 ∷ answers 0 0 ∷ answers 0 0 ∷ answers 0 0 ∷ answers 0 0 ∷ gives status_part ∷ answers 6 1 ∷ answers 0 0 ∷ [])
    -- R6 a finish that is refused ends it all the same: an id that is not valid, the get object, a bad list; the empty list succeeds
    ∷ example stopped_live
    (restore_begin 1 ∷ restore_finish 1 9 ∷ restore_begin 1 ∷ restore_finish 1 0 ∷ restore_begin 1 ∷ restore_feed 1 (0 ∷ []) ∷ restore_finish 1 1
    ∷ restore_finish 1 1 ∷ restore_begin 1 ∷ restore_finish 1 1 ∷ [])
    (answers 0 0 ∷ answers 22 3 ∷ answers 0 0 ∷ answers 22 3 ∷ answers 0 0 ∷ answers 0 0 ∷ answers 22 3
    ∷ answers 6 1 ∷ answers 0 0 ∷ answers 0 0 ∷ [])
    -- R7 an id that is valid and not live: 6/1, as nothing begun; and parts set is not in use: 22/2
    ∷ example (use_list 0x3fc03 ∷ set_mode 1 1 ∷ [])
    (restore_begin 1 ∷ restore_finish 1 1 ∷ use_list 3 ∷ restore_begin 1 ∷ restore_finish 1 1 ∷ restore_drop 1 ∷ [])
    (answers 0 0 ∷ answers 6 1 ∷ succeeds ∷ answers 0 0 ∷ answers 22 2 ∷ answers 6 1 ∷ [])
    -- R8 a member that runs: begin, feed and drop leave it running, and so does the finish that is refused for that, 11/7
    ∷ example objects_live
    (restore_begin 1 ∷ restore_feed 1 status_part ∷ send (set_parts 1 1 status_part) ∷ restore_drop 1 ∷ send (set_parts 1 1 status_part)
    ∷ restore_begin 1 ∷ restore_feed 1 status_part ∷ restore_finish 1 1 ∷ send (set_parts 1 1 status_part) ∷ [])
    (answers 0 0 ∷ answers 0 0 ∷ refuses 11 7 ∷ answers 0 0 ∷ refuses 11 7
    ∷ answers 0 0 ∷ answers 0 0 ∷ answers 11 7 ∷ refuses 11 7 ∷ [])
    -- R9 a member that is marked: 11/7, right after 22/5
    ∷ example (restore_begin 1 ∷ hand_back 1 ∷ [])
    (restore_begin 1 ∷ restore_feed 1 [] ∷ restore_finish 1 1 ∷ restore_drop 1 ∷ restore_begin 3 ∷ [])
    (answers 11 7 ∷ answers 11 7 ∷ answers 11 7 ∷ answers 11 7 ∷ answers 22 5 ∷ [])
    ∷ []

-- the whole table; and on a card that is not sound all four answer 9, before all else
pub record RestoreExamplesHold : Type 0 where
  pub table : map (replies_to step example_card) restore_examples ≡ map (λ (e : Example). e.expected) restore_examples
  pub unsound : replies step (replicate 27 0) (restore_begin 3 ∷ restore_feed 3 (replicate 1025 0) ∷ restore_finish 3 9 ∷ restore_drop 3 ∷ [])
      ≡ answered 9 ∷ answered 9 ∷ answered 9 ∷ answered 9 ∷ []

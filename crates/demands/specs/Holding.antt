-- REQUEST 6, SPEC 13.6: what is claimed of a holding place and the calls of the other sections. Assumes nothing.
use Rattle.std.specs.Prelude.{◌≡◌, true, false, List, ℕ}
use Rattle.card.specs.Layout.{is_member, member_in, configuration_in, generation_in, holding_in}
use Rattle.card.specs.Sound.{is_sound}
use Rattle.host.specs.Request.{set_parts}
use Rattle.staging.specs.Staging.{is_open, held_bytes}
use Rattle.demands.specs.Calls.{command, hand_back, wipe, card_reset, card_store, restore_begin, restore_feed, restore_finish, restore_drop, refused, step}

-- member m's holding place holds the same bytes in two cards, or is in neither
pub record SameHolding (c d : List ℕ) (m : ℕ) : Type 0 where
  pub held : (member_in d m).held ≡ (member_in c m).held
  pub bytes : holding_in d m ≡ holding_in c m

-- No command and no card store touches a holding place, whomever it is for: the four calls, hand back and the resets alone do.
-- Example: member-begun in ../proofs/RestoreExample.antt
pub record HoldingKept : Type 0 where
  pub commands : (c : List ℕ) (m : ℕ) → is_member c m ≡ true → (r : List ℕ) (room : ℕ) → SameHolding c (step c (command r room)).0 m
  pub card_stores : (c : List ℕ) (m : ℕ) → is_member c m ≡ true → (k t s : ℕ) (value : List ℕ) → SameHolding c (step c (card_store k t s value)).0 m

-- member m is the same in two cards, whatever its holding place is
pub record SameButHolding (c d : List ℕ) (m : ℕ) : Type 0 where
  pub mode : (member_in d m).mode ≡ (member_in c m).mode
  pub mark : (member_in d m).marked ≡ (member_in c m).marked
  pub queues : (member_in d m).queues ≡ (member_in c m).queues
  pub objects : (member_in d m).objects ≡ (member_in c m).objects
  pub values : (member_in d m).values ≡ (member_in c m).values
  pub configuration : configuration_in d m ≡ configuration_in c m
  pub generation : generation_in d m ≡ generation_in c m

-- Begin, feed and drop, refused or not, and a finish that is refused change nothing of m but its holding place; a finish changes
-- nothing else of what the parts set leaves that it is. What they leave of all else is Integrity. Examples: member-begun and
-- refused-finish in ../proofs/RestoreExample.antt
pub record OnlyHolding : Type 0 where
  pub begins : (c : List ℕ) (m : ℕ) → SameButHolding c (step c (restore_begin m)).0 m
  pub feeds : (c : List ℕ) (m : ℕ) (x : List ℕ) → SameButHolding c (step c (restore_feed m x)).0 m
  pub drops : (c : List ℕ) (m : ℕ) → SameButHolding c (step c (restore_drop m)).0 m
  pub refused_finishes : (c : List ℕ) (m id : ℕ) → refused (step c (restore_finish m id)).1 ≡ true
      → SameButHolding c (step c (restore_finish m id)).0 m
  pub finishes : (c : List ℕ) (m id : ℕ) → is_sound c ≡ true → is_member c m ≡ true → is_open c m ≡ true
      → SameButHolding (step c (command (set_parts m id (held_bytes c m)) 8)).0 (step c (restore_finish m id)).0 m

-- After a finish or a drop for m on a sound card, whatever the answer, and after a feed that is refused, m has no holding place;
-- nor has it after a hand back or a wipe of m that is done, and no member has after a reset of the card that is done. Examples:
-- member-begun, refused-feed, done-back, done-wipe and done-reset in ../proofs/RestoreExample.antt
pub record HoldingEnded : Type 0 where
  pub finishes : (c : List ℕ) (m id : ℕ) → is_sound c ≡ true → is_member c m ≡ true
      → (member_in (step c (restore_finish m id)).0 m).held ≡ 0
  pub drops : (c : List ℕ) (m : ℕ) → is_sound c ≡ true → is_member c m ≡ true → (member_in (step c (restore_drop m)).0 m).held ≡ 0
  pub feeds : (c : List ℕ) (m : ℕ) (x : List ℕ) → is_sound c ≡ true → is_member c m ≡ true
      → refused (step c (restore_feed m x)).1 ≡ true → (member_in (step c (restore_feed m x)).0 m).held ≡ 0
  pub hand_backs : (c : List ℕ) (m : ℕ) → refused (step c (hand_back m)).1 ≡ false → (member_in (step c (hand_back m)).0 m).held ≡ 0
  pub wipes : (c : List ℕ) (m generation : ℕ) → refused (step c (wipe m generation)).1 ≡ false
      → (member_in (step c (wipe m generation)).0 m).held ≡ 0
  pub card_resets : (c : List ℕ) (generation m : ℕ) → is_member c m ≡ true → refused (step c (card_reset generation)).1 ≡ false
      → (member_in (step c (card_reset generation)).0 m).held ≡ 0

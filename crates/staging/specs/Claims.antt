-- WHAT IS CLAIMED of a restore in fragments: SPEC 13.6. demands/proofs/RestoreExample.antt has a card that meets the hypotheses.
-- Assumes nothing.
use Rattle.std.specs.Prelude.{◌≡◌, true, false, List, [], ◌∷◌, ◌++◌, ℕ, ◌+◌, ◌*◌, ◌^◌, ◌≤◌, ◌<◌, length}
use Rattle.wire.specs.Le.{number}
use Rattle.member.specs.Record.{holding_size}
use Rattle.card.specs.Layout.{is_member, is_marked}
use Rattle.card.specs.Sound.{is_sound}
use Rattle.host.specs.Request.{set_parts}
use Rattle.admin.specs.Command.{respond}
use Rattle.staging.specs.Staging.{held_in, is_open, held_bytes, without_held, begin_of, feed_of, finish_of}

-- With a holding place open, finish answers the status and qualifier that one parts set of its bytes, with this id, gets on
-- that card, in a reply buffer of any length from 8 on, and leaves the card that this command leaves, with the holding
-- place gone
pub record SetsParts (c : List ℕ) (m id room : ℕ) : Type 0 where
  pub answer : (finish_of c m id).0
      ≡ number 0 2 (respond c (set_parts m id (held_bytes c m)) room).1
      + 65536 * number 2 2 (respond c (set_parts m id (held_bytes c m)) room).1
  pub card : (finish_of c m id).1 ≡ without_held (respond c (set_parts m id (held_bytes c m)) room).0 m

abbrev pub FinishIsPartsSet : Type 0
FinishIsPartsSet =
    (c : List ℕ) (m id room : ℕ) → is_sound c ≡ true → is_member c m ≡ true → is_open c m ≡ true → id < 256 ^ 4 → 8 ≤ room
    → SetsParts c m id room

-- fragments joined, and the card after all of them are fed
unfoldable pub joined : List (List ℕ) → List ℕ
joined [] = []
joined (x ∷ xs) = x ++ joined xs

unfoldable pub fed : ℕ → List ℕ → List (List ℕ) → List ℕ
fed m c [] = c
fed m c (x ∷ xs) = fed m (feed_of c m x).1 xs

-- After begin and the feeds the fragments are held joined, in their order, where the member is not marked
abbrev pub HoldsJoined : Type 0
HoldsJoined =
    (c : List ℕ) (m : ℕ) → is_sound c ≡ true → is_member c m ≡ true → is_marked c m ≡ false → held_in c m ≡ 0
    → (xs : List (List ℕ)) → length (joined xs) ≤ holding_size
    → held_bytes (fed m (begin_of c m).1 xs) m ≡ joined xs

-- begin, the feeds and finish: the answer of finish and the card after it
abbrev pub restored : List ℕ → ℕ → ℕ → List (List ℕ) → ℕ × List ℕ
restored c m id xs = finish_of (fed m (begin_of c m).1 xs) m id

-- With nothing open at the start and no other call between: however at most 1,024 bytes are cut, the answer of finish and
-- the card are the same
abbrev pub CutAnywhere : Type 0
CutAnywhere =
    (c : List ℕ) (m id : ℕ) → is_sound c ≡ true → is_member c m ≡ true → held_in c m ≡ 0
    → (xs ys : List (List ℕ)) → joined xs ≡ joined ys → length (joined xs) ≤ holding_size
    → restored c m id xs ≡ restored c m id ys

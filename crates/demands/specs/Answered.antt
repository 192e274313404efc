-- REQUEST 3, SPEC 13.3: which messages are answered, and what they do. The numbers are those of the papers, apart from the
-- definitions. Examples: ../proofs/AnsweredExample.antt. Assumes nothing.
use Rattle.std.specs.Prelude.{◌≡◌, true, false, List, [], ◌++◌, ℕ, ◌+◌, ◌%◌, ◌≤◌, ◌<◌, length, get_or, take, drop}
use Rattle.wire.specs.Le.{number}
use Rattle.card.specs.Layout.{setup_of, member_in, configuration_in, generation_in}
use Rattle.card.specs.Sound.{is_sound}
use Rattle.message.specs.Format.{response_of}
use Rattle.message.specs.Message.{message_of}
use Rattle.demands.specs.Calls.{Reply, message, responded, step}

-- ---- the two requests ----

-- the header of a request to device number d: the two low bits of its type are clear, its size is the number of bytes handed over
pub record Header (x : List ℕ) (id d : ℕ) : Type 0 where
  pub request : get_or x 0 0 % 4 ≡ 0
  pub kind : get_or x 1 0 ≡ id
  pub device : number 2 2 x ≡ d
  pub size : number 6 2 x ≡ length x

-- GET_CONFIG, of n bytes from an offset
pub record ReadRequest (x : List ℕ) (d offset n : ℕ) : Type 0 where
  pub header : Header x 0x05 d
  pub long : length x ≡ 16
  pub from : number 8 4 x ≡ offset
  pub count : number 12 4 x ≡ n

-- SET_CONFIG, of these bytes from an offset, with a generation
pub record WriteRequest (x : List ℕ) (d sent offset : ℕ) (bs : List ℕ) : Type 0 where
  pub header : Header x 0x06 d
  pub long : length x ≡ 20 + length bs
  pub generation : number 8 4 x ≡ sent
  pub from : number 12 4 x ≡ offset
  pub count : number 16 4 x ≡ length bs
  pub bytes : drop 20 x ≡ bs

-- ---- what is done ----

-- device number d speaks for member d + 1 of a sound card, which is not marked
pub record Reaches (c : List ℕ) (d : ℕ) : Type 0 where
  pub sound : is_sound c ≡ true
  pub here : d < (setup_of c).members
  pub unmarked : (member_in c (d + 1)).marked ≡ false

-- the bytes stand in the configuration, the generation has moved by one, and the response has both
pub record Applied (c x : List ℕ) (m offset : ℕ) (bs d : List ℕ) (r : Reply) : Type 0 where
  pub written : configuration_in d m ≡ take offset (configuration_in c m) ++ (bs ++ drop (offset + length bs) (configuration_in c m))
  pub moved : generation_in c m < 4294967295 → generation_in d m ≡ generation_in c m + 1
  pub around : generation_in c m ≡ 4294967295 → generation_in d m ≡ 0
  pub told : r ≡ responded (response_of x (generation_in d m) offset bs)

-- A message that is answered: a read inside the 12 bytes with these bytes and the generation, one past them with none; a write of
-- bytes inside them, sent with the current generation, is applied, any other is not
pub record Answered (c : List ℕ) (d : ℕ) (x : List ℕ) (room : ℕ) : Type 0 where
  pub reads : (offset n : ℕ) → ReadRequest x d offset n → offset + n ≤ 12 → 20 + n ≤ room
      → step c (message x room)
      ≡ (c, responded (response_of x (generation_in c (d + 1)) offset (take n (drop offset (configuration_in c (d + 1))))))
  pub reads_past : (offset n : ℕ) → ReadRequest x d offset n → 12 < offset + n → 20 ≤ room
      → step c (message x room) ≡ (c, responded (response_of x (generation_in c (d + 1)) offset []))
  pub writes : (offset : ℕ) (bs : List ℕ) → WriteRequest x d (generation_in c (d + 1)) offset bs → 1 ≤ length bs
      → offset + length bs ≤ 12 → 20 + length bs ≤ room
      → Applied c x (d + 1) offset bs (step c (message x room)).0 (step c (message x room)).1
  pub not_applied : (sent offset : ℕ) (bs : List ℕ) → WriteRequest x d sent offset bs
      → (1 ≤ length bs → sent ≡ generation_in c (d + 1) → offset + length bs ≤ 12 → ⊥) → 20 ≤ room
      → step c (message x room) ≡ (c, responded (response_of x (generation_in c (d + 1)) offset []))
  -- in a buffer that is too short for the response it gets none, and nothing is done
  pub short : room < 20 → step c (message x room) ≡ (c, responded [])
  pub short_read : (offset n : ℕ) → ReadRequest x d offset n → offset + n ≤ 12 → room < 20 + n
      → step c (message x room) ≡ (c, responded [])
  pub short_write : (offset : ℕ) (bs : List ℕ) → WriteRequest x d (generation_in c (d + 1)) offset bs → 1 ≤ length bs
      → offset + length bs ≤ 12 → room < 20 + length bs
      → step c (message x room) ≡ (c, responded [])

-- Every other message gets no response, the bus outcome (02's term), and nothing is done
pub record MessagesAnswered : Type 0 where
  pub answered : (c : List ℕ) (d : ℕ) → Reaches c d → (x : List ℕ) (room : ℕ) → Answered c d x room
  pub unsound : (c x b : List ℕ) → is_sound c ≡ false → message_of c x b ≡ (0, (c, b))
  pub elsewhere : (c x : List ℕ) (room : ℕ) → (Reaches c (number 2 2 x) → ⊥) → step c (message x room) ≡ (c, responded [])
  pub not_whole : (c x : List ℕ) (room : ℕ) → ((d offset n : ℕ) → ReadRequest x d offset n → ⊥)
      → ((d sent offset : ℕ) (bs : List ℕ) → WriteRequest x d sent offset bs → ⊥) → step c (message x room) ≡ (c, responded [])

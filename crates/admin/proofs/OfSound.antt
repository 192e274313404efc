-- What the code needs to know of a sound card. Assumes nothing.
use mathlib.Core.Path.{◌≡◌}
use mathlib.Core.Bool.{true}
use mathlib.Core.List.{List}
use Prim.Native.Nat.{ℕ, ◌+◌, ◌≤◌, ◌<◌}
use native.Mathlib.Omega.{arith}
use lib.ListN.{length}
use Rattle.card.specs.declared.Setup.{Setup}
use Rattle.inventory.specs.Inventory.{values_size}
use Rattle.member.specs.Record.{member_size, member_of}
use Rattle.card.specs.Layout.{card_header_size, card_size, setup_of, is_member, HasRecord, member_bytes_in, member_in}
use Rattle.card.specs.Sound.{is_sound}
use Rattle.theory.proofs.Tests.{within-high}
use Rattle.card.proofs.ReadLaws.{lent-long}
use Rattle.card.proofs.SoundLaws.{sound-of, sound-long, sound-has, sound-member-in}

module _ (c : List ℕ) (s : is_sound c ≡ true) where
  pub header-there : card_header_size ≤ length c
  header-there = sound-long c (sound-of c s)

  pub length-there : length c ≡ card_size (setup_of c).members
  length-there = (sound-of c s).long

  pub record-there : (m : ℕ) → is_member c m ≡ true → HasRecord c m
  record-there m = sound-has c (sound-of c s) m

  pub ids-few : (x : Setup) → x ≡ setup_of c → x.gets + x.sets < 256
  ids-few x e = let n = (sound-of c s).numbers in rw e (omega arith)

  -- the bytes of a member, and the queue count and the values in them
  module _ (m : ℕ) (h : is_member c m ≡ true) (r : List ℕ) (e : r ≡ member_bytes_in c m) where
    pub bytes-sized : length r ≡ member_size
    bytes-sized = lent-long c m r e (record-there m h)

    pub queues-few : (q : ℕ) → q ≡ (member_of r).queues → q < 5
    unfolding member_in
    queues-few q k = rw (k, e) (omega (arith, within-high 1 4 _ (sound-member-in c (sound-of c s) m h).count))

    pub values-long : (v : List ℕ) → v ≡ (member_of r).values → length v ≡ values_size
    unfolding member_in
    values-long v q = rw (q, e) (sound-member-in c (sound-of c s) m h).shaped.long

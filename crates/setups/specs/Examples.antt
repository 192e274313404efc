-- WORKED EXAMPLES of packed setups: the setup of 01, one of version 2, and each refusal. Assumes nothing.
use Rattle.std.specs.Prelude.{◌≡◌, true, Option, Some, None, Result, Ok, Err, List, [], ◌∷◌, ◌++◌, map, ℕ, replicate}
use Rattle.setups.specs.declared.Setup.{Setup}
use Rattle.setups.specs.declared.ReadRefusal.{ReadRefusal}
use Rattle.setups.specs.declared.ReadRefusal.TheVariants.{Version2, Malformed}
use Rattle.setups.specs.declared.MemberSetup.{MemberSetup}
use Rattle.setups.specs.Setup.{setup_with}
use Rattle.setups.specs.Reading.{read_version1, read_setup}
use Rattle.setups.specs.Member.{member_setup}
use Rattle.setups.specs.Writing.{written}

abbrev pub zeros : List ℕ
zeros = replicate 16 0

-- 1 to 16
abbrev pub features : List ℕ
features = 1 ∷ 2 ∷ 3 ∷ 4 ∷ 5 ∷ 6 ∷ 7 ∷ 8 ∷ 9 ∷ 10 ∷ 11 ∷ 12 ∷ 13 ∷ 14 ∷ 15 ∷ 16 ∷ []

-- the setup of 01's worked examples: N 2, Q 1, G 1, S 1
abbrev pub bench : List ℕ
bench = 0x11 ∷ 0x04 ∷ 0x40 ∷ zeros

-- five members with 1, 2, 3, 4 and 4 queues, G 8, S 5
abbrev pub five : List ℕ
five = 0x24 ∷ 0x21 ∷ 0x40 ∷ 0x1b ∷ 0xc0 ∷ features

-- ---- written ----

pub record Write : Type 0 where
  pub room : ℕ
  pub members : ℕ
  pub queues : List ℕ
  pub gets : ℕ
  pub sets : ℕ
  pub features : List ℕ
  pub count : ℕ
  pub after : List ℕ

-- into a buffer of bytes 9
abbrev pub writes : ℕ → ℕ → List ℕ → ℕ → ℕ → List ℕ → ℕ → List ℕ → Write
writes room members queues gets sets features count after =
    record { room = room; members = members; queues = queues; gets = gets; sets = sets; features = features; count = count; after = after }

unfoldable pub setups_written : List Write
setups_written =
    writes 20 2 (1 ∷ 1 ∷ []) 1 1 zeros 19 (bench ++ (9 ∷ []))
    ∷ writes 21 5 (1 ∷ 2 ∷ 3 ∷ 4 ∷ 4 ∷ []) 8 5 features 21 five
    -- one member, and sixteen of 4 queues, are version 1; sixteen that differ are 23 bytes
    ∷ writes 19 1 (3 ∷ []) 0 8 zeros 19 (0x10 ∷ 0x82 ∷ 0x00 ∷ zeros)
    ∷ writes 19 16 (replicate 16 4) 8 8 zeros 19 (0x1f ∷ 0xe2 ∷ 0x00 ∷ zeros)
    ∷ writes 23 16 (replicate 15 4 ++ (1 ∷ [])) 8 8 zeros 23 (0x2f ∷ 0x22 ∷ 0x00 ∷ 0xff ∷ 0xff ∷ 0xff ∷ 0xfc ∷ zeros)
    -- refused: a short buffer of each version, no member, 17, all 64 bits of a number, a count of 0 and of 5, too many counts,
    -- too many objects, features of 15 bytes
    ∷ writes 18 2 (1 ∷ 1 ∷ []) 1 1 zeros 0 (replicate 18 9)
    ∷ writes 20 5 (1 ∷ 2 ∷ 3 ∷ 4 ∷ 4 ∷ []) 8 5 features 0 (replicate 20 9)
    ∷ writes 20 0 [] 1 1 zeros 0 (replicate 20 9)
    ∷ writes 20 17 (replicate 17 1) 1 1 zeros 0 (replicate 20 9)
    ∷ writes 20 258 (1 ∷ 1 ∷ []) 1 1 zeros 0 (replicate 20 9)
    ∷ writes 20 2 (1 ∷ 0 ∷ []) 1 1 zeros 0 (replicate 20 9)
    ∷ writes 20 2 (1 ∷ 5 ∷ []) 1 1 zeros 0 (replicate 20 9)
    ∷ writes 20 2 (1 ∷ 1 ∷ 1 ∷ []) 1 1 zeros 0 (replicate 20 9)
    ∷ writes 20 2 (1 ∷ 1 ∷ []) 9 1 zeros 0 (replicate 20 9)
    ∷ writes 20 2 (1 ∷ 1 ∷ []) 1 256 zeros 0 (replicate 20 9)
    ∷ writes 20 2 (1 ∷ 1 ∷ []) 1 1 (replicate 15 0) 0 (replicate 20 9)
    ∷ []

abbrev pub SetupsWritten : Type 0
SetupsWritten =
    map (λ (w : Write). written (replicate w.room 9) w.members w.queues w.gets w.sets w.features) setups_written
    ≡ map (λ (w : Write). (w.count, w.after)) setups_written

-- ---- read ----

pub record Read : Type 0 where
  pub bytes : List ℕ
  pub both : Result Setup ReadRefusal
  pub version1 : Result Setup ReadRefusal

-- alike by both readers
abbrev pub reads : List ℕ → Result Setup ReadRefusal → Read
reads l o = record { bytes = l; both = o; version1 = o }

-- by the reader of version 1 refused by name
abbrev pub reads2 : List ℕ → Result Setup ReadRefusal → Read
reads2 l o = record { bytes = l; both = o; version1 = Err Version2 }

unfoldable pub setups_read : List Read
setups_read =
    reads bench (Ok (setup_with 2 (1 ∷ 1 ∷ []) 1 1 zeros))
    ∷ reads2 five (Ok (setup_with 5 (1 ∷ 2 ∷ 3 ∷ 4 ∷ 4 ∷ []) 8 5 features))
    -- version 2 with equal counts
    ∷ reads2 (0x21 ∷ 0x04 ∷ 0x40 ∷ 0x50 ∷ zeros) (Ok (setup_with 2 (2 ∷ 2 ∷ []) 1 1 zeros))
    -- no bytes; one byte, of version 1 and of version 2; a byte too few and one too many
    ∷ reads [] (Err Malformed)
    ∷ reads (0x11 ∷ []) (Err Malformed)
    ∷ reads2 (0x2f ∷ []) (Err Malformed)
    ∷ reads (0x11 ∷ 0x04 ∷ 0x40 ∷ replicate 15 0) (Err Malformed)
    ∷ reads (bench ++ (0 ∷ [])) (Err Malformed)
    ∷ reads2 (0x24 ∷ 0x21 ∷ 0x40 ∷ 0x1b ∷ features) (Err Malformed)
    -- versions 0 and 3
    ∷ reads (0x01 ∷ 0x04 ∷ 0x40 ∷ zeros) (Err Malformed)
    ∷ reads (0x31 ∷ 0x04 ∷ 0x40 ∷ zeros) (Err Malformed)
    -- the six zero bits, in both versions; the bits after the fields; the Q field of version 2
    ∷ reads (0x11 ∷ 0x04 ∷ 0x41 ∷ zeros) (Err Malformed)
    ∷ reads2 (0x24 ∷ 0x21 ∷ 0x60 ∷ 0x1b ∷ 0xc0 ∷ features) (Err Malformed)
    ∷ reads2 (0x24 ∷ 0x21 ∷ 0x40 ∷ 0x1b ∷ 0xe0 ∷ features) (Err Malformed)
    ∷ reads2 (0x24 ∷ 0x61 ∷ 0x40 ∷ 0x1b ∷ 0xc0 ∷ features) (Err Malformed)
    -- G 9, S 9
    ∷ reads (0x11 ∷ 0x24 ∷ 0x40 ∷ zeros) (Err Malformed)
    ∷ reads (0x11 ∷ 0x06 ∷ 0x40 ∷ zeros) (Err Malformed)
    ∷ []

abbrev pub SetupsRead : Type 0
SetupsRead =
    map {B = Result Setup ReadRefusal × Result Setup ReadRefusal} (λ (r : Read). (read_setup r.bytes, read_version1 r.bytes)) setups_read
    ≡ map (λ (r : Read). (r.both, r.version1)) setups_read

-- ---- one member ----

pub record Asked : Type 0 where
  pub bytes : List ℕ
  pub member : ℕ
  pub says : Option MemberSetup

abbrev pub asks : List ℕ → ℕ → Option MemberSetup → Asked
asks l m s = record { bytes = l; member = m; says = s }

unfoldable pub members_asked : List Asked
members_asked =
    asks bench 2 (Some (record { queues = 1; features = zeros }))
    ∷ asks five 3 (Some (record { queues = 3; features = features }))
    -- no member 0 or 6, and 2³² + 1 is not 1; a bad setup has none
    ∷ asks five 0 None
    ∷ asks five 6 None
    ∷ asks five 4294967297 None
    ∷ asks (bench ++ (0 ∷ [])) 1 None
    ∷ []

abbrev pub MembersAsked : Type 0
MembersAsked = map (λ (a : Asked). member_setup a.bytes a.member) members_asked ≡ map (λ (a : Asked). a.says) members_asked

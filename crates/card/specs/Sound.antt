-- When a card is sound (01's term): SPEC 2.4. Assumes nothing.
use Rattle.std.specs.Prelude.{Bool, true, List, ◌≡◌, ℕ, zero, suc, ◌+◌, ◌≤◌, eqb, length}
use Rattle.theory.specs.Logic.{◌and◌}
use Rattle.protocol.specs.Opcodes.{supported_only}
use Rattle.objects.specs.Objects.{objects_size, most_of}
use Rattle.member.specs.Sound.{sound_record}
use Rattle.setups.specs.Setup.{in_ranges}
use Rattle.card.specs.declared.Setup.{Setup}
use Rattle.card.specs.Layout.{card_size, setup_of, in_use_of, member_bytes_in}

-- N, G and S are in the ranges of SPEC 2.1
unfoldable pub sound_setup : Setup → Bool
sound_setup s = in_ranges s.members s.gets s.sets

-- what each object byte may be at most in a card with this setup, whose ids are those below G + S
abbrev pub IsMost : Setup → List ℕ → Type 0
IsMost s most = (s.gets + s.sets ≤ objects_size) × (most ≡ most_of (s.gets + s.sets))

-- a member's record is sound in a card with this setup
abbrev pub sound_for : Setup → List ℕ → Bool
sound_for s r = sound_record s.gets s.sets s.features r

-- members 1 to k
unfoldable pub sound_up_to : Setup → List ℕ → ℕ → Bool
sound_up_to s c zero = true
sound_up_to s c (suc k) = sound_for s (member_bytes_in c (suc k)) and sound_up_to s c k

-- it is as long as its header and N records, its setup is in these ranges, its list in use has supported bits only, and
-- each member is sound
unfoldable pub is_sound : List ℕ → Bool
is_sound c =
    eqb (length c) (card_size (setup_of c).members)
    and sound_setup (setup_of c)
    and supported_only (in_use_of c)
    and sound_up_to (setup_of c) c (setup_of c).members

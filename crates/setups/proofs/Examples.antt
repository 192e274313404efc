-- The worked examples hold by computation. Assumes nothing.
use mathlib.Core.Path.{◌≡◌, refl}
use mathlib.Core.List.{[], ◌∷◌}
use Rattle.std.proofs.Common.{Ok}
use Rattle.theory.specs.Logic.{when◌then◌else◌, unless◌answer◌then◌, ◌and◌, within}
use Rattle.theory.specs.Bytes.{put}
use Rattle.setups.specs.Bits.{bit, bits_at, widths, joined, big_endian, packed}
use Rattle.setups.specs.Setup.{in_ranges, all, in_numbers, no_counts, sixteen, setup_with}
use Rattle.setups.specs.Reading.{counts_from, setup_at, head_right, is_version1, is_version2, take_version1, take_version2, read_version1, read_setup}
use Rattle.setups.specs.Member.{member_of, member_setup}
use Rattle.setups.specs.Writing.{count_fields, are_equal, fields_of, packed_setup, placed, written}
use Rattle.setups.specs.Examples.{features, five, setups_written, SetupsWritten, setups_read, SetupsRead, members_asked, MembersAsked}

pub setups-written : SetupsWritten
unfolding when◌then◌else◌ unless◌answer◌then◌ ◌and◌ within put widths joined big_endian packed in_ranges all in_numbers
    count_fields are_equal fields_of packed_setup placed written setups_written
setups-written = refl

pub setups-read : SetupsRead
unfolding when◌then◌else◌ unless◌answer◌then◌ ◌and◌ put bit bits_at no_counts sixteen counts_from setup_at head_right is_version1 is_version2
    take_version1 take_version2 read_version1 read_setup setups_read
setups-read = refl

pub members-asked : MembersAsked
unfolding when◌then◌else◌ unless◌answer◌then◌ ◌and◌ within put bit bits_at no_counts sixteen counts_from setup_at head_right is_version1 is_version2
    take_version1 take_version2 read_setup member_of member_setup members_asked
members-asked = refl

-- one of those read, for itself
pub read-five : read_setup five ≡ Ok (setup_with 5 (1 ∷ 2 ∷ 3 ∷ 4 ∷ 4 ∷ []) 8 5 features)
unfolding when◌then◌else◌ unless◌answer◌then◌ ◌and◌ put bit bits_at no_counts sixteen counts_from setup_at head_right is_version1 is_version2
    take_version2 read_setup
read-five = refl

-- What a packed setup says of one member: 02, request 9, for requests 7 and 8. Assumes nothing.
use Rattle.std.specs.Prelude.{Option, Some, None, Result, Ok, Err, List, ℕ, ◌-◌, get_or}
use Rattle.theory.specs.Logic.{unless◌answer◌then◌, within}
use Rattle.setups.specs.declared.Setup.{Setup}
use Rattle.setups.specs.declared.MemberSetup.{MemberSetup}
use Rattle.setups.specs.declared.ReadRefusal.{ReadRefusal}
use Rattle.setups.specs.Reading.{read_setup}

-- the member's own queue count, and the features, which are those of all; "a number not 1 to N counts as a bad setup"
unfoldable pub member_of : Setup → ℕ → Option MemberSetup
member_of s m =
    unless within 1 s.members m answer None then
    Some (record { queues = get_or s.queues (m - 1) 0; features = s.features })

-- a bad setup says nothing of any
abbrev pub member_read : Result Setup ReadRefusal → ℕ → Option MemberSetup
member_read (Ok s) m = member_of s m
member_read (Err r) m = None

unfoldable pub member_setup : List ℕ → ℕ → Option MemberSetup
member_setup l m = member_read (read_setup l) m

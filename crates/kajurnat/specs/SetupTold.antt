-- What the readers of packed setups answer, and what they leave in the numbers and buffers lent to them: 02, request 9. Assumes
-- nothing.
use Rattle.std.specs.Prelude.{Result, Ok, Err, List, ℕ, eqb, length}
use Rattle.theory.specs.Logic.{unless◌answer◌then◌, ◌and◌}
use Rattle.setups.specs.declared.Setup.{Setup}
use Rattle.setups.specs.declared.ReadRefusal.{ReadRefusal}
use Rattle.setups.specs.declared.ReadRefusal.TheVariants.{Malformed}
use Rattle.setups.specs.Setup.{most_members, features_size}
use Rattle.setups.specs.Reading.{read_number}

-- answer, members, queue counts, gets, sets and features
abbrev pub SetupTold : Type 0
SetupTold = ℕ × (ℕ × (List ℕ × (ℕ × (ℕ × List ℕ))))

-- refused, all is left as it was: what is no setup first, then buffers that are not 16 bytes
unfoldable pub setup_told : Result Setup ReadRefusal → ℕ → List ℕ → ℕ → ℕ → List ℕ → SetupTold
setup_told (Err r) members queues gets sets features = (read_number {A = Setup} (Err r), (members, (queues, (gets, (sets, features)))))
setup_told (Ok s) members queues gets sets features =
    unless eqb (length queues) most_members and eqb (length features) features_size
    answer (read_number {A = Setup} (Err Malformed), (members, (queues, (gets, (sets, features))))) then
    (0, (s.members, (s.queues, (s.gets, (s.sets, s.features)))))

-- The sheet of a stream: 02, request 11. Assumes nothing.
use Rattle.std.specs.Prelude.{Result, Ok, Err, List, [], ◌∷◌, ℕ, get_or, take, drop}
use Rattle.setups.specs.declared.Setup.{Setup}
use Rattle.setups.specs.declared.ReadRefusal.{ReadRefusal}
use Rattle.setups.specs.Reading.{read_version1}
use Rattle.sheet.specs.Text.{text_of}
use Rattle.stream.specs.Stream.{most, captures_in}
use Rattle.stream.specs.Totals.{figures_of}

-- a setup of version 1
abbrev pub setup_size : ℕ
setup_size = 19

-- `setup refused`
abbrev pub refused_text : List ℕ
refused_text =
    0x73 ∷ 0x65 ∷ 0x74 ∷ 0x75 ∷ 0x70 ∷ 0x20 ∷ 0x72 ∷ 0x65 ∷ 0x66 ∷ 0x75 ∷ 0x73 ∷ 0x65 ∷ 0x64 ∷ 10 ∷ []

-- in a setup of version 1 the first member's queue count is every member's
abbrev pub first_count : Setup → ℕ
first_count s = get_or s.queues 0 0

-- the captures behind a setup, by what its reader answers; version 2 is refused, equal counts or not
abbrev pub sheet_under : Result Setup ReadRefusal → List ℕ → List ℕ
sheet_under (Ok s) l = text_of (figures_of (first_count s) s.features (captures_in most l))
sheet_under (Err r) l = refused_text

-- the setup is the first 19 bytes; fewer are no setup
unfoldable pub sheet_of : List ℕ → List ℕ
sheet_of stream = sheet_under (read_version1 (take setup_size stream)) (drop setup_size stream)

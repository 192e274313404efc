-- WHAT IS CLAIMED of sheets byte for byte: the texts of Examples.antt. Assumes nothing.
use Rattle.std.specs.Prelude.{◌≡◌, IsErr, List, ℕ, take}
use Rattle.setups.specs.Reading.{read_version1}
use Rattle.setups.specs.Examples.{bench}
use Rattle.figures.specs.Sheet.{sheet_of}
use Rattle.figures.specs.Examples.{every_kind, every_kind_sheet, bare_sheet, refused_sheet}

pub record SheetTexts : Type 0 where
  -- the setup of the bench and nothing after it: all 16 numbers are 0, and the stream is whole
  pub bare : sheet_of bench ≡ bare_sheet
  -- a setup that the reader of version 1 does not take: `setup refused` alone, whatever follows. Example: version-2 in
  -- ../proofs/SheetTexts.antt
  pub refused : (l : List ℕ) → IsErr (read_version1 (take 19 l)) → sheet_of l ≡ refused_sheet
  -- captures of each cause, long and accepted ones: no line has the number of another
  pub every_line : sheet_of every_kind ≡ every_kind_sheet

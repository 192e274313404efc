-- The two sheets that 02 gives, by computation, and setups that are refused. Assumes nothing.
use mathlib.Core.Path.{◌≡◌, refl}
use mathlib.Core.Bool.{true}
use mathlib.Core.List.{List, [], ◌∷◌}
use Rattle.std.proofs.Common.{Result, Ok, Err, IsErr}
use Prim.Native.Nat.{ℕ}
use lib.ListN.{replicate}
use Rattle.theory.specs.Logic.{when◌then◌else◌, unless◌answer◌then◌, ◌and◌}
use Rattle.theory.specs.Bytes.{put}
use Rattle.setups.specs.Bits.{bit, bits_at}
use Rattle.setups.specs.Setup.{no_counts, sixteen}
use Rattle.setups.specs.Reading.{counts_from, setup_at, head_right, is_version1, take_version1, read_version1}
use Rattle.setups.specs.Examples.{bench, zeros}
use Rattle.setups.specs.declared.Setup.{Setup}
use Rattle.setups.specs.declared.ReadRefusal.{ReadRefusal}
use Rattle.tally.specs.Rows.{rows, row_count}
use Rattle.sheet.specs.Text.{figures, text_of}
use Rattle.stream.specs.Stream.{captures_in, is_whole}
use Rattle.stream.specs.Totals.{total, totals, figures_of}
use Rattle.figures.specs.Sheet.{refused_text, sheet_under, sheet_of}
use Rattle.figures.specs.Claims.{Sheets}

-- what computes where a proof says `unfolding model`
unfoldable pub model : Unit {0}
unfolding when◌then◌else◌ unless◌answer◌then◌ ◌and◌ put bit bits_at no_counts sixteen counts_from setup_at head_right is_version1
    take_version1 read_version1 captures_in is_whole total totals figures_of rows sheet_of
model = tt

bare-sheet : sheet_of bench ≡ text_of (figures (replicate row_count 0) true)
unfolding model
bare-sheet = refl

refused_as : (o : Result Setup ReadRefusal) (l : List ℕ) → IsErr o → sheet_under o l ≡ refused_text
refused_as (Ok s) l e = cc
refused_as (Err r) l e = refl

pub sheets : Sheets
unfolding sheet_of
sheets = record { bare = bare-sheet; refused = λ l e. refused_as _ _ e }

-- ---- setups that are refused ----

-- version 2, with equal counts, under 19 bytes, and nothing at all
abbrev pub second : List ℕ
second = 0x21 ∷ 0x04 ∷ 0x40 ∷ 0x00 ∷ zeros

version-2 : sheet_of second ≡ refused_text
unfolding model
version-2 = refl

nothing : sheet_of [] ≡ refused_text
unfolding model
nothing = refl

short : sheet_of (0x11 ∷ 0x04 ∷ 0x40 ∷ replicate 15 0) ≡ refused_text
unfolding model
short = refl

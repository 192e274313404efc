-- What specs/SheetTexts.antt claims holds, by computation. Assumes nothing.
use mathlib.Core.Path.{◌≡◌, refl}
use mathlib.Core.Bool.{true}
use mathlib.Core.List.{List}
use Rattle.std.proofs.Common.{Result, Ok, Err, IsErr}
use Prim.Native.Nat.{ℕ}
use Rattle.theory.specs.Logic.{when◌then◌else◌, unless◌answer◌then◌, ◌and◌, ◌or◌, indicator}
use Rattle.theory.specs.Bytes.{put, same}
use Rattle.theory.specs.Items.{items_from}
use Rattle.theory.proofs.Tests.{same_true}
use Rattle.wire.specs.Le.{le, bytes, number}
use Rattle.decimal.specs.Decimal.{digits, decimal, line}
use Rattle.inventory.specs.Inventory.{row_at, present, selector_of, is_row, seek, place_of}
use Rattle.inventory.specs.Inventory.{rows as inventory_rows}
use Rattle.inventory.specs.Queue.{power_below, ring_size, queue_allowed, value_allowed}
use Rattle.setups.specs.Bits.{bit, bits_at}
use Rattle.setups.specs.Setup.{no_counts, sixteen}
use Rattle.setups.specs.Reading.{counts_from, setup_at, head_right, is_version1, take_version1, read_version1}
use Rattle.setups.specs.Examples.{bench}
use Rattle.setups.specs.declared.Setup.{Setup}
use Rattle.setups.specs.declared.ReadRefusal.{ReadRefusal}
use Rattle.parts.specs.List.{header_at, step_at, at_most, parts_from, whole, among}
use Rattle.rules.specs.Rules.{known, known_or_skipped, length_right, size_right, features_same, every, repeated, cause_in}
use Rattle.tally.specs.Rows.{parts_of_type, rows, adds_in}
use Rattle.sheet.specs.Text.{name_at, number_line, text_of}
use Rattle.stream.specs.Stream.{capture_then, captures_in, is_whole}
use Rattle.stream.specs.Totals.{total, totals, figures_of}
use Rattle.figures.specs.Sheet.{sheet_under, sheet_of}
use Rattle.figures.specs.Encoding.{encoded}
use Rattle.figures.specs.Examples.{part_bytes, common, status, queue_of, notify, twice, other_features, no_ring, wrong_length, unknown, cut, each_type, all_but_features, one_skipped, captures, every_kind, every_kind_sheet, bare_sheet, refused_sheet}
use Rattle.figures.specs.SheetTexts.{SheetTexts}
use Rattle.figures.proofs.Sheets.{second}

-- what computes where a proof says `unfolding every_model`
unfoldable pub every_model : Unit {0}
unfolding when◌then◌else◌ unless◌answer◌then◌ ◌and◌ ◌or◌ indicator put same items_from le bytes number digits decimal line
    inventory_rows row_at present selector_of is_row seek place_of power_below ring_size queue_allowed value_allowed
    bit bits_at no_counts sixteen counts_from setup_at head_right is_version1 take_version1 read_version1
    header_at step_at at_most parts_from whole among known known_or_skipped length_right size_right features_same every repeated cause_in
    parts_of_type rows adds_in name_at number_line text_of capture_then captures_in is_whole total totals figures_of sheet_of
    encoded part_bytes common status queue_of notify twice other_features no_ring wrong_length unknown cut
    each_type all_but_features one_skipped captures every_kind
every_model = tt

bare-sheet : same (sheet_of bench) bare_sheet ≡ true
unfolding every_model
bare-sheet = refl

every-line : same (sheet_of every_kind) every_kind_sheet ≡ true
unfolding every_model
every-line = refl

refused_as : (o : Result Setup ReadRefusal) (l : List ℕ) → IsErr o → sheet_under o l ≡ refused_sheet
refused_as (Ok s) l e = cc
refused_as (Err r) l e = refl

pub sheet_texts : SheetTexts
unfolding sheet_of
sheet_texts = record { bare = same_true _ _ bare-sheet; refused = λ l e. refused_as _ _ e; every_line = same_true _ _ every-line }

-- a setup of version 2, with equal counts, is refused
version-2 : sheet_of second ≡ refused_sheet
unfolding every_model
version-2 = refl

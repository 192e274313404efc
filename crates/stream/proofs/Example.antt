-- Captures by computation: none, an empty one, one that is cut, one that is torn, a long one. Assumes nothing.
use mathlib.Core.Path.{◌≡◌, refl}
use mathlib.Core.Bool.{true, false}
use mathlib.Core.List.{List, [], ◌∷◌}
use Prim.Native.Nat.{ℕ}
use lib.ListN.{replicate}
use Rattle.theory.specs.Logic.{when◌then◌else◌, unless◌answer◌then◌, ◌and◌, ◌or◌, indicator}
use Rattle.theory.specs.Items.{items_from}
use Rattle.wire.specs.Le.{le, number}
use Rattle.parts.specs.List.{step_at, at_most, parts_from, whole}
use Rattle.rules.specs.Rules.{every, repeated, cause_in}
use Rattle.tally.specs.Rows.{parts_of_type, rows, adds_in}
use Rattle.sheet.specs.Text.{figures}
use Rattle.stream.specs.Stream.{most, capture_then, captures_in, is_whole}
use Rattle.stream.specs.Totals.{total, totals, figures_of}

-- what computes where a proof says `unfolding model`
unfoldable model : Unit {0}
unfolding when◌then◌else◌ unless◌answer◌then◌ ◌and◌ ◌or◌ indicator items_from le number step_at at_most parts_from whole every repeated cause_in parts_of_type rows adds_in capture_then captures_in is_whole total totals figures_of
model = tt

module _ (queues : ℕ) (features : List ℕ) where
  -- sixteen zeros, and the stream is whole
  nothing : figures_of queues features (captures_in most []) ≡ figures (replicate 16 0) true
  unfolding model
  nothing = refl

  -- an empty capture is accepted, one of one byte is cut, and behind it the stream is torn
  small : figures_of queues features (captures_in most (0 ∷ 0 ∷ 0 ∷ 0 ∷ 1 ∷ 0 ∷ 0 ∷ 0 ∷ 7 ∷ 1 ∷ []))
      ≡ figures (2 ∷ 1 ∷ 1 ∷ 0 ∷ 0 ∷ 0 ∷ 0 ∷ 0 ∷ 0 ∷ 0 ∷ 0 ∷ 0 ∷ 0 ∷ 0 ∷ 0 ∷ 0 ∷ []) false
  unfolding model
  small = refl

  -- 4,065 bytes are long
  large : figures_of queues features (captures_in most (0xe1 ∷ 0x0f ∷ 0 ∷ 0 ∷ replicate 4065 7))
      ≡ figures (1 ∷ 0 ∷ 0 ∷ 0 ∷ 0 ∷ 0 ∷ 0 ∷ 0 ∷ 1 ∷ 0 ∷ 0 ∷ 0 ∷ 0 ∷ 0 ∷ 0 ∷ 0 ∷ []) true
  unfolding model
  large = refl

-- The text of the sheet: 02, request 11. Assumes nothing.
use Rattle.std.specs.Prelude.{Bool, true, false, List, [], ◌∷◌, ◌++◌, ℕ, get_or}
use Rattle.theory.specs.Items.{items_from}
use Rattle.decimal.specs.Decimal.{line}
use Rattle.tally.specs.Rows.{row, rows, row_count}

-- the figures: the numbers in the order of the lines, and whether the stream ended whole
pub record Figures : Type 0 where
  pub counts : List ℕ
  pub ended : Bool

abbrev pub figures : List ℕ → Bool → Figures
figures counts ended = record { counts = counts; ended = ended }

unfoldable pub name_at : ℕ → List ℕ
name_at i = (get_or rows i (row [] (λ queues k c. 0))).name

-- `end whole`, `end torn`
abbrev pub end_line : Bool → List ℕ
end_line true = 0x65 ∷ 0x6e ∷ 0x64 ∷ 0x20 ∷ 0x77 ∷ 0x68 ∷ 0x6f ∷ 0x6c ∷ 0x65 ∷ 10 ∷ []
end_line false = 0x65 ∷ 0x6e ∷ 0x64 ∷ 0x20 ∷ 0x74 ∷ 0x6f ∷ 0x72 ∷ 0x6e ∷ 10 ∷ []

unfoldable pub number_line : List ℕ → ℕ → List ℕ
number_line counts i = line (name_at i) (get_or counts i 0)

-- sixteen lines with a number, and the end
unfoldable pub text_of : Figures → List ℕ
text_of f = items_from (number_line f.counts) row_count 0 ++ end_line f.ended

-- room that is enough for any sheet
abbrev pub sheet_room : ℕ
sheet_room = 512

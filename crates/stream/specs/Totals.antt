-- The figures of captures one after the other: 02, request 11. Assumes nothing.
use Rattle.std.specs.Prelude.{List, [], map, ℕ, ◌+◌}
use Rattle.rules.specs.Rules.{cause_of}
use Rattle.tally.specs.Rows.{Row, rows, cause_line, long_line}
use Rattle.sheet.specs.Text.{Figures}
use Rattle.stream.specs.Stream.{Captures, whole, torn, capture, long, is_whole}

-- the number of a line: what each capture adds to it
unfoldable pub total : ℕ → List ℕ → Captures → Row → ℕ
total queues features whole r = 0
total queues features torn r = 0
total queues features (capture c cs) r =
    r.adds queues (cause_line (cause_of queues features c)) c + total queues features cs r
total queues features (long cs) r = r.adds queues long_line [] + total queues features cs r

unfoldable pub totals : ℕ → List ℕ → Captures → List ℕ
totals queues features cs = map (total queues features cs) rows

unfoldable pub figures_of : ℕ → List ℕ → Captures → Figures
figures_of queues features cs = record { counts = totals queues features cs; ended = is_whole cs }

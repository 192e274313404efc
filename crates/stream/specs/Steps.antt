-- What the private functions leave at the end of an item. No public contract cites this. Assumes nothing.
use Rattle.std.specs.Prelude.{List, [], ℕ, ◌-◌, ◌^◌, eqb, leb, ltb}
use Rattle.theory.specs.Logic.{when◌then◌else◌}
use Rattle.tally.specs.Counts.{◌plus◌}
use Rattle.tally.specs.Rows.{longest, adds_of, adds_long}
use Rattle.stream.specs.Stream.{length_size, most}
use Rattle.stream.specs.Progress.{read_of}
use Rattle.stream.specs.declared.Item.{Item}
use Rattle.stream.specs.declared.Item.TheVariants as item
use Rattle.stream.specs.declared.Progress.{Progress}

abbrev pub progress : Item → ℕ → ℕ → List ℕ → Progress
progress i have left counts = record { item = i; have = have; left = left; counts = counts }

-- a capture has ended: a length comes next, or nothing more is taken
unfoldable pub awaiting : List ℕ → Progress
awaiting counts =
    when ltb (read_of counts) most then progress item.Length 0 length_size counts else
    progress item.Stopped 0 (2 ^ 64 - 1) counts

-- a length has ended: its capture comes next; one of no bytes has ended too
unfoldable pub opened : ℕ → List ℕ → List ℕ → ℕ → Progress
opened queues features counts n =
    when eqb n 0 then awaiting (counts plus adds_of queues features []) else
    when leb n longest then progress item.Capture 0 n counts else
    progress item.Skipped 0 n counts

-- n bytes more of a long capture
unfoldable pub skipped : Progress → ℕ → Progress
skipped p n =
    when ltb n p.left then progress item.Skipped 0 (p.left - n) p.counts else
    awaiting (p.counts plus adds_long)
